-- What the arguments of a call give, and what the call gives from that.
use Rattle.std.specs.Prelude.{ℕ, pos, false, not, cond, Option, Result, Ok}
use Rattle.cell_values.specs.declared.address.Addr.{Addr}
use Rattle.cell_values.specs.declared.values.Code.{Code}
use Rattle.cell_values.specs.declared.values.Value.{Value}
use Rattle.cell_values.specs.Texts.{Texts}
use Rattle.formula_trees.specs.declared.tree.Op.{Op}
use Rattle.formula_trees.specs.declared.tree.Sign.{Sign}
use Rattle.formula_trees.specs.Expr.{Expr, Exprs, End, More}
use Rattle.formula_trees.specs.declared.place.Place.{Place}
use Rattle.formula_trees.specs.declared.place.Place.TheVariants.{Nowhere}
use Rattle.formula_trees.specs.Mentions.{place_of, HasArea}
use Rattle.builtin_functions.specs.declared.operators.Sign2.{Sign2}
use Rattle.builtin_functions.specs.Tables.{unary_value, binary_value}
use Rattle.cell_values.specs.Values.{IsValueOf, as_number, is_error}
use Rattle.demand_spec.specs.declared.Asked.{Asked}
use Rattle.demand_spec.specs.declared.Asked.TheVariants.{Val, Needs}
use Rattle.demand_spec.specs.declared.arguments.Argument.{Argument}
use Rattle.demand_spec.specs.declared.arguments.Given.{Given}
use Rattle.demand_spec.specs.declared.arguments.OfOne.{OfOne}
use Rattle.demand_spec.specs.declared.arguments.OfTwo.{OfTwo}
use Rattle.computed_text.specs.Computed.{left_of, right_of, mid_of, length_of}
use Rattle.demand_spec.specs.Asks.{on_with, and_on, any_value, value_or_end, condition_or_end, number_or_end, if_error, index_steps, match_steps}
use Rattle.demand_spec.specs.Formula.{from_one, operator_value, sign_value}
use Rattle.demand_spec.specs.Stage.{Sight, look_on, ask_on}

-- a value that is given is one of these texts'
abbrev pub IsAnswerOf : Texts → Asked → Type 0
IsAnswerOf ts (Val v) = IsValueOf ts v
IsAnswerOf ts (Needs x) = Unit {0}

-- an argument: what it gives, and where it stands
abbrev pub argument_of : Sight → Addr → Expr → Argument
argument_of s at t = record { value = ask_on s at t; place = place_of at t }

-- an argument before the others
abbrev pub given_before : Argument → Given → Given
given_before a Given.Zero = Given.One a
given_before a (Given.One b) = Given.Two a b
given_before a (Given.Two b c) = Given.Three a b c
given_before a (Given.Three b c d) = Given.Four a b c
given_before a (Given.Four b c d) = Given.Four a b c

abbrev pub given_by : Sight → Addr → Exprs → Given
given_by s at End = Given.Zero
given_by s at (More a rest) = given_before (argument_of s at a) (given_by s at rest)

-- the values that the arguments give are of these texts
abbrev pub AreGivenOf : Texts → Given → Type 0
AreGivenOf ts Given.Zero = Unit {0}
AreGivenOf ts (Given.One a) = IsAnswerOf ts a.value
AreGivenOf ts (Given.Two a b) = IsAnswerOf ts a.value × IsAnswerOf ts b.value
AreGivenOf ts (Given.Three a b c) = IsAnswerOf ts a.value × IsAnswerOf ts b.value × IsAnswerOf ts c.value
AreGivenOf ts (Given.Four a b c) = IsAnswerOf ts a.value × IsAnswerOf ts b.value × IsAnswerOf ts c.value

-- a condition, and then one of two
abbrev pub if_then : Asked → Asked → Asked → Asked
if_then condition first other = on_with (condition_or_end condition) (λ b. cond b first other)

abbrev pub not_of : Asked → Asked
not_of a = on_with (condition_or_end a) (λ b. Val (Value.Bool (not b)))

abbrev pub is_error_of : Asked → Asked
is_error_of a = on_with (any_value a) (λ v. Val (Value.Bool (is_error v)))

abbrev pub sign_of_one : Sign → Asked → Asked
sign_of_one sign a = on_with (value_or_end a) (λ x. Val (sign_value sign x))

abbrev pub operator_of_two : Texts → Op → Asked → Asked → Asked
operator_of_two ts op a b = on_with (value_or_end a) (λ x. on_with (value_or_end b) (λ y. Val (operator_value ts op x y)))

-- CHOOSE's index, from 1 on and counted from 0
abbrev pub index_or_end : Asked → Result (Option ℕ) Asked
index_or_end a = and_on (value_or_end a) (λ v. and_on (number_or_end (as_number v)) (λ z. Ok (from_one z)))

-- The functions over what their arguments give

abbrev pub if_rule : Given → Asked
if_rule (Given.Two c t) = if_then c.value t.value (Val (Value.Bool false))
if_rule (Given.Three c t e) = if_then c.value t.value e.value
if_rule _ = Val (Value.Error Code.Value)

abbrev pub not_rule : Given → Asked
not_rule (Given.One a) = not_of a.value
not_rule _ = Val (Value.Error Code.Value)

abbrev pub if_error_rule : Given → Asked
if_error_rule (Given.Two a b) = if_error a.value b.value
if_error_rule _ = Val (Value.Error Code.Value)

abbrev pub is_error_rule : Given → Asked
is_error_rule (Given.One a) = is_error_of a.value
is_error_rule _ = Val (Value.Error Code.Value)

-- functions of one value

abbrev pub one_given : Texts → OfOne → Value → Value
one_given ts OfOne.Abs x = unary_value Sign2.Abs x
one_given ts OfOne.Len x = length_of ts x

abbrev pub one_rule : (Value → Value) → Given → Asked
one_rule f (Given.One a) = on_with (value_or_end a.value) (λ x. Val (f x))
one_rule f _ = Val (Value.Error Code.Value)

-- functions of two values

abbrev pub two_given : Texts → OfTwo → Value → Value → Value
two_given ts (OfTwo.Table op) x y = binary_value ts op x y
two_given ts OfTwo.Left x y = left_of ts x y
two_given ts OfTwo.Right x y = right_of ts x y

abbrev pub two_rule : (Value → Value → Value) → Given → Asked
two_rule f (Given.Two a b) = on_with (value_or_end a.value) (λ x. on_with (value_or_end b.value) (λ y. Val (f x y)))
two_rule f _ = Val (Value.Error Code.Value)

-- LEFT and RIGHT: 1 stands for a count that is not given
abbrev pub count_or_one : Given → Given
count_or_one Given.Zero = Given.Zero
count_or_one (Given.One t) = Given.Two t (record { value = Val (Value.Number (pos 1)); place = Nowhere })
count_or_one (Given.Two t n) = Given.Two t n
count_or_one (Given.Three a b c) = Given.Three a b c
count_or_one (Given.Four a b c) = Given.Four a b c

-- MID
abbrev pub mid_of_three : Texts → Asked → Asked → Asked → Asked
mid_of_three ts t s n = on_with (value_or_end t) (λ x. on_with (value_or_end s) (λ i. on_with (value_or_end n) (λ k. Val (mid_of ts x i k))))

abbrev pub mid_rule : Texts → Given → Asked
mid_rule ts (Given.Three t s n) = mid_of_three ts t.value s.value n.value
mid_rule ts _ = Val (Value.Error Code.Value)

abbrev pub index_rule : Sight → Given → Asked
index_rule s (Given.Three range row col) = on_with (value_or_end row.value) (λ v. on_with (value_or_end col.value) (λ w. index_steps (look_on s) v w range.place))
index_rule s _ = Val (Value.Error Code.Value)

abbrev pub match_of : Sight → Asked → Place → Asked
match_of s key range = on_with (value_or_end key) (λ k. match_steps (look_on s) s.texts k range)

abbrev pub match_rule : Sight → Given → Asked
match_rule s (Given.Two key range) = match_of s key.value range.place
match_rule s (Given.Three key range x) = match_of s key.value range.place
match_rule s (Given.Four key range x) = match_of s key.value range.place
match_rule s _ = Val (Value.Error Code.Value)

-- the steps of a lookup behind a key and a place argument
abbrev pub lookup_of : (Value → Value → Place → Asked) → Asked → Place → Asked → Asked
lookup_of steps key range place = on_with (value_or_end key) (λ k. on_with (value_or_end place) (λ v. steps k v range))

abbrev pub lookup_rule : (Value → Value → Place → Asked) → Given → Asked
lookup_rule steps (Given.Three key range place) = lookup_of steps key.value range.place place.value
lookup_rule steps (Given.Four key range place) = lookup_of steps key.value range.place place.value
lookup_rule steps _ = Val (Value.Error Code.Value)

-- where an argument has cells, they are a rectangle of a sheet
abbrev pub HaveAreas : Given → Type 0
HaveAreas Given.Zero = Unit {0}
HaveAreas (Given.One a) = HasArea a.place
HaveAreas (Given.Two a b) = HasArea a.place × HasArea b.place
HaveAreas (Given.Three a b c) = HasArea a.place × HasArea b.place × HasArea c.place
HaveAreas (Given.Four a b c) = HasArea a.place × HasArea b.place × HasArea c.place
