-- What arguments give, and what rules make of it.
use Rattle.std.proofs.Common.{◌≡◌, ℕ, zero, suc, ◌-◌, ℤ, Bool, true, false, cond, IsFalse, arith, Option, Some, None, Result, Ok, Err, refl, sym, ap, ◌∙◌, subst}
use Rattle.cell_values.specs.declared.values.Value.{Value}
use Rattle.cell_values.specs.declared.address.Addr.{Addr}
use Rattle.cell_values.specs.Texts.{Texts}
use Rattle.formula_trees.specs.declared.tree.Fun.{Fun}
use Rattle.formula_trees.specs.declared.tree.Op.{Op}
use Rattle.formula_trees.specs.declared.tree.Sign.{Sign}
use Rattle.formula_trees.specs.Expr.{Expr, Exprs, Unary, Binary, Call, End, More}
use Rattle.formula_trees.specs.Mentions.{place_of}
use Rattle.builtin_functions.specs.declared.folds.FoldKind.{FoldKind}
use Rattle.builtin_functions.specs.declared.operators.Op2.{Op2}
use Rattle.builtin_functions.specs.Folds.{Total}
use Rattle.builtin_functions.specs.Tables.{table, binary_value}
use Rattle.cell_values.specs.Values.{IsValueOf, as_number, is_error}
use Rattle.demand_spec.specs.declared.Asked.{Asked}
use Rattle.demand_spec.specs.declared.Asked.TheVariants.{Val, Needs}
use Rattle.demand_spec.specs.declared.arguments.Given.{Given}
use Rattle.demand_spec.specs.declared.arguments.OfOne.{OfOne}
use Rattle.demand_spec.specs.declared.arguments.OfTwo.{OfTwo}
use Rattle.demand_spec.specs.Asks.{on_with, and_on, value_or_end, number_or_end, argument_at, ask_chosen, ask_fold, ask_two, fold_part, v_lookup_steps, h_lookup_steps}
use Rattle.demand_spec.specs.Formula.{from_one}
use Rattle.demand_spec.specs.Given.{IsAnswerOf, argument_of, given_before, given_by, index_or_end, if_then, sign_of_one, operator_of_two, if_rule, not_rule, if_error_rule, is_error_rule, one_given, one_rule, two_given, two_rule, count_or_one, mid_rule, AreGivenOf, index_rule, match_of, match_rule, lookup_of, lookup_rule}
use Rattle.demand_spec.specs.Stage.{Sight, book_of, known_of, look_on, ask_on}
use Rattle.demand_spec.proofs.Asks.{ask_unary, ask_binary, ask_and_more, ask_or_more, ask_if_two, ask_if_three, ask_not, ask_if_error, ask_is_error, ask_abs_all, ask_len, ask_two_all, ask_left, ask_left_one, ask_right, ask_right_one, ask_mid, binary_is as binary_no_error, ask_index_steps, ask_match_steps, ask_v_lookup_steps, ask_h_lookup_steps, ask_choose, ask_fold_more}

-- a value that goes on is of these texts
pub value_is_of : (ts : Texts) (a : Asked) (v : Value) → IsAnswerOf ts a → Ok v ≡ value_or_end a → IsValueOf ts v
value_is_of ts (Val w) v h e = go (is_error w) e
  where
    go : (q : Bool) → Ok v ≡ cond q (Err (Val w)) (Ok w) → IsValueOf ts v
    go true p = absurd (cc)
    go false p = (let same : w ≡ v = cc in subst (IsValueOf ts) same h)
value_is_of ts (Needs x) v h e = cc

-- four arguments or more
given_four : (s : Sight) (at : Addr) (a b c d : Expr) (rest : Exprs) → given_by s at (More a (More b (More c (More d rest)))) ≡ Given.Four (argument_of s at a) (argument_of s at b) (argument_of s at c)
given_four s at a b c d rest = go (given_by s at rest)
  where
    go : (g : Given) → given_before (argument_of s at a) (given_before (argument_of s at b) (given_before (argument_of s at c) (given_before (argument_of s at d) g))) ≡ Given.Four (argument_of s at a) (argument_of s at b) (argument_of s at c)
    go Given.Zero = refl
    go (Given.One x) = refl
    go (Given.Two x y) = refl
    go (Given.Three x y z) = refl
    go (Given.Four x y z) = refl

-- calls, by their rules

pub if_is : (s : Sight) (at : Addr) (args : Exprs) → ask_on s at (Call Fun.If args) ≡ if_rule (given_by s at args)
if_is s at End = refl
if_is s at (More a End) = refl
if_is s at (More a (More b End)) = ask_if_two (book_of s) (known_of s) at a b
if_is s at (More a (More b (More c End))) = ask_if_three (book_of s) (known_of s) at a b c
if_is s at (More a (More b (More c (More d rest)))) = sym (ap if_rule (given_four s at a b c d rest))

pub not_is : (s : Sight) (at : Addr) (args : Exprs) → ask_on s at (Call Fun.Not args) ≡ not_rule (given_by s at args)
not_is s at End = refl
not_is s at (More a End) = ask_not (book_of s) (known_of s) at a
not_is s at (More a (More b End)) = refl
not_is s at (More a (More b (More c End))) = refl
not_is s at (More a (More b (More c (More d rest)))) = sym (ap not_rule (given_four s at a b c d rest))

pub if_error_is : (s : Sight) (at : Addr) (args : Exprs) → ask_on s at (Call Fun.IfError args) ≡ if_error_rule (given_by s at args)
if_error_is s at End = refl
if_error_is s at (More a End) = refl
if_error_is s at (More a (More b End)) = ask_if_error (book_of s) (known_of s) at a b
if_error_is s at (More a (More b (More c End))) = refl
if_error_is s at (More a (More b (More c (More d rest)))) = sym (ap if_error_rule (given_four s at a b c d rest))

pub is_error_is : (s : Sight) (at : Addr) (args : Exprs) → ask_on s at (Call Fun.IsError args) ≡ is_error_rule (given_by s at args)
is_error_is s at End = refl
is_error_is s at (More a End) = ask_is_error (book_of s) (known_of s) at a
is_error_is s at (More a (More b End)) = refl
is_error_is s at (More a (More b (More c End))) = refl
is_error_is s at (More a (More b (More c (More d rest)))) = sym (ap is_error_rule (given_four s at a b c d rest))

pub abs_is : (s : Sight) (at : Addr) (args : Exprs) → ask_on s at (Call Fun.Abs args) ≡ one_rule (one_given s.texts OfOne.Abs) (given_by s at args)
abs_is s at End = refl
abs_is s at (More a End) = ask_abs_all (book_of s) (known_of s) at a
abs_is s at (More a (More b End)) = refl
abs_is s at (More a (More b (More c End))) = refl
abs_is s at (More a (More b (More c (More d rest)))) = sym (ap (one_rule (one_given s.texts OfOne.Abs)) (given_four s at a b c d rest))

pub len_is : (s : Sight) (at : Addr) (args : Exprs) → ask_on s at (Call Fun.Len args) ≡ one_rule (one_given s.texts OfOne.Len) (given_by s at args)
len_is s at End = refl
len_is s at (More a End) = ask_len (book_of s) (known_of s) at a
len_is s at (More a (More b End)) = refl
len_is s at (More a (More b (More c End))) = refl
len_is s at (More a (More b (More c (More d rest)))) = sym (ap (one_rule (one_given s.texts OfOne.Len)) (given_four s at a b c d rest))

two_is : (s : Sight) (at : Addr) (f g : Value → Value → Value) → ((v w : Value) → IsFalse (is_error v) → IsFalse (is_error w) → f v w ≡ g v w) → (args : Exprs) → ask_two (book_of s) (known_of s) at f args ≡ two_rule g (given_by s at args)
two_is s at f g h End = refl
two_is s at f g h (More a End) = refl
two_is s at f g h (More a (More b End)) = ask_two_all (book_of s) (known_of s) at f g h a b
two_is s at f g h (More a (More b (More c End))) = refl
two_is s at f g h (More a (More b (More c (More d rest)))) = sym (ap (two_rule g) (given_four s at a b c d rest))

pub mod_is : (s : Sight) (at : Addr) (args : Exprs) → ask_on s at (Call Fun.Mod args) ≡ two_rule (two_given s.texts (OfTwo.Table Op2.Mod)) (given_by s at args)
mod_is s at args = two_is s at (table s.texts Op2.Mod) (binary_value s.texts Op2.Mod) (λ v w h k. sym (binary_no_error s.texts Op2.Mod v w h k)) args

pub quotient_is : (s : Sight) (at : Addr) (args : Exprs) → ask_on s at (Call Fun.Quotient args) ≡ two_rule (two_given s.texts (OfTwo.Table Op2.Quotient)) (given_by s at args)
quotient_is s at args = two_is s at (table s.texts Op2.Quotient) (binary_value s.texts Op2.Quotient) (λ v w h k. sym (binary_no_error s.texts Op2.Quotient v w h k)) args

pub left_is : (s : Sight) (at : Addr) (args : Exprs) → ask_on s at (Call Fun.Left args) ≡ two_rule (two_given s.texts OfTwo.Left) (count_or_one (given_by s at args))
left_is s at End = refl
left_is s at (More a End) = ask_left_one (book_of s) (known_of s) at a
left_is s at (More a (More b End)) = ask_left (book_of s) (known_of s) at a b
left_is s at (More a (More b (More c End))) = refl
left_is s at (More a (More b (More c (More d rest)))) = sym (ap (λ g. two_rule (two_given s.texts OfTwo.Left) (count_or_one g)) (given_four s at a b c d rest))

pub right_is : (s : Sight) (at : Addr) (args : Exprs) → ask_on s at (Call Fun.Right args) ≡ two_rule (two_given s.texts OfTwo.Right) (count_or_one (given_by s at args))
right_is s at End = refl
right_is s at (More a End) = ask_right_one (book_of s) (known_of s) at a
right_is s at (More a (More b End)) = ask_right (book_of s) (known_of s) at a b
right_is s at (More a (More b (More c End))) = refl
right_is s at (More a (More b (More c (More d rest)))) = sym (ap (λ g. two_rule (two_given s.texts OfTwo.Right) (count_or_one g)) (given_four s at a b c d rest))

pub mid_is : (s : Sight) (at : Addr) (args : Exprs) → ask_on s at (Call Fun.Mid args) ≡ mid_rule s.texts (given_by s at args)
mid_is s at End = refl
mid_is s at (More a End) = refl
mid_is s at (More a (More b End)) = refl
mid_is s at (More a (More b (More c End))) = ask_mid (book_of s) (known_of s) at a b c
mid_is s at (More a (More b (More c (More d rest)))) = sym (ap (mid_rule s.texts) (given_four s at a b c d rest))

-- where 1 stands for a count, the values are still of these texts
pub counted_given : (ts : Texts) (g : Given) → AreGivenOf ts g → AreGivenOf ts (count_or_one g)
counted_given ts Given.Zero h = tt
counted_given ts (Given.One a) h = (h, tt)
counted_given ts (Given.Two a b) h = h
counted_given ts (Given.Three a b c) h = h
counted_given ts (Given.Four a b c) h = h

pub index_is : (s : Sight) (at : Addr) (args : Exprs) → ask_on s at (Call Fun.Index args) ≡ index_rule s (given_by s at args)
index_is s at End = refl
index_is s at (More a End) = refl
index_is s at (More a (More b End)) = refl
index_is s at (More a (More b (More c End))) = ask_index_steps (book_of s) (known_of s) at a b c
index_is s at (More a (More b (More c (More d rest)))) = sym (ap (index_rule s) (given_four s at a b c d rest))

match_two : (s : Sight) (at : Addr) (a b : Expr) (rest : Exprs) → ask_on s at (Call Fun.Match (More a (More b rest))) ≡ match_of s (ask_on s at a) (place_of at b)
match_two s at a b rest = ask_match_steps (book_of s) (known_of s) at a b rest

pub match_is : (s : Sight) (at : Addr) (args : Exprs) → ask_on s at (Call Fun.Match args) ≡ match_rule s (given_by s at args)
match_is s at End = refl
match_is s at (More a End) = refl
match_is s at (More a (More b End)) = match_two s at a b End
match_is s at (More a (More b (More c End))) = match_two s at a b (More c End)
match_is s at (More a (More b (More c (More d rest)))) = match_two s at a b (More c (More d rest)) ∙ sym (ap (match_rule s) (given_four s at a b c d rest))

v_lookup_three : (s : Sight) (at : Addr) (a b c : Expr) (rest : Exprs) → ask_on s at (Call Fun.VLookup (More a (More b (More c rest)))) ≡ lookup_of (v_lookup_steps (look_on s) s.texts) (ask_on s at a) (place_of at b) (ask_on s at c)
v_lookup_three s at a b c rest = ask_v_lookup_steps (book_of s) (known_of s) at a b c rest

pub v_lookup_is : (s : Sight) (at : Addr) (args : Exprs) → ask_on s at (Call Fun.VLookup args) ≡ lookup_rule (v_lookup_steps (look_on s) s.texts) (given_by s at args)
v_lookup_is s at End = refl
v_lookup_is s at (More a End) = refl
v_lookup_is s at (More a (More b End)) = refl
v_lookup_is s at (More a (More b (More c End))) = v_lookup_three s at a b c End
v_lookup_is s at (More a (More b (More c (More d rest)))) = v_lookup_three s at a b c (More d rest) ∙ sym (ap (lookup_rule (v_lookup_steps (look_on s) s.texts)) (given_four s at a b c d rest))

h_lookup_three : (s : Sight) (at : Addr) (a b c : Expr) (rest : Exprs) → ask_on s at (Call Fun.HLookup (More a (More b (More c rest)))) ≡ lookup_of (h_lookup_steps (look_on s) s.texts) (ask_on s at a) (place_of at b) (ask_on s at c)
h_lookup_three s at a b c rest = ask_h_lookup_steps (book_of s) (known_of s) at a b c rest

pub h_lookup_is : (s : Sight) (at : Addr) (args : Exprs) → ask_on s at (Call Fun.HLookup args) ≡ lookup_rule (h_lookup_steps (look_on s) s.texts) (given_by s at args)
h_lookup_is s at End = refl
h_lookup_is s at (More a End) = refl
h_lookup_is s at (More a (More b End)) = refl
h_lookup_is s at (More a (More b (More c End))) = h_lookup_three s at a b c End
h_lookup_is s at (More a (More b (More c (More d rest)))) = h_lookup_three s at a b c (More d rest) ∙ sym (ap (lookup_rule (h_lookup_steps (look_on s) s.texts)) (given_four s at a b c d rest))

pub choose_is : (s : Sight) (at : Addr) (t : Expr) (rest : Exprs) → ask_on s at (Call Fun.Choose (More t rest)) ≡ on_with (index_or_end (ask_on s at t)) (λ o. ask_chosen (book_of s) (known_of s) at o rest)
choose_is s at t rest = ask_choose (book_of s) (known_of s) at t rest ∙ go (value_or_end (ask_on s at t))
  where
    by_number : (o : Option ℤ) → on_with (number_or_end o) (λ z. ask_chosen (book_of s) (known_of s) at (from_one z) rest) ≡ on_with (and_on (number_or_end o) (λ z. Ok (from_one z))) (λ o. ask_chosen (book_of s) (known_of s) at o rest)
    by_number (Some z) = refl
    by_number None = refl

    go : (r : Result Value Asked) → on_with r (λ v. on_with (number_or_end (as_number v)) (λ z. ask_chosen (book_of s) (known_of s) at (from_one z) rest)) ≡ on_with (and_on r (λ v. and_on (number_or_end (as_number v)) (λ z. Ok (from_one z)))) (λ o. ask_chosen (book_of s) (known_of s) at o rest)
    go (Ok v) = by_number (as_number v)
    go (Err e) = refl

pub fold_is : (s : Sight) (at : Addr) (k : FoldKind) (t : Total) (x : Expr) (rest : Exprs) → ask_fold (book_of s) (known_of s) at k t (More x rest) ≡ on_with (fold_part (look_on s) k t (place_of at x) (ask_on s at x)) (λ u. ask_fold (book_of s) (known_of s) at k u rest)
fold_is s at k t x rest = ask_fold_more (book_of s) (known_of s) at k t x rest

-- formulas with parts, over a sight

pub and_is : (s : Sight) (at : Addr) (t : Expr) (rest : Exprs) → ask_on s at (Call Fun.And (More t rest)) ≡ if_then (ask_on s at t) (ask_on s at (Call Fun.And rest)) (Val (Value.Bool false))
and_is s at t rest = ask_and_more (book_of s) (known_of s) at t rest

pub or_is : (s : Sight) (at : Addr) (t : Expr) (rest : Exprs) → ask_on s at (Call Fun.Or (More t rest)) ≡ if_then (ask_on s at t) (Val (Value.Bool true)) (ask_on s at (Call Fun.Or rest))
or_is s at t rest = ask_or_more (book_of s) (known_of s) at t rest

pub unary_is : (s : Sight) (at : Addr) (g : Sign) (t : Expr) → ask_on s at (Unary g t) ≡ sign_of_one g (ask_on s at t)
unary_is s at g t = ask_unary (book_of s) (known_of s) at g t

pub binary_is : (s : Sight) (at : Addr) (o : Op) (t u : Expr) → ask_on s at (Binary o t u) ≡ operator_of_two s.texts o (ask_on s at t) (ask_on s at u)
binary_is s at o t u = ask_binary (book_of s) (known_of s) at o t u

pub later_is : (s : Sight) (at : Addr) (n : ℕ) (x : Expr) (rest : Exprs) → (n ≡ 0 → ⊥) → argument_at n (More x rest) ≡ argument_at (n - 1) rest
later_is s at zero x rest h = absurd (h refl)
later_is s at (suc n) x rest h = (let same : n ≡ suc n - 1 = omega arith in ap (λ z. argument_at z rest) same)
