-- An error ends an operator or a function, and what they give names no text of the book.
use Rattle.std.proofs.Common.{◌≡◌, ℤ, Bool, true, false, cond, Option, Some, None, option_and_then, refl, sym, ap, ◌∙◌, subst}
use Rattle.cell_values.specs.declared.values.Value.{Value}
use Rattle.cell_values.specs.Texts.{Texts}
use Rattle.cell_values.specs.ShownText.{value_text}
use Rattle.builtin_functions.specs.declared.operators.Op2.{Op2}
use Rattle.builtin_functions.specs.declared.operators.Sign2.{Sign2}
use Rattle.cell_values.specs.Values.{IsValueOf, is_error, as_number}
use Rattle.builtin_functions.specs.Tables.{table, sign_table, binary_value, unary_value}
use Rattle.computed_text.specs.Computed.{short_or_fail, part, not_negative, count_of, one_less, with_count, mid_of}
use Rattle.demand_spec.specs.Plan.{Plan, Give}
use Rattle.formula_trees.specs.declared.tree.Op.{Op}
use Rattle.formula_trees.specs.declared.tree.Sign.{Sign}
use Rattle.demand_spec.specs.Formula.{unless_error, op_of, sign_of, operator_table, operator_value, sign_value}
use Rattle.demand_spec.proofs.Plain.{table_plain, sign_plain, operator_plain, plain_is_of}
use Rattle.formula_eval.specs.Machine.{start_number, error_or}

pub error_value : (ts : Texts) (v : Value) → is_error v ≡ true → IsValueOf ts v
error_value ts (Value.Error e) h = tt
error_value ts (Value.Number n) h = absurd (cc)
error_value ts (Value.Text n) h = absurd (cc)
error_value ts (Value.Short t) h = absurd (cc)
error_value ts (Value.Bool n) h = absurd (cc)
error_value ts Value.Blank h = absurd (cc)

-- a value that ends all or is passed on
pub no_error : (v : Value) (f : Value → Plan) → is_error v ≡ false → unless_error v f ≡ f v
no_error v f h = ap (λ q. cond q (Give v) (f v)) h

pub error_is : (v : Value) (f : Value → Plan) → is_error v ≡ true → unless_error v f ≡ Give v
error_is v f h = ap (λ q. cond q (Give v) (f v)) h

-- an error or a value of these texts is one of them
either_value : (ts : Texts) (q : Bool) (v u : Value) → is_error v ≡ q → IsValueOf ts u → IsValueOf ts (cond q v u)
either_value ts true v u e h = error_value ts v e
either_value ts false v u e h = h

-- the end with an error, before what is given and in it
ended : (q : Bool) (v u : Value) → cond q (Give v) (Give u) ≡ Give (cond q v u)
ended true v u = refl
ended false v u = refl

ended_twice : (q : Bool) (v u : Value) → cond q (Give v) (Give (cond q v u)) ≡ Give (cond q v u)
ended_twice true v u = refl
ended_twice false v u = refl

pub error_or_is : (g : Value → Value) (v : Value) → unless_error v (λ y. Give (g y)) ≡ Give (error_or g v)
error_or_is g v = ended (is_error v) v (g v)

pub unary_is : (s : Sign2) (v : Value) → unless_error v (λ x. Give (sign_table s x)) ≡ Give (unary_value s v)
unary_is s v = ended (is_error v) v (sign_table s v)

pub unary_meant : (ts : Texts) (s : Sign2) (v : Value) → IsValueOf ts (unary_value s v)
unary_meant ts s v = either_value ts (is_error v) v (sign_table s v) refl (plain_is_of ts (sign_table s v) (sign_plain s v))

pub binary_is : (ts : Texts) (o : Op2) (x v : Value) → is_error x ≡ false → unless_error v (λ y. Give (table ts o x y)) ≡ Give (binary_value ts o x v)
binary_is ts o x v h = ended (is_error v) v (table ts o x v) ∙ ap (λ q. Give (cond q x (cond (is_error v) v (table ts o x v)))) (sym h)

pub binary_meant : (ts : Texts) (o : Op2) (x v : Value) → IsValueOf ts (binary_value ts o x v)
binary_meant ts o x v = either_value ts (is_error x) x (cond (is_error v) v (table ts o x v)) refl (either_value ts (is_error v) v (table ts o x v) refl (plain_is_of ts (table ts o x v) (table_plain ts o x v)))

-- the same of the operators and signs of formulas

pub sign_is : (s : Sign) (v : Value) → unless_error v (λ x. Give (sign_value s x)) ≡ Give (sign_value s v)
sign_is s v = ended_twice (is_error v) v (sign_table (sign_of s) v)

pub sign_meant : (ts : Texts) (s : Sign) (v : Value) → IsValueOf ts (sign_value s v)
sign_meant ts s v = unary_meant ts (sign_of s) v

pub operator_is : (ts : Texts) (o : Op) (x v : Value) → is_error x ≡ false → unless_error v (λ y. Give (operator_value ts o x y)) ≡ Give (operator_value ts o x v)
operator_is ts o x v h = subst (λ p. cond (is_error v) (Give v) (Give (cond p x (cond (is_error v) v (operator_table ts (op_of o) x v)))) ≡ Give (cond p x (cond (is_error v) v (operator_table ts (op_of o) x v)))) (sym h) (ended_twice (is_error v) v (operator_table ts (op_of o) x v))

pub operator_meant : (ts : Texts) (o : Op) (x v : Value) → IsValueOf ts (operator_value ts o x v)
operator_meant ts o x v = either_value ts (is_error x) x (cond (is_error v) v (operator_table ts (op_of o) x v)) refl (either_value ts (is_error v) v (operator_table ts (op_of o) x v) refl (plain_is_of ts (operator_table ts (op_of o) x v) (operator_plain ts (op_of o) x v)))

-- MID sees of its start the number alone

start_is : (o : Option ℤ) → option_and_then one_less (not_negative (Some (start_number o))) ≡ option_and_then one_less (not_negative o)
start_is (Some n) = refl
start_is None = refl

pub start_counts : (ts : Texts) (t s n : Value) → mid_of ts t (Value.Number (start_number (as_number s))) n ≡ mid_of ts t s n
start_counts ts t s n = ap (λ o. with_count o (λ i. with_count (count_of n) (λ k. short_or_fail (part (value_text ts t) i k)))) (start_is (as_number s))
