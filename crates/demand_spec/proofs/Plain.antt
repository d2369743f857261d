-- Operators and functions give no text of the book.
use Rattle.std.proofs.Common.{◌≡◌, refl, ℕ, List, ◌++◌, Bool, true, false, cond, ℤ, int_rem, Option, Some, None}
use Rattle.std.specs.declared.cmp.Ordering.{Ordering}
use Rattle.cell_values.specs.declared.values.Code.{Code}
use Rattle.cell_values.specs.declared.values.Value.{Value}
use Rattle.cell_values.specs.Texts.{Texts}
use Rattle.builtin_functions.specs.declared.operators.Op2.{Op2}
use Rattle.builtin_functions.specs.declared.operators.Sign2.{Sign2}
use Rattle.cell_values.specs.Values.{IsValueOf, as_number}
use Rattle.builtin_functions.specs.Tables.{number, is_zero, quotient, with_sign_of, modulo, with_numbers, with_number, order, ordered, table, sign_table}
use Rattle.cell_values.specs.ShortTexts.{is_short, short_text}
use Rattle.cell_values.specs.ShownText.{value_text}
use Rattle.cell_values.proofs.Shorts.{text_is_short}
use Rattle.computed_text.specs.Computed.{short_or_fail, count_of, start_of, with_count, joined, left_of, right_of, mid_of}
use Rattle.demand_spec.specs.Formula.{operator_table}
use Rattle.demand_spec.specs.Like.{IsPlain}

cond_plain : (b : Bool) (x y : Value) → IsPlain x → IsPlain y → IsPlain (cond b x y)
cond_plain true x y h k = h
cond_plain false x y h k = k

number_plain : (z : ℤ) → IsPlain (number z)
unfolding number
number_plain z = cond_plain _ (Value.Number z) (Value.Error Code.Num) tt tt

quotient_plain : (x y : ℤ) → IsPlain (quotient x y)
unfolding quotient
quotient_plain x y = cond_plain (is_zero y) (Value.Error Code.Div) _ tt (number_plain _)

modulo_plain : (x y : ℤ) → IsPlain (modulo x y)
unfolding modulo
modulo_plain x y = cond_plain (is_zero y) (Value.Error Code.Div) (Value.Number (with_sign_of y (int_rem x y))) tt tt

with_numbers_plain : (f : ℤ → ℤ → Value) → ((x y : ℤ) → IsPlain (f x y)) → (o p : Option ℤ) → IsPlain (with_numbers f o p)
with_numbers_plain f h (Some x) (Some y) = h x y
with_numbers_plain f h (Some x) None = tt
with_numbers_plain f h None p = tt

with_number_plain : (f : ℤ → Value) → ((x : ℤ) → IsPlain (f x)) → (o : Option ℤ) → IsPlain (with_number f o)
with_number_plain f h (Some x) = h x
with_number_plain f h None = tt

ordered_plain : (test : Ordering → Bool) (o : Option Ordering) → IsPlain (ordered test o)
ordered_plain test (Some o) = tt
ordered_plain test None = tt

pub table_plain : (ts : Texts) (o : Op2) (a b : Value) → IsPlain (table ts o a b)
table_plain ts Op2.Add a b = with_numbers_plain _ (λ x y. number_plain _) (as_number a) (as_number b)
table_plain ts Op2.Sub a b = with_numbers_plain _ (λ x y. number_plain _) (as_number a) (as_number b)
table_plain ts Op2.Mul a b = with_numbers_plain _ (λ x y. number_plain _) (as_number a) (as_number b)
table_plain ts Op2.Div a b = with_numbers_plain quotient (quotient_plain) (as_number a) (as_number b)
table_plain ts Op2.Eq a b = tt
table_plain ts Op2.Ne a b = tt
table_plain ts Op2.Lt a b = ordered_plain _ (order ts a b)
table_plain ts Op2.Le a b = ordered_plain _ (order ts a b)
table_plain ts Op2.Gt a b = ordered_plain _ (order ts a b)
table_plain ts Op2.Ge a b = ordered_plain _ (order ts a b)
table_plain ts Op2.Mod a b = with_numbers_plain modulo (modulo_plain) (as_number a) (as_number b)
table_plain ts Op2.Quotient a b = with_numbers_plain quotient (quotient_plain) (as_number a) (as_number b)

pub sign_plain : (s : Sign2) (a : Value) → IsPlain (sign_table s a)
sign_plain Sign2.Minus a = with_number_plain _ (λ x. number_plain _) (as_number a)
sign_plain Sign2.Plus a = with_number_plain _ (λ x. tt) (as_number a)
sign_plain Sign2.Abs a = with_number_plain _ (λ x. number_plain _) (as_number a)

-- computed texts

pub short_plain : (bs : List ℕ) → IsPlain (short_or_fail bs)
short_plain bs = go (is_short bs) refl
  where
    go : (q : Bool) → is_short bs ≡ q → IsPlain (cond q (Value.Short (short_text bs)) (Value.Error Code.Value))
    go true e = text_is_short bs e
    go false e = tt

count_plain : (f : ℕ → Value) → ((k : ℕ) → IsPlain (f k)) → (o : Option ℕ) → IsPlain (with_count o f)
count_plain f h (Some k) = h k
count_plain f h None = tt

pub joined_plain : (ts : Texts) (a b : Value) → IsPlain (joined ts a b)
joined_plain ts a b = short_plain (value_text ts a ++ value_text ts b)

pub left_plain : (ts : Texts) (t n : Value) → IsPlain (left_of ts t n)
left_plain ts t n = count_plain _ (λ k. short_plain _) (count_of n)

pub right_plain : (ts : Texts) (t n : Value) → IsPlain (right_of ts t n)
right_plain ts t n = count_plain _ (λ k. short_plain _) (count_of n)

pub mid_plain : (ts : Texts) (t s n : Value) → IsPlain (mid_of ts t s n)
mid_plain ts t s n = count_plain _ (λ i. count_plain _ (λ k. short_plain _) (count_of n)) (start_of s)

pub operator_plain : (ts : Texts) (o : Option Op2) (a b : Value) → IsPlain (operator_table ts o a b)
operator_plain ts (Some o) a b = table_plain ts o a b
operator_plain ts None a b = joined_plain ts a b

-- a value that names no text of the book is one of any texts
pub plain_is_of : (ts : Texts) (v : Value) → IsPlain v → IsValueOf ts v
plain_is_of ts (Value.Text t) h = absurd h
plain_is_of ts (Value.Short t) h = h
plain_is_of ts v h = tt
