-- The tables of operators: values in, a value out.
use Rattle.std.specs.Prelude.{ℕ, zero, suc, Bool, true, false, not, ℤ, pos, negsuc, ◌+ℤ◌, ◌-ℤ◌, ◌*ℤ◌, int_div, int_rem, unsigned_abs, nat_eq, Option, Some, None, unwrap_or, Result, Ok, Err, List, [], if◌then◌else◌}
use Rattle.std.specs.Ordering.{nat_cmp, int_cmp, is_eq, is_lt, is_le, is_gt, is_ge}
use Rattle.std.specs.declared.cmp.Ordering.{Ordering}
use Rattle.std.specs.declared.cmp.Ordering.TheVariants.{Less, Equal, Greater}
use Rattle.std.specs.Cmp.Lexicographic.{slice_cmp}
use Rattle.cell_values.specs.declared.values.Code.{Code}
use Rattle.cell_values.specs.declared.values.Value.{Value}
use Rattle.cell_values.specs.Numbers.{fits}
use Rattle.cell_values.specs.Texts.{Texts}
use Rattle.cell_values.specs.Values.{is_error, as_number, text_of}
use Rattle.builtin_functions.specs.declared.operators.Op2.{Op2}
use Rattle.builtin_functions.specs.declared.operators.Sign2.{Sign2}

-- the number, `#NUM!` where it does not fit
unfoldable pub number : ℤ → Value
number n = if fits n then Value.Number n else Value.Error Code.Num

-- a number found, `#NUM!` where there is none
abbrev pub or_num : Option ℤ → Value
or_num (Some n) = Value.Number n
or_num None = Value.Error Code.Num

-- an answer found, `#VALUE!` where there is none
abbrev pub or_wrong_kind : Option Bool → Value
or_wrong_kind (Some b) = Value.Bool b
or_wrong_kind None = Value.Error Code.Value

abbrev pub is_zero : ℤ → Bool
is_zero (pos n) = nat_eq n 0
is_zero (negsuc n) = false

-- where one of the two has no number, `#VALUE!`
abbrev pub with_numbers : (ℤ → ℤ → Value) → Option ℤ → Option ℤ → Value
with_numbers f (Some x) (Some y) = f x y
with_numbers f _ _ = Value.Error Code.Value

-- the quotient truncated towards zero, `#DIV/0!` for a zero divisor
unfoldable pub quotient : ℤ → ℤ → Value
quotient x y = if is_zero y then Value.Error Code.Div else number (int_div x y)

-- a remainder with the divisor's sign, from one with the dividend's
abbrev pub with_sign_of : ℤ → ℤ → ℤ
with_sign_of y (pos zero) = pos 0
with_sign_of (pos n) (pos (suc r)) = pos (suc r)
with_sign_of (negsuc n) (pos (suc r)) = pos (suc r) +ℤ negsuc n
with_sign_of (pos n) (negsuc r) = negsuc r +ℤ pos n
with_sign_of (negsuc n) (negsuc r) = negsuc r

-- the remainder with the divisor's sign
abbrev pub remainder : ℤ → ℤ → ℤ
remainder x y = with_sign_of y (int_rem x y)

-- that remainder, `#DIV/0!` for a zero divisor
unfoldable pub modulo : ℤ → ℤ → Value
modulo x y = if is_zero y then Value.Error Code.Div else Value.Number (remainder x y)

abbrev pub bool_order : Bool → Bool → Ordering
bool_order true true = Equal
bool_order true false = Greater
bool_order false true = Less
bool_order false false = Equal

-- what values are compared by: a text by its bytes, of whichever kind it is
pub data Class : Type 0 where
  Number : ℤ → Class
  Text : List ℕ → Class
  Truth : Bool → Class
  Blank : Class
  Failed : Code → Class

abbrev pub class : Texts → Value → Class
class ts (Value.Number n) = Class.Number n
class ts (Value.Text t) = Class.Text (unwrap_or (text_of ts (Value.Text t)) [])
class ts (Value.Short t) = Class.Text (unwrap_or (text_of ts (Value.Short t)) [])
class ts (Value.Bool b) = Class.Truth b
class ts Value.Blank = Class.Blank
class ts (Value.Error e) = Class.Failed e

-- two of one class have an order, texts by their bytes; Blank stands for 0, the empty text or FALSE
abbrev pub class_order : Class → Class → Option Ordering
class_order (Class.Number x) (Class.Number y) = Some (int_cmp x y)
class_order (Class.Number x) (Class.Text t) = None
class_order (Class.Number x) (Class.Truth q) = None
class_order (Class.Number x) Class.Blank = Some (int_cmp x (pos 0))
class_order (Class.Number x) (Class.Failed e) = None
class_order (Class.Text s) (Class.Number y) = None
class_order (Class.Text s) (Class.Text t) = Some (slice_cmp nat_cmp s t)
class_order (Class.Text s) (Class.Truth q) = None
class_order (Class.Text s) Class.Blank = Some (slice_cmp nat_cmp s [])
class_order (Class.Text s) (Class.Failed e) = None
class_order (Class.Truth p) (Class.Number y) = None
class_order (Class.Truth p) (Class.Text t) = None
class_order (Class.Truth p) (Class.Truth q) = Some (bool_order p q)
class_order (Class.Truth p) Class.Blank = Some (bool_order p false)
class_order (Class.Truth p) (Class.Failed e) = None
class_order Class.Blank (Class.Number y) = Some (int_cmp (pos 0) y)
class_order Class.Blank (Class.Text t) = Some (slice_cmp nat_cmp [] t)
class_order Class.Blank (Class.Truth q) = Some (bool_order false q)
class_order Class.Blank Class.Blank = Some Equal
class_order Class.Blank (Class.Failed e) = None
class_order (Class.Failed d) (Class.Number y) = None
class_order (Class.Failed d) (Class.Text t) = None
class_order (Class.Failed d) (Class.Truth q) = None
class_order (Class.Failed d) Class.Blank = None
class_order (Class.Failed d) (Class.Failed e) = None

-- the order of two values
unfoldable pub order : Texts → Value → Value → Option Ordering
order ts a b = class_order (class ts a) (class ts b)

-- `=` between two values
abbrev pub equals : Option Ordering → Bool
equals (Some o) = is_eq o
equals None = false

abbrev pub same : Texts → Value → Value → Bool
same ts a b = equals (order ts a b)

-- `<`, `<=`, `>`, `>=` between two values; two kinds have no order
abbrev pub ordered : (Ordering → Bool) → Option Ordering → Value
ordered test (Some o) = Value.Bool (test o)
ordered test None = Value.Error Code.Value

-- a two-sided operator at two values of which none is an error
abbrev pub table : Texts → Op2 → Value → Value → Value
table ts Op2.Add a b = with_numbers (λ x y. number (x +ℤ y)) (as_number a) (as_number b)
table ts Op2.Sub a b = with_numbers (λ x y. number (x -ℤ y)) (as_number a) (as_number b)
table ts Op2.Mul a b = with_numbers (λ x y. number (x *ℤ y)) (as_number a) (as_number b)
table ts Op2.Div a b = with_numbers quotient (as_number a) (as_number b)
table ts Op2.Eq a b = Value.Bool (same ts a b)
table ts Op2.Ne a b = Value.Bool (not (same ts a b))
table ts Op2.Lt a b = ordered is_lt (order ts a b)
table ts Op2.Le a b = ordered is_le (order ts a b)
table ts Op2.Gt a b = ordered is_gt (order ts a b)
table ts Op2.Ge a b = ordered is_ge (order ts a b)
table ts Op2.Mod a b = with_numbers modulo (as_number a) (as_number b)
table ts Op2.Quotient a b = with_numbers quotient (as_number a) (as_number b)

-- the same at any two values: an error is the answer, the left one before the right one
abbrev pub binary_value : Texts → Op2 → Value → Value → Value
binary_value ts op a b = if is_error a then a else if is_error b then b else table ts op a b

abbrev pub with_number : (ℤ → Value) → Option ℤ → Value
with_number f (Some x) = f x
with_number f None = Value.Error Code.Value

-- a sign, or the absolute value, at a value that is no error
abbrev pub sign_table : Sign2 → Value → Value
sign_table Sign2.Minus a = with_number (λ x. number (pos 0 -ℤ x)) (as_number a)
sign_table Sign2.Plus a = with_number Value.Number (as_number a)
sign_table Sign2.Abs a = with_number (λ x. number (pos (unsigned_abs x))) (as_number a)

-- the same at any value: an error is the answer
abbrev pub unary_value : Sign2 → Value → Value
unary_value sign a = if is_error a then a else sign_table sign a

-- what a condition takes a value as
abbrev pub condition : Value → Result Bool Code
condition (Value.Bool b) = Ok b
condition (Value.Number n) = Ok (not (is_zero n))
condition Value.Blank = Ok false
condition (Value.Text t) = Err Code.Value
condition (Value.Short t) = Err Code.Value
condition (Value.Error e) = Err e
