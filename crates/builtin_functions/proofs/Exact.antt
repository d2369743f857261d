-- What the machine's numbers hold is what fits.
use Rattle.std.proofs.Common.{◌≡◌, ◌≢◌, ℕ, ◌<◌, ◌^◌, zero, suc, true, false, not, leb, ltb, ◌&&◌, ℤ, pos, negsuc, ◌+ℤ◌, ◌-ℤ◌, neg_ℤ, FitsSigned, SomeIff, Option, Some, None, if◌then◌else◌, int_lt, int_div, unsigned_abs, refl, sym, ap, ◌∙◌, arith}
use mir.Syntax.{Width, w128}
use mathlib.Core.Bool.{beq}
use Rattle.std.specs.Int.{CanDivide, IsNonZero}
use Rattle.std.proofs.lemmas.Bool.Decides.{nat_tests}
use Rattle.std.proofs.lemmas.Int.{ints, fits_signed_from_abs}
use Rattle.cell_values.specs.declared.values.Code.{Code}
use Rattle.cell_values.specs.declared.values.Value.{Value}
use Rattle.cell_values.specs.Numbers.{fits}
use Rattle.builtin_functions.specs.Tables.{number, or_num, quotient, is_zero, modulo, remainder, with_sign_of}

-- the width of a number
abbrev pub int_width : Width
int_width = w128

-- a machine's number holds it
abbrev pub Held : ℤ → Type 0
Held = FitsSigned int_width

pub fits_held : (z : ℤ) → Held z → fits z ≡ true
fits_held (pos n) f = grind (arith, nat_tests, f.sfits)
fits_held (negsuc n) f = grind (arith, nat_tests, f.sfits)

pub fits_beyond : (z : ℤ) → ¬ Held z → fits z ≡ false
fits_beyond (pos n) f = beyond n (λ h. f (record { sfits = h }))
  where
    beyond : (n : ℕ) → ¬ (n < 2 ^ 127) → leb n 170141183460469231731687303715884105727 ≡ false
    beyond n f = grind (arith, nat_tests)
fits_beyond (negsuc n) f = beyond n (λ h. f (record { sfits = h }))
  where
    beyond : (n : ℕ) → ¬ (n < 2 ^ 127) → (leb n 170141183460469231731687303715884105727 && true) ≡ false
    beyond n f = grind (arith, nat_tests)

pub number_fitting : (z : ℤ) → fits z ≡ true → number z ≡ Value.Number z
unfolding number
number_fitting z e = ap (λ b. if b then Value.Number z else Value.Error Code.Num) e

pub number_unfitting : (z : ℤ) → fits z ≡ false → number z ≡ Value.Error Code.Num
unfolding number
number_unfitting z e = ap (λ b. if b then Value.Number z else Value.Error Code.Num) e

-- a checked operation gives the exact result or `#NUM!`
pub number_is : (z : ℤ) (r : Option ℤ) → SomeIff r (Held z) z → or_num r ≡ number z
number_is z (Some x) h = ap Value.Number h.1 ∙ sym (number_fitting z (fits_held z h.0))
number_is z None h = sym (number_unfitting z (fits_beyond z h))

pub minus_is : (x : ℤ) (r : Option ℤ) → SomeIff r (Held (neg_ℤ x)) (neg_ℤ x) → or_num r ≡ number (pos 0 -ℤ x)
minus_is x r h = number_is (neg_ℤ x) r h ∙ ap number (negative x)
  where
    negative : (x : ℤ) → neg_ℤ x ≡ pos 0 -ℤ x
    negative x = omega (arith, ints)

-- the absolute value fits where the negative does
pub abs_is : (x : ℤ) (r : Option ℤ) → Held x → SomeIff r (Held (neg_ℤ x)) (pos (unsigned_abs x)) → or_num r ≡ number (pos (unsigned_abs x))
abs_is x (Some v) g h = ap Value.Number h.1 ∙ sym (number_fitting (pos (unsigned_abs x)) (fits_held (pos (unsigned_abs x)) (held x g h.0)))
  where
    held : (x : ℤ) → Held x → Held (neg_ℤ x) → Held (pos (unsigned_abs x))
    held (pos n) f g = f
    held (negsuc n) f g = g
abs_is x None g h = sym (number_unfitting (pos (unsigned_abs x)) (fits_beyond (pos (unsigned_abs x)) (λ k. h (back x g k))))
  where
    back : (x : ℤ) → Held x → Held (pos (unsigned_abs x)) → Held (neg_ℤ x)
    back (pos zero) f g = g
    back (pos (suc n)) f g = record { sfits = omega (arith, f.sfits) }
    back (negsuc n) f g = g

pub quotient_by_zero : (x y : ℤ) → y ≡ pos 0 → quotient x y ≡ Value.Error Code.Div
unfolding quotient
quotient_by_zero x y e = ap (λ d. if is_zero d then Value.Error Code.Div else number (int_div x d)) e

pub not_zero : (y : ℤ) → y ≢ pos 0 → is_zero y ≡ false
not_zero (pos zero) h = absurd (h refl)
not_zero (pos (suc n)) h = grind (arith, nat_tests)
not_zero (negsuc n) h = refl

non_zero_bits : (y : ℤ) → Held y → y ≢ pos 0 → IsNonZero int_width y
non_zero_bits (pos zero) f h = absurd (h refl)
non_zero_bits (pos (suc n)) f h = omega arith
non_zero_bits (negsuc n) f h = omega (arith, f.sfits)

pub quotient_not_by_zero : (x y : ℤ) → y ≢ pos 0 → quotient x y ≡ number (int_div x y)
unfolding quotient
quotient_not_by_zero x y h = ap (λ b. if b then Value.Error Code.Div else number (int_div x y)) (not_zero y h)

pub quotient_is : (x y : ℤ) (r : Option ℤ) → Held y → y ≢ pos 0 → SomeIff r (CanDivide int_width x y) (int_div x y) → or_num r ≡ quotient x y
unfolding quotient
quotient_is x y r g h k = number_is (int_div x y) r (exactly r k) ∙ sym (ap (λ b. if b then Value.Error Code.Div else number (int_div x y)) (not_zero y h))
  where
    exactly : (r : Option ℤ) → SomeIff r (CanDivide int_width x y) (int_div x y) → SomeIff r (Held (int_div x y)) (int_div x y)
    exactly (Some v) k = (k.0.1, k.1)
    exactly None k = λ f. k (non_zero_bits y g h, f)

pub modulo_by_zero : (x y : ℤ) → y ≡ pos 0 → modulo x y ≡ Value.Error Code.Div
unfolding modulo
modulo_by_zero x y e = ap (λ d. if is_zero d then Value.Error Code.Div else Value.Number (remainder x d)) e

pub modulo_is : (x y : ℤ) → y ≢ pos 0 → modulo x y ≡ Value.Number (remainder x y)
unfolding modulo
modulo_is x y h = ap (λ b. if b then Value.Error Code.Div else Value.Number (remainder x y)) (not_zero y h)

below_zero : (n : ℕ) → ltb n 0 ≡ false
below_zero n = grind (arith, nat_tests)

-- a remainder with the other sign is moved by the divisor, any other one stays
pub with_sign_moved : (y r : ℤ) → r ≢ pos 0 → not (beq (int_lt r (pos 0)) (int_lt y (pos 0))) ≡ true → r +ℤ y ≡ with_sign_of y r
with_sign_moved y (pos zero) h k = absurd (h refl)
with_sign_moved (pos n) (pos (suc r)) h k = absurd (let e = simp below_zero at k in cc)
with_sign_moved (negsuc n) (pos (suc r)) h k = refl
with_sign_moved (pos n) (negsuc r) h k = refl
with_sign_moved (negsuc n) (negsuc r) h k = absurd (cc)

pub with_sign_of_zero : (y r : ℤ) → r ≡ pos 0 → r ≡ with_sign_of y r
with_sign_of_zero y (pos zero) h = refl
with_sign_of_zero y (pos (suc r)) h = absurd (cc)
with_sign_of_zero y (negsuc r) h = absurd (cc)

pub with_sign_kept : (y r : ℤ) → not (beq (int_lt r (pos 0)) (int_lt y (pos 0))) ≡ false → r ≡ with_sign_of y r
with_sign_kept y (pos zero) k = refl
with_sign_kept (pos n) (pos (suc r)) k = refl
with_sign_kept (negsuc n) (pos (suc r)) k = absurd (let e = simp below_zero at k in cc)
with_sign_kept (pos n) (negsuc r) k = absurd (let e = simp below_zero at k in cc)
with_sign_kept (negsuc n) (negsuc r) k = refl

-- the sum of two numbers of different signs is in the range
pub sum_held : (y r : ℤ) → Held y → Held r → not (beq (int_lt r (pos 0)) (int_lt y (pos 0))) ≡ true → Held (r +ℤ y)
sum_held (pos n) (pos r) f g k = absurd (let e = simp below_zero at k in cc)
sum_held (negsuc n) (pos zero) f g k = let e : pos 0 +ℤ negsuc n ≡ negsuc n = omega (arith, ints) in rw e f
sum_held (negsuc n) (pos (suc r)) f g k = fits_signed_from_abs int_width (pos (suc r) +ℤ negsuc n) (omega (arith, ints, f.sfits, g.sfits))
sum_held (pos zero) (negsuc r) f g k = let e : negsuc r +ℤ pos 0 ≡ negsuc r = omega (arith, ints) in rw e g
sum_held (pos (suc n)) (negsuc r) f g k = fits_signed_from_abs int_width (negsuc r +ℤ pos (suc n)) (omega (arith, ints, f.sfits, g.sfits))
sum_held (negsuc n) (negsuc r) f g k = absurd (cc)
