-- The remainder with the divisor's sign, and the truncated quotient.
use Rattle.std.proofs.Common.{◌≡◌, ◌≢◌, ℕ, ◌<◌, zero, suc, ℤ, pos, negsuc, ◌+ℤ◌, ◌*ℤ◌, neg_ℤ, ◌≤ℤ◌, ◌<ℤ◌, ◌%◌, int_div, int_rem, unsigned_abs, refl, arith}
use Rattle.std.proofs.lemmas.Int.{ints, quot-rem, rem_below}
use Rattle.cell_values.specs.declared.values.Value.{Value}
use Rattle.builtin_functions.specs.Tables.{number, quotient, modulo, remainder, with_sign_of}
use Rattle.builtin_functions.specs.Laws.{IsRemainder, IsTruncated}
use Rattle.builtin_functions.proofs.Exact.{modulo_is, quotient_not_by_zero}

size_not_zero : (y : ℤ) → y ≢ pos 0 → 0 < unsigned_abs y
size_not_zero (pos zero) h = absurd (h refl)
size_not_zero (pos (suc n)) h = omega arith
size_not_zero (negsuc n) h = omega arith

-- the number before
before : ℤ → ℤ
before (pos zero) = negsuc 0
before (pos (suc n)) = pos n
before (negsuc n) = negsuc (suc n)

once_more : (q y : ℤ) → before q *ℤ y +ℤ y ≡ q *ℤ y
unfolding before
once_more (pos zero) (pos zero) = refl
once_more (pos zero) (pos (suc m)) = omega (arith, ints)
once_more (pos zero) (negsuc m) = omega (arith, ints)
once_more (pos (suc n)) (pos m) = omega (arith, ints)
once_more (pos (suc n)) (negsuc m) = omega (arith, ints)
once_more (negsuc n) (pos zero) = omega (arith, ints)
once_more (negsuc n) (pos (suc m)) = omega (arith, ints)
once_more (negsuc n) (negsuc m) = omega (arith, ints)

one_less : (q y r x : ℤ) → q *ℤ y +ℤ r ≡ x → before q *ℤ y +ℤ (r +ℤ y) ≡ x
one_less q y r x e = regroup (before q *ℤ y) y (q *ℤ y) r x (once_more q y) e
  where
    regroup : (a y b r x : ℤ) → a +ℤ y ≡ b → b +ℤ r ≡ x → a +ℤ (r +ℤ y) ≡ x
    regroup a y b r x e f = omega (arith, ints)

-- with_sign_of takes the divisor once more or not
congruent : (q y r x : ℤ) → q *ℤ y +ℤ r ≡ x → (p : ℤ) × (p *ℤ y +ℤ with_sign_of y r ≡ x)
congruent q y (pos zero) x e = (q, e)
congruent q (pos n) (pos (suc r)) x e = (q, e)
congruent q (negsuc n) (pos (suc r)) x e = (before q, one_less q (negsuc n) (pos (suc r)) x e)
congruent q (pos n) (negsuc r) x e = (before q, one_less q (pos n) (negsuc r) x e)
congruent q (negsuc n) (negsuc r) x e = (q, e)

smaller : (y r : ℤ) → unsigned_abs r < unsigned_abs y → unsigned_abs (with_sign_of y r) < unsigned_abs y
smaller (pos n) (pos zero) h = h
smaller (negsuc n) (pos zero) h = h
smaller (pos n) (pos (suc r)) h = h
smaller (negsuc n) (pos (suc r)) h = omega (arith, ints)
smaller (pos n) (negsuc r) h = omega (arith, ints)
smaller (negsuc n) (negsuc r) h = h

not_negative : (y r : ℤ) → unsigned_abs r < unsigned_abs y → pos 0 <ℤ y → pos 0 ≤ℤ with_sign_of y r
not_negative (pos n) (pos zero) h p = omega (arith, ints)
not_negative (pos n) (pos (suc r)) h p = omega (arith, ints)
not_negative (pos n) (negsuc r) h p = omega (arith, ints)
not_negative (negsuc n) r h p = absurd (omega (arith, ints))

not_positive : (y r : ℤ) → unsigned_abs r < unsigned_abs y → y <ℤ pos 0 → with_sign_of y r ≤ℤ pos 0
not_positive (negsuc n) (pos zero) h p = omega (arith, ints)
not_positive (negsuc n) (pos (suc r)) h p = omega (arith, ints)
not_positive (negsuc n) (negsuc r) h p = omega (arith, ints)
not_positive (pos n) r h p = absurd (omega (arith, ints))

pub modulo_is_remainder : (x y : ℤ) → y ≢ pos 0 → (r : ℤ) × (modulo x y ≡ Value.Number r) × IsRemainder x y r
modulo_is_remainder x y h =
    let below = rem_below x y (size_not_zero y h) in (
      remainder x y,
      modulo_is x y h,
      record {
        congruent = congruent (int_div x y) y (int_rem x y) x (quot-rem x y);
        smaller = smaller y (int_rem x y) below;
        not_negative = not_negative y (int_rem x y) below;
        not_positive = not_positive y (int_rem x y) below;
      },
    )

negated : (n : ℕ) → neg_ℤ (pos n) ≤ℤ pos 0
negated n = omega (arith, ints)

rest_not_negative : (x y : ℤ) → pos 0 ≤ℤ x → pos 0 ≤ℤ int_rem x y
rest_not_negative (pos n) y p = omega (arith, ints)
rest_not_negative (negsuc n) y p = absurd (omega (arith, ints))

rest_not_positive : (x y : ℤ) → x ≤ℤ pos 0 → int_rem x y ≤ℤ pos 0
rest_not_positive (pos zero) y p = omega (arith, ints)
rest_not_positive (pos (suc n)) y p = absurd (omega (arith, ints))
rest_not_positive (negsuc n) y p = negated (suc n % unsigned_abs y)

pub quotient_is_truncated : (x y : ℤ) → y ≢ pos 0 → (q : ℤ) × (r : ℤ) × (quotient x y ≡ number q) × IsTruncated x y q r
quotient_is_truncated x y h = (
  int_div x y,
  int_rem x y,
  quotient_not_by_zero x y h,
  record {
    whole = quot-rem x y;
    smaller = rem_below x y (size_not_zero y h);
    not_negative = rest_not_negative x y;
    not_positive = rest_not_positive x y;
  },
)
