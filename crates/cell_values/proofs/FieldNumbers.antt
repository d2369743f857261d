-- What `parse` reads is the number of a field.
use Rattle.std.proofs.Common.{◌≡◌, ◌≢◌, ℕ, ◌<◌, ◌≤◌, ◌^◌, ℤ, pos, neg_ℤ, Bool, true, false, cond, ◌&&◌, nat_lt, List, [], ◌∷◌, length, drop, get_or, refl, ap, sym, subst, ◌∙◌, arith, Some, None, Result, Ok, Err, Decides}
use mir.Syntax.{Width, w128}
use mir.Val.{hbits}
use Rattle.std.proofs.lemmas.Bool.{eqb-true, eqb-false, cond-true, cond-false, and_from, and_parts, and_left, and_right, ltb-true, lt-ltb}
use Rattle.std.proofs.lemmas.Bool.Decides.{nat_tests}
use Rattle.std.proofs.lemmas.Int.{ints}
use Rattle.std.proofs.lemmas.Str.Parse.{IsNumeralModel, numerals_by_value, tells_all_ascii_digits, parse_signed_minus, parse_signed_plain}
use Rattle.std.specs.Result.{OkIff, result_ok}
use Rattle.std.proofs.lemmas.Str.{lead_after_ascii}
use Rattle.std.specs.Str.{all_ascii_digits, IsUtf8}
use Rattle.std.specs.Str.Parse.{digits_value, starts_with_minus, ParsesSigned}
use Rattle.cell_values.specs.Numbers.{fits}
use Rattle.cell_values.specs.Fields.{signed_number, number_of_field}

-- the width of a number
abbrev pub int_width : Width
int_width = w128

own : IsNumeralModel (λ ds. all_ascii_digits ds ≡ true) (digits_value 10)
own = numerals_by_value _ tells_all_ascii_digits

fits_plus : (n : ℕ) → Decides (fits (pos n)) (n < 2 ^ hbits int_width)
fits_plus n = (λ h. grind (arith, ints, nat_tests), λ h. grind (arith, ints, nat_tests))

fits_minus : (n : ℕ) → Decides (fits (neg_ℤ (pos n))) (n ≤ 2 ^ hbits int_width)
fits_minus n = (λ h. grind (arith, ints, nat_tests), λ h. grind (arith, ints, nat_tests))

ok_if : {E : Type 0} (r : Result ℤ E) (P : Type 0) (v : ℤ) (b : Bool) → Decides b P → OkIff r P v → result_ok r ≡ cond b (Some v) None
ok_if (Ok x) P v b d h = ap Some h.1 ∙ sym (cond-true b (Some v) None (d.1 h.0))
ok_if (Err e) P v true d h = absurd (h (d.0 refl))
ok_if (Err e) P v false d h = refl

-- what the digits behind a sign give
number_if : {E : Type 0} (sign : ℕ → ℤ) (bound : ℕ → Type 0) → ((n : ℕ) → Decides (fits (sign n)) (bound n)) → (r : Result ℤ E) (digits : List ℕ) → OkIff r ((all_ascii_digits digits ≡ true) × (0 < length digits) × bound (digits_value 10 digits)) (sign (digits_value 10 digits)) → result_ok r ≡ signed_number sign digits
number_if sign bound fit r digits h =
    ok_if r _ (sign (digits_value 10 digits)) (nat_lt 0 (length digits) && all_ascii_digits digits && fits (sign (digits_value 10 digits))) (
      (λ e. let outer = and_parts (nat_lt 0 (length digits) && all_ascii_digits digits) _ e in
          let inner = and_parts (nat_lt 0 (length digits)) (all_ascii_digits digits) outer.0 in
          (inner.1, ltb-true 0 (length digits) inner.0, (fit (digits_value 10 digits)).0 outer.1)),
      (λ p. and_from _ _ (and_from _ _ (lt-ltb 0 (length digits) p.1) p.0) ((fit (digits_value 10 digits)).1 p.2)),
    )
    h

by_sign : {E : Type 0} (bs : List ℕ) (r : Result ℤ E) (minus : Bool) → starts_with_minus bs ≡ minus → get_or bs 0 0 ≢ 43 → ParsesSigned int_width 10 bs r → result_ok r ≡ cond minus (signed_number (λ n. neg_ℤ (pos n)) (drop 1 bs)) (signed_number pos bs)
by_sign bs r true m p h = number_if (λ n. neg_ℤ (pos n)) (λ n. n ≤ 2 ^ hbits int_width) fits_minus r (drop 1 bs) (parse_signed_minus own int_width bs r h (eqb-true (get_or bs 0 0) 45 m))
by_sign bs r false m p h = number_if pos (λ n. n < 2 ^ hbits int_width) fits_plus r bs (parse_signed_plain own int_width bs r h p (eqb-false (get_or bs 0 0) 45 m))

pub parsed_number : {E : Type 0} (bs : List ℕ) (r : Result ℤ E) → get_or bs 0 0 ≢ 43 → ParsesSigned int_width 10 bs r → result_ok r ≡ number_of_field bs
unfolding number_of_field
parsed_number bs r p h = by_sign bs r (starts_with_minus bs) refl p h

-- a `+` in front is no part of a number
pub plus_number : (bs : List ℕ) → get_or bs 0 0 ≡ 43 → number_of_field bs ≡ None
unfolding number_of_field
plus_number [] h = cc
plus_number (c ∷ rest) h =
    let P : ℕ → Type 0 = λ d. number_of_field (d ∷ rest) ≡ None in
    subst P (sym h) (cond-false _ _ None (and_left _ _ (and_right (nat_lt 0 (length (43 ∷ rest))) _ refl)))

-- what stands behind a `'` in front begins a character
pub quote_boundary : (bs : List ℕ) → IsUtf8 bs → get_or bs 0 0 ≡ 39 → 1 < length bs → 128 ≤ get_or bs 1 0 → 192 ≤ get_or bs 1 0
quote_boundary bs u q l h = lead_after_ascii bs 0 u (omega arith) (omega arith) h
