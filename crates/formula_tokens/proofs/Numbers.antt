-- What digits and letters write.
use Rattle.std.proofs.Common.{◌≡◌, ℕ, ◌+◌, ◌-◌, ◌*◌, ◌^◌, ◌<◌, ◌≤◌, ◌⊎◌, inl, inr, Bool, true, false, cond, List, [], ◌∷◌, length, take, drop, get_or, fold, refl, ap, sym, ◌∙◌, arith, Result, Ok, Err}
use Rattle.std.specs.Prelude.{ℤ, pos, unwrap_or, ◌&&◌}
use Rattle.std.specs.List.{list_all, prefix_len}
use Rattle.std.specs.Char.{is_ascii_digit}
use Rattle.std.specs.Str.{all_ascii_digits}
use Rattle.std.specs.Str.Parse.{digits_value, ParsesSigned, ParsesUnsigned}
use Rattle.std.specs.Result.{OkIff, result_ok}
use Rattle.std.proofs.lemmas.Str.Parse.{IsNumeralModel, numerals_by_value, tells_all_ascii_digits, parse_signed_digits, parse_digits}
use Rattle.std.proofs.lemmas.List.{at_drop_more, at_drop_all}
use Rattle.std.proofs.lemmas.Bool.Decides.{nat_tests}
use Rattle.std.proofs.lemmas.Int.{ints}
use Rattle.std.proofs.Math.Numerals.{one-add}
use Rattle.std.proofs.lemmas.Bool.{cases_lt}
use mir.Val.{hbits}
use Rattle.cell_values.proofs.FieldNumbers.{int_width}
use Rattle.cell_values.specs.CellText.{letter_value}
use Rattle.cell_values.specs.Numbers.{fits}
use Rattle.formula_tokens.specs.declared.token.Literal.{Literal}
use Rattle.formula_tokens.specs.declared.token.Token.{Token}
use Rattle.formula_tokens.specs.Words.{clipped, leading}
use Rattle.formula_tokens.specs.Lexemes.{number_token}

pub digits_all : (bs : List ℕ) → list_all is_ascii_digit bs ≡ all_ascii_digits bs
digits_all [] = refl
digits_all (b ∷ rest) = ap (λ t. is_ascii_digit b && t) (digits_all rest)

own : IsNumeralModel (λ ds. all_ascii_digits ds ≡ true) (digits_value 10)
own = numerals_by_value _ tells_all_ascii_digits

-- what a text begins with up to the first other byte is digits
pub leading_digits : (bs : List ℕ) → all_ascii_digits (leading is_ascii_digit bs) ≡ true
leading_digits [] = refl
leading_digits (b ∷ rest) = first (leading_digits rest) (is_ascii_digit b) refl
  where
    first : all_ascii_digits (leading is_ascii_digit rest) ≡ true → (t : Bool) → is_ascii_digit b ≡ t → all_ascii_digits (take (cond t (1 + prefix_len is_ascii_digit rest) 0) (b ∷ rest)) ≡ true
    first more true e = rw (one-add, e) more
    first more false e = refl

pub digits_cut : (bs ds : List ℕ) (n : ℕ) → ds ≡ take (n - 0) bs → n ≡ prefix_len is_ascii_digit bs → all_ascii_digits ds ≡ true
digits_cut bs ds n e h = ap all_ascii_digits (e ∙ ap (λ k. take k bs) (omega arith)) ∙ leading_digits bs

too_large : (n : ℕ) → (n < 2 ^ hbits int_width → ⊥) → fits (pos n) ≡ false
too_large n h = grind (arith, ints, nat_tests)

-- digits that `parse` refuses write a number that is too large
pub huge_number : {E : Type 0} (bs : List ℕ) (r : Result ℤ E) (e : E) → ParsesSigned int_width 10 bs r → r ≡ Err e → all_ascii_digits bs ≡ true → 0 < length bs → Token.Literal Literal.HugeNumber ≡ number_token bs
huge_number bs r e h was p l = refused r e (parse_signed_digits own int_width bs r h p) was
  where
    refused : {E : Type 0} (r : Result ℤ E) (e : E) → OkIff r ((0 < length bs) × (digits_value 10 bs < 2 ^ hbits int_width)) (pos (digits_value 10 bs)) → r ≡ Err e → Token.Literal Literal.HugeNumber ≡ number_token bs
    refused (Ok n) e h was = cc
    refused (Err x) e h was = sym (ap (λ t. Token.Literal (cond t (Literal.Number (pos (digits_value 10 bs))) Literal.HugeNumber)) (too_large (digits_value 10 bs) (λ k. h (l, k))))

-- what `parse` reads, or else the greatest number
pub row_parsed : {E : Type 0} (bs : List ℕ) (r : Result ℕ E) → ParsesUnsigned 32 10 bs r → all_ascii_digits bs ≡ true → 0 < length bs → unwrap_or (result_ok r) 4294967295 ≡ clipped (digits_value 10 bs)
row_parsed bs r h p l = read r (parse_digits own 32 bs r h p)
  where
    read : {E : Type 0} (r : Result ℕ E) → OkIff r ((0 < length bs) × (digits_value 10 bs < 2 ^ 32)) (digits_value 10 bs) → unwrap_or (result_ok r) 4294967295 ≡ clipped (digits_value 10 bs)
    read (Ok n) h = h.1 ∙ clip (digits_value 10 bs) h.0.1
      where
        clip : (n : ℕ) → n < 2 ^ 32 → n ≡ clipped n
        clip n h = omega arith
    read (Err x) h = over (digits_value 10 bs) (λ k. h (l, k))
      where
        over : (n : ℕ) → (n < 2 ^ 32 → ⊥) → 4294967295 ≡ clipped n
        over n h = omega arith

-- the column that more letters name behind those of the number so far
abbrev pub column_on : ℕ → List ℕ → ℕ
column_on n letters = clipped (fold (λ m c. 26 * m + letter_value c) n letters)

fold_grows : (n : ℕ) (letters : List ℕ) → n ≤ fold (λ m c. 26 * m + letter_value c) n letters
fold_grows n [] = omega arith
fold_grows n (c ∷ rest) = let more = fold_grows (26 * n + letter_value c) rest in omega arith

-- a number above the greatest counts as that
clip_early : (n : ℕ) (letters : List ℕ) → column_on (clipped n) letters ≡ column_on n letters
clip_early n letters = by_cases (cases_lt 4294967295 n)
  where
    by_cases : (4294967295 < n) ⊎ (n ≤ 4294967295) → column_on (clipped n) letters ≡ column_on n letters
    by_cases (inl h) = let more = fold_grows n letters in let same = fold_grows (clipped n) letters in omega arith
    by_cases (inr h) = ap (λ m. column_on m letters) (omega arith)

pub column_step : (n m i : ℕ) (letters : List ℕ) → i < length letters → m ≡ clipped (26 * n + letter_value (get_or letters i 0)) → column_on n (drop i letters) ≡ column_on m (drop (i + 1) letters)
column_step n m i letters h e =
    at_drop_more (column_on n) letters i 0 h ∙ sym (clip_early (26 * n + letter_value (get_or letters i 0)) (drop (i + 1) letters))
    ∙ ap (λ k. column_on k (drop (i + 1) letters)) (sym e)

pub column_done : (n i : ℕ) (letters : List ℕ) → length letters ≤ i → n ≤ 4294967295 → column_on n (drop i letters) ≡ n
column_done n i letters h small = at_drop_all (column_on n) letters i h ∙ omega arith
