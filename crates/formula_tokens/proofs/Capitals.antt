-- A word in capitals is the same token.
use Rattle.std.proofs.Common.{◌≡◌, ℕ, ◌+◌, ◌-◌, ◌*◌, Bool, true, false, cond, List, [], ◌∷◌, length, take, drop, fold, refl, ap, sym, ◌∙◌, arith, Option, Some, None}
use Rattle.std.specs.Prelude.{◌&&◌, ◌==◌, nat_lt}
use Rattle.std.specs.List.{prefix_len}
use Rattle.std.specs.Char.{is_ascii_digit, is_ascii_alphabetic, to_ascii_uppercase}
use Rattle.std.specs.Str.{all_ascii_digits}
use Rattle.std.specs.Str.Parse.{digits_value}
use Rattle.std.proofs.lemmas.Bool.{cond-false, and_parts}
use Rattle.std.proofs.lemmas.Bool.Decides.{nat_tests}
use Rattle.std.proofs.lemmas.List.{take-map, drop-map, length-map}
use Rattle.cell_values.specs.CellText.{letter_value, column_number}
use Rattle.formula_tokens.specs.declared.token.Corner.{Corner}
use Rattle.formula_tokens.specs.declared.token.Token.{Token}
use Rattle.formula_tokens.specs.Laws.{CapitalsAgree}
use Rattle.formula_tokens.specs.Lexemes.{apart, other_word, plain_word}
use Rattle.formula_tokens.specs.Words.{leading, behind, begins_with, without_dollar, coordinate, corner_from, corner_of, upper, truth_of, function_named, named_in, all_functions}

-- one byte
up_twice : (b : ℕ) → to_ascii_uppercase (to_ascii_uppercase b) ≡ to_ascii_uppercase b
up_twice b = grind (arith, nat_tests)

up_dollar : (b : ℕ) → (to_ascii_uppercase b == 36) ≡ (b == 36)
up_dollar b = grind (arith, nat_tests)

up_letter : (b : ℕ) → is_ascii_alphabetic (to_ascii_uppercase b) ≡ is_ascii_alphabetic b
up_letter b = grind (arith, nat_tests)

up_digit : (b : ℕ) → is_ascii_digit (to_ascii_uppercase b) ≡ is_ascii_digit b
up_digit b = grind (arith, nat_tests)

digit_up : (b : ℕ) → is_ascii_digit b ≡ true → to_ascii_uppercase b ≡ b
digit_up b h = grind (arith, nat_tests)

-- bytes
upper_twice : (w : List ℕ) → upper (upper w) ≡ upper w
upper_twice [] = refl
upper_twice (b ∷ w) = λ i. up_twice b i ∷ upper_twice w i

upper_begins : (w : List ℕ) → begins_with 36 (upper w) ≡ begins_with 36 w
upper_begins [] = refl
upper_begins (b ∷ w) = up_dollar b

upper_bare : (w : List ℕ) → without_dollar (upper w) ≡ upper (without_dollar w)
upper_bare w = ap (λ t. cond t (drop 1 (upper w)) (upper w)) (upper_begins w) ∙ by_dollar (begins_with 36 w)
  where
    by_dollar : (t : Bool) → cond t (drop 1 (upper w)) (upper w) ≡ upper (cond t (drop 1 w) w)
    by_dollar true = drop-map to_ascii_uppercase 1 w
    by_dollar false = refl

upper_run : (w : List ℕ) → prefix_len is_ascii_alphabetic (upper w) ≡ prefix_len is_ascii_alphabetic w
upper_run [] = refl
upper_run (b ∷ w) = λ i. cond (up_letter b i) (1 + upper_run w i) 0

upper_leading : (w : List ℕ) → leading is_ascii_alphabetic (upper w) ≡ upper (leading is_ascii_alphabetic w)
upper_leading w = ap (λ n. take n (upper w)) (upper_run w) ∙ take-map to_ascii_uppercase (prefix_len is_ascii_alphabetic w) w

upper_behind : (w : List ℕ) → behind is_ascii_alphabetic (upper w) ≡ upper (behind is_ascii_alphabetic w)
upper_behind w = ap (λ n. drop n (upper w)) (upper_run w) ∙ drop-map to_ascii_uppercase (prefix_len is_ascii_alphabetic w) w

upper_digits : (ds : List ℕ) → all_ascii_digits (upper ds) ≡ all_ascii_digits ds
upper_digits [] = refl
upper_digits (d ∷ ds) = λ i. up_digit d i && upper_digits ds i

digits_stay : (ds : List ℕ) → all_ascii_digits ds ≡ true → upper ds ≡ ds
digits_stay [] h = refl
digits_stay (d ∷ ds) h = let parts = and_parts (is_ascii_digit d) (all_ascii_digits ds) h in λ i. digit_up d parts.0 i ∷ digits_stay ds parts.1 i

upper_column : (n : ℕ) (letters : List ℕ) → fold (λ m c. 26 * m + letter_value c) n (upper letters) ≡ fold (λ m c. 26 * m + letter_value c) n letters
upper_column n [] = refl
upper_column n (c ∷ letters) = ap (λ m. fold (λ k d. 26 * k + letter_value d) m (upper letters)) value ∙ upper_column (26 * n + letter_value c) letters
  where
    value : 26 * n + letter_value (to_ascii_uppercase c) ≡ 26 * n + letter_value c
    value = ap (λ u. 26 * n + (u - 64)) (up_twice c)

and_false : (a b : Bool) → b ≡ false → (a && b) ≡ false
and_false true b h = h
and_false false b h = refl

-- a reference
abbrev corner_if : Bool → Bool → List ℕ → Bool → List ℕ → Option Corner
corner_if test absolute letters fixed digits = cond test (Some (record { col = coordinate absolute (column_number letters); row = coordinate fixed (digits_value 10 digits) })) None

abbrev is_corner : List ℕ → List ℕ → Bool
is_corner letters digits = nat_lt 0 (length letters) && nat_lt 0 (length digits) && all_ascii_digits digits

corner_upper : (absolute fixed : Bool) (letters digits : List ℕ) → corner_if (is_corner (upper letters) (upper digits)) absolute (upper letters) fixed (upper digits) ≡ corner_if (is_corner letters digits) absolute letters fixed digits
corner_upper absolute fixed letters digits = by_digits (all_ascii_digits digits) refl
  where
    by_digits : (t : Bool) → all_ascii_digits digits ≡ t → corner_if (is_corner (upper letters) (upper digits)) absolute (upper letters) fixed (upper digits) ≡ corner_if (is_corner letters digits) absolute letters fixed digits
    by_digits true h =
        ap (λ (ds : List ℕ). corner_if (is_corner (upper letters) ds) absolute (upper letters) fixed ds) (digits_stay digits h)
        ∙ ap (λ (n : ℕ). corner_if (nat_lt 0 n && nat_lt 0 (length digits) && all_ascii_digits digits) absolute (upper letters) fixed digits) (length-map letters to_ascii_uppercase)
        ∙ ap (λ (n : ℕ). cond (is_corner letters digits) (Some (record { col = coordinate absolute n; row = coordinate fixed (digits_value 10 digits) })) None) (upper_column 0 letters)
    by_digits false h =
        cond-false (is_corner (upper letters) (upper digits)) _ None (and_false (nat_lt 0 (length (upper letters)) && nat_lt 0 (length (upper digits))) (all_ascii_digits (upper digits)) (upper_digits digits ∙ h))
        ∙ sym (cond-false (is_corner letters digits) _ None (and_false (nat_lt 0 (length letters) && nat_lt 0 (length digits)) (all_ascii_digits digits) h))

from_upper : (absolute : Bool) (letters row : List ℕ) → corner_from absolute (upper letters) (upper row) ≡ corner_from absolute letters row
from_upper absolute letters row =
    ap (λ (ds : List ℕ). corner_if (is_corner (upper letters) ds) absolute (upper letters) (begins_with 36 (upper row)) ds) (upper_bare row)
    ∙ ap (λ (t : Bool). corner_if (is_corner (upper letters) (upper (without_dollar row))) absolute (upper letters) t (upper (without_dollar row))) (upper_begins row)
    ∙ corner_upper absolute (begins_with 36 row) letters (without_dollar row)

upper_corner : (w : List ℕ) → corner_of (upper w) ≡ corner_of w
unfolding corner_of
upper_corner w =
    ap (λ (t : Bool). corner_from t (leading is_ascii_alphabetic (without_dollar (upper w))) (behind is_ascii_alphabetic (without_dollar (upper w)))) (upper_begins w)
    ∙ ap (λ (bs : List ℕ). corner_from (begins_with 36 w) (leading is_ascii_alphabetic bs) (behind is_ascii_alphabetic bs)) (upper_bare w)
    ∙ ap (λ (bs : List ℕ). corner_from (begins_with 36 w) bs (behind is_ascii_alphabetic (upper (without_dollar w)))) (upper_leading (without_dollar w))
    ∙ ap (λ (bs : List ℕ). corner_from (begins_with 36 w) (upper (leading is_ascii_alphabetic (without_dollar w))) bs) (upper_behind (without_dollar w))
    ∙ from_upper (begins_with 36 w) (leading is_ascii_alphabetic (without_dollar w)) (behind is_ascii_alphabetic (without_dollar w))

upper_truth : (w : List ℕ) → truth_of (upper w) ≡ truth_of w
unfolding truth_of
upper_truth w = rw (upper_twice w) refl

upper_function : (w : List ℕ) → function_named (upper w) ≡ function_named w
unfolding function_named
upper_function w = ap (named_in all_functions) (upper_twice w)

plain_upper : (prefixed : Bool) (w : List ℕ) (o : Option Corner) → plain_word prefixed (upper w) o ≡ plain_word prefixed w o
plain_upper prefixed w (Some c) = refl
plain_upper prefixed w None = ap (other_word prefixed) (upper_truth w)

pub capitals_agree : CapitalsAgree
capitals_agree prefixed true w = ap (λ f. apart prefixed (Token.Function f)) (upper_function w)
capitals_agree prefixed false w = plain_upper prefixed w (corner_of (upper w)) ∙ ap (plain_word prefixed w) (upper_corner w)
