-- How the text of a cell's address is read, and that each address is read back.
use Rattle.std.proofs.Common.{◌≡◌, ℕ, ◌+◌, ◌-◌, ◌*◌, ◌<◌, ◌≤◌, Bool, true, false, cond, List, [], ◌∷◌, length, take, drop, get_or, fold, All, refl, ap, sym, subst, ◌∙◌, arith, Option, None}
use Rattle.std.proofs.lemmas.List.{at_drop_more, at_drop_all, get_or-take, length-take}
use Rattle.std.proofs.lemmas.List.Sums.{prefix_len-le-length, prefix_len_passes}
use Rattle.std.specs.List.{prefix_len}
use Rattle.std.proofs.lemmas.Bool.Decides.{nat_tests}
use Rattle.std.specs.Char.{is_ascii_digit, digit_value, is_ascii_alphabetic, IsAsciiAlphabetic}
use Rattle.std.specs.Str.{all_ascii_digits}
use Rattle.std.specs.Str.Parse.{digits_value_after}
use Rattle.cell_values.specs.CellText.{letter_value, up_to, named_column, named_row}

-- the column that more letters name behind those of the number so far
abbrev pub column_on : ℕ → List ℕ → Option ℕ
column_on n letters = up_to 256 (fold (λ m c. 26 * m + letter_value c) n letters)

pub column_step : (n i : ℕ) (letters : List ℕ) → i < length letters → column_on n (drop i letters) ≡ column_on (26 * n + letter_value (get_or letters i 0)) (drop (i + 1) letters)
column_step n i letters h = at_drop_more (column_on n) letters i 0 h

pub column_done : (n i : ℕ) (letters : List ℕ) → length letters ≤ i → column_on n (drop i letters) ≡ up_to 256 n
column_done n i letters h = at_drop_all (column_on n) letters i h

fold_grows : (n : ℕ) (letters : List ℕ) → n ≤ fold (λ m c. 26 * m + letter_value c) n letters
fold_grows n [] = omega arith
fold_grows n (c ∷ rest) = let more = fold_grows (26 * n + letter_value c) rest in omega arith

up_to_over : (last n : ℕ) → last < n → up_to last n ≡ None
up_to_over last n h = grind (arith, nat_tests)

-- a number beyond the last column stays beyond it
pub column_over : (n : ℕ) (letters : List ℕ) → 256 < n → column_on n letters ≡ None
column_over n letters h = let grown = fold_grows n letters in up_to_over 256 (fold (λ m c. 26 * m + letter_value c) n letters) (omega arith)

pub column_start : (letters : List ℕ) → column_on 0 letters ≡ named_column letters
unfolding named_column
column_start letters = refl

-- the row that more digits name behind those of the number so far
abbrev pub row_on : ℕ → List ℕ → Option ℕ
row_on n digits = cond (all_ascii_digits digits) (up_to 65536 (digits_value_after 10 n digits)) None

pub row_start : (digits : List ℕ) → row_on 0 digits ≡ named_row digits
unfolding named_row
row_start digits = refl

row_first : (n c : ℕ) (rest : List ℕ) → is_ascii_digit c ≡ true → row_on n (c ∷ rest) ≡ row_on (10 * n + (c - 48)) rest
row_first n c rest h = grind (arith, nat_tests)

pub row_step : (n i : ℕ) (digits : List ℕ) → i < length digits → is_ascii_digit (get_or digits i 0) ≡ true → row_on n (drop i digits) ≡ row_on (10 * n + (get_or digits i 0 - 48)) (drop (i + 1) digits)
row_step n i digits h d = at_drop_more (row_on n) digits i 0 h ∙ row_first n (get_or digits i 0) (drop (i + 1) digits) d

-- another character ends it
pub row_ends : (n i : ℕ) (digits : List ℕ) → i < length digits → is_ascii_digit (get_or digits i 0) ≡ false → row_on n (drop i digits) ≡ None
row_ends n i digits h d = at_drop_more (row_on n) digits i 0 h ∙ grind (arith, nat_tests)

pub row_done : (n i : ℕ) (digits : List ℕ) → length digits ≤ i → row_on n (drop i digits) ≡ up_to 65536 n
row_done n i digits h = at_drop_all (row_on n) digits i h

value_grows : (n : ℕ) (digits : List ℕ) → n ≤ digits_value_after 10 n digits
value_grows n [] = omega arith
value_grows n (c ∷ rest) = let more = value_grows (n * 10 + digit_value c) rest in omega arith

cond_none : (b : Bool) (r : Option ℕ) → r ≡ None → cond b r None ≡ None
cond_none true r h = h
cond_none false r h = refl

-- a number beyond the last row stays beyond it
pub row_over : (n : ℕ) (digits : List ℕ) → 65536 < n → row_on n digits ≡ None
row_over n digits h = let grown = value_grows n digits in cond_none (all_ascii_digits digits) _ (up_to_over 65536 (digits_value_after 10 n digits) (omega arith))

pub letters_within : (text : List ℕ) → prefix_len is_ascii_alphabetic text ≤ length text
letters_within text = prefix_len-le-length is_ascii_alphabetic text

is_letter : (c : ℕ) → is_ascii_alphabetic c ≡ true → IsAsciiAlphabetic c
is_letter c h = grind (arith, nat_tests)

-- what stands before the first other character is letters
pub letters_pass : (text front : List ℕ) → front ≡ take (prefix_len is_ascii_alphabetic text) text → All IsAsciiAlphabetic front
letters_pass text front e k d h =
    let n : ℕ = prefix_len is_ascii_alphabetic text in
    let inside : k < n = omega (arith, ap length e, length-take n text, letters_within text) in
    let same : get_or front k d ≡ get_or text k d = ap (λ (xs : List ℕ). get_or xs k d) e ∙ get_or-take n text k d inside in
    let P : ℕ → Type 0 = IsAsciiAlphabetic in
    subst P (sym same) (is_letter (get_or text k d) (prefix_len_passes is_ascii_alphabetic text k d inside))
