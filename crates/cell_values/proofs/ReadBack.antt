-- The text of each cell of a sheet is read as that cell.
use Rattle.std.proofs.Common.{◌≡◌, ℕ, ◌+◌, ◌-◌, ◌*◌, ◌/◌, ◌%◌, ◌<◌, ◌≤◌, ◌^◌, Bool, true, false, cond, nat_lt, List, [], ◌∷◌, ◌++◌, length, refl, ap, sym, ◌∙◌, arith, Some, None}
use Rattle.std.proofs.lemmas.List.{take_at, drop_at}
use Rattle.std.proofs.lemmas.Bool.Decides.{nat_tests}
use Rattle.std.proofs.lemmas.Bool.{and_parts, and_from, ltb-true, ltb-false, cond-true}
use Rattle.std.proofs.lemmas.Fmt.{digits_decimal, digits_value-decimal}
use Rattle.std.proofs.lemmas.Str.Parse.{IsNumeralModel, numerals_by_value, tells_all_ascii_digits}
use Rattle.std.specs.Fmt.{decimal}
use Rattle.std.specs.List.{prefix_len, list_all}
use Rattle.std.specs.Char.{is_ascii_alphabetic}
use Rattle.std.specs.Str.{all_ascii_digits}
use Rattle.std.specs.Str.Parse.{digits_value}
use Rattle.cell_values.specs.CellText.{letter_value, column_number, up_to, named_column, named_row, leading_letters, after_letters, read_addr, column_letters, cell_text, CellTextReadsBack}

own : IsNumeralModel (λ ds. all_ascii_digits ds ≡ true) (digits_value 10)
own = numerals_by_value _ tells_all_ascii_digits

pub digits_no_letter : (ds : List ℕ) → all_ascii_digits ds ≡ true → prefix_len is_ascii_alphabetic ds ≡ 0
digits_no_letter [] h = refl
digits_no_letter (d ∷ ds) h = grind (arith, nat_tests)

cons_len : (b : Bool) (n m : ℕ) → b ≡ true → n ≡ m → cond b (1 + n) 0 ≡ 1 + m
cons_len true n m h e = ap (λ k. 1 + k) e
cons_len false n m h e = cc

pub letters_len : (letters ds : List ℕ) → list_all is_ascii_alphabetic letters ≡ true → prefix_len is_ascii_alphabetic ds ≡ 0 → prefix_len is_ascii_alphabetic (letters ++ ds) ≡ length letters
letters_len [] ds h e = e
letters_len (c ∷ rest) ds h e =
    let parts = and_parts (is_ascii_alphabetic c) (list_all is_ascii_alphabetic rest) h in
    cons_len _ _ _ parts.0 (letters_len rest ds parts.1 e) ∙ omega arith

capital_value : (c : ℕ) → c < 97 → letter_value c ≡ c - 64
capital_value c h = grind (arith, nat_tests)

capital_is_letter : (c : ℕ) → 65 ≤ c → c ≤ 90 → is_ascii_alphabetic c ≡ true
capital_is_letter c low high = grind (arith, nat_tests)

-- the letters of a column are letters, and name it
pub record Names (col : ℕ) (letters : List ℕ) : Type 0 where
  pub all_letters : list_all is_ascii_alphabetic letters ≡ true
  pub value : column_number letters ≡ col

one_names : (col : ℕ) → 1 ≤ col → col ≤ 26 → Names col ((65 + (col - 1) % 26) ∷ [])
one_names col low high =
    let place : (col - 1) % 26 ≡ col - 1 = omega arith in
    record {
      all_letters = and_from _ _ (capital_is_letter (65 + (col - 1) % 26) (omega arith) (omega arith)) refl;
      value = let v = capital_value (65 + (col - 1) % 26) (omega arith) in omega arith;
    }

two_names : (col : ℕ) → 26 < col → col ≤ 256 → Names col ((64 + (col - 1) / 26) ∷ (65 + (col - 1) % 26) ∷ [])
two_names col low high =
    let split : 26 * ((col - 1) / 26) + (col - 1) % 26 ≡ col - 1 = omega arith in
    let short : (col - 1) % 26 < 26 = omega arith in
    record {
      all_letters = and_from _ _ (capital_is_letter (64 + (col - 1) / 26) (omega arith) (omega arith)) (and_from _ _ (capital_is_letter (65 + (col - 1) % 26) (omega arith) (omega arith)) refl);
      value =
          let v = capital_value (64 + (col - 1) / 26) (omega arith) in
          let w = capital_value (65 + (col - 1) % 26) (omega arith) in
          omega arith;
    }

names_by : (col : ℕ) (two : Bool) → nat_lt 26 col ≡ two → 1 ≤ col → col ≤ 256 → Names col ((cond two ((64 + (col - 1) / 26) ∷ []) []) ++ (65 + (col - 1) % 26) ∷ [])
names_by col true e low high = two_names col (ltb-true 26 col e) high
names_by col false e low high = one_names col low (ltb-false 26 col e)

pub column_letters_name : (col : ℕ) → 1 ≤ col → col ≤ 256 → Names col (column_letters col)
unfolding column_letters
column_letters_name col low high = names_by col (nat_lt 26 col) refl low high

up_to_within : (last n : ℕ) → 1 ≤ n → n ≤ last → up_to last n ≡ Some n
up_to_within last n low high = grind (arith, nat_tests)

named_column_letters : (col : ℕ) (letters : List ℕ) → 1 ≤ col → col ≤ 256 → column_number letters ≡ col → named_column letters ≡ Some col
unfolding named_column
named_column_letters col letters low high e = ap (up_to 256) e ∙ up_to_within 256 col low high

named_row_digits : (row : ℕ) (digits : List ℕ) → 1 ≤ row → row ≤ 65536 → all_ascii_digits digits ≡ true → digits_value 10 digits ≡ row → named_row digits ≡ Some row
unfolding named_row
named_row_digits row digits low high d e = cond-true _ _ None d ∙ ap (up_to 65536) e ∙ up_to_within 65536 row low high

read_parts : (sheet row col : ℕ) (text letters digits : List ℕ) → leading_letters text ≡ letters → after_letters text ≡ digits → named_column letters ≡ Some col → named_row digits ≡ Some row → read_addr sheet text ≡ Some (record { sheet = sheet; row = row; col = col })
read_parts sheet row col text letters digits l d c r = simp (l, d, c, r)

pub cell_text_reads_back : CellTextReadsBack
cell_text_reads_back a on =
    let letters = column_letters a.col in
    let digits = decimal a.row in
    let names = column_letters_name a.col on.col_from on.col_to in
    let fits : a.row < 2 ^ 64 = omega (arith, on.row_to) in
    let numeral = digits_decimal own a.row fits in
    let len = letters_len letters digits names.all_letters (digits_no_letter digits numeral) in
    read_parts a.sheet a.row a.col (cell_text a) letters digits
    (take_at letters digits _ (sym len))
    (drop_at letters digits _ (sym len))
    (named_column_letters a.col letters on.col_from on.col_to names.value)
    (named_row_digits a.row digits on.row_from on.row_to numeral (digits_value-decimal own a.row fits))
