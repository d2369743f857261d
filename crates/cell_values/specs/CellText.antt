-- The text of a cell's address, such as `B7`.
use Rattle.std.specs.Prelude.{◌≡◌, ℕ, ◌+◌, ◌-◌, ◌*◌, ◌/◌, ◌%◌, ◌&&◌, nat_le, nat_lt, if◌then◌else◌, List, [], ◌∷◌, ◌++◌, take, drop, fold, Option, Some, None, option_and_then}
use Rattle.std.specs.List.{prefix_len}
use Rattle.std.specs.Char.{is_ascii_alphabetic, to_ascii_uppercase}
use Rattle.std.specs.Str.{all_ascii_digits}
use Rattle.std.specs.Str.Parse.{digits_value}
use Rattle.std.specs.Fmt.{decimal}
use Rattle.cell_values.specs.declared.TheConstants.{LAST_COLUMN, LAST_ROW}
use Rattle.cell_values.specs.declared.address.Addr.{Addr}
use Rattle.cell_values.specs.Addresses.{IsOnSheet}

-- the letter's place in the alphabet, in either case: A is 1, and Z is 26
abbrev pub letter_value : ℕ → ℕ
letter_value c = to_ascii_uppercase c - 64

-- the column's number: Z is 26, AA is 27, and no letter is 0
abbrev pub column_number : List ℕ → ℕ
column_number letters = fold (λ n c. 26 * n + letter_value c) 0 letters

-- the letters that a text begins with, and what stands behind them
abbrev pub leading_letters : List ℕ → List ℕ
leading_letters text = take (prefix_len is_ascii_alphabetic text) text

abbrev pub after_letters : List ℕ → List ℕ
after_letters text = drop (prefix_len is_ascii_alphabetic text) text

-- the number, if it counts from 1 up to the last
abbrev pub up_to : ℕ → ℕ → Option ℕ
up_to last n = if nat_le 1 n && nat_le n last then Some n else None

-- the column that letters name
unfoldable pub named_column : List ℕ → Option ℕ
named_column letters = up_to LAST_COLUMN (column_number letters)

-- the row that digits name; no digit is 0
unfoldable pub named_row : List ℕ → Option ℕ
named_row digits = if all_ascii_digits digits then up_to LAST_ROW (digits_value 10 digits) else None

-- the address that a text names on a sheet: letters and then digits, and both within the limits
abbrev pub read_addr : ℕ → List ℕ → Option Addr
read_addr sheet text = option_and_then
    (λ col. option_and_then (λ row. Some (record { sheet = sheet; row = row; col = col })) (named_row (after_letters text)))
    (named_column (leading_letters text))

-- the letters of a column: one up to Z, and then two
unfoldable pub column_letters : ℕ → List ℕ
column_letters col = (if nat_lt 26 col then (64 + (col - 1) / 26) ∷ [] else []) ++ (65 + (col - 1) % 26) ∷ []

-- the column in capitals and the row in decimal
abbrev pub cell_text : Addr → List ℕ
cell_text a = column_letters a.col ++ decimal a.row

-- the text of each cell of a sheet is read as that cell
abbrev pub CellTextReadsBack : Type 0
CellTextReadsBack = (a : Addr) → IsOnSheet a → read_addr a.sheet (cell_text a) ≡ Some a
