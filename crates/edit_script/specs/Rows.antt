-- The rows that a line names.
use Rattle.std.specs.Prelude.{ℕ, suc, ◌+◌, ◌<◌, ◌≤◌, ℤ, pos, nat_abs, int_le, nat_le, ◌&&◌, ◌==◌, length, List, [], ◌∷◌, Option, Some, None, option_and_then, if◌then◌else◌}
use Rattle.std.specs.List.{before_first, after_first}
use Rattle.cell_values.specs.declared.TheConstants.{LAST_ROW}
use Rattle.cell_values.specs.Fields.{number_of_field}
use Rattle.edit_script.specs.declared.line.Rows.{Rows}
use Rattle.edit_script.specs.Pieces.{is_space}
use Rattle.edit_script.specs.Targets.{Names, sheet_in}

-- a number from 1 to the last row
abbrev pub row_of : ℤ → Option ℕ
row_of n = if int_le (pos 1) n && int_le n (pos LAST_ROW) then Some (nat_abs n) else None

-- the number from 1 to the last row that a text writes, with no zero in front
abbrev pub row_number : List ℕ → Option ℕ
row_number [] = None
row_number (c ∷ rest) = if c == 48 then None else option_and_then row_of (number_of_field (c ∷ rest))

-- rows, if all that tells them is there
abbrev pub rows_of : Option ℕ → Option ℕ → Option ℕ → Option Rows
rows_of (Some row) (Some count) (Some sheet) = Some (record { sheet = sheet; row = row; count = count })
rows_of None count sheet = None
rows_of (Some row) None sheet = None
rows_of (Some row) (Some count) None = None

-- a row, a count, and the sheet's name or none, with one space between them
unfoldable pub rows_in : Names → List ℕ → Option Rows
rows_in names text =
    let behind = after_first is_space text in
    rows_of (row_number (before_first is_space text)) (row_number (before_first is_space behind)) (sheet_in names (after_first is_space behind))

-- rows, if the last one lies on the sheet
abbrev pub if_within : Rows → Option Rows
if_within r = if nat_le (r.row + r.count) (suc LAST_ROW) then Some r else None

-- a row and a count of rows of one of the sheets
pub record AreRowsOf (names : Names) (r : Rows) : Type 0 where
  pub of_sheets : r.sheet < length names
  pub row_from : 1 ≤ r.row
  pub row_to : r.row ≤ LAST_ROW
  pub some : 1 ≤ r.count
  pub few : r.count ≤ LAST_ROW

-- the last of the rows lies on the sheet
abbrev pub AreWithin : Rows → Type 0
AreWithin r = r.row + r.count ≤ suc LAST_ROW

abbrev pub IsRowNumber : ℕ → Type 0
IsRowNumber n = (1 ≤ n) × (n ≤ LAST_ROW)
