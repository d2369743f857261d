-- Addresses and their order.
use Rattle.std.specs.Prelude.{◌≡◌, ◌<◌, ◌≤◌, ◌⊎◌, Bool, ◌&&◌, ◌==◌}
use Rattle.cell_values.specs.declared.TheConstants.{LAST_COLUMN, LAST_ROW}
use Rattle.cell_values.specs.declared.address.Addr.{Addr}

abbrev pub same_addr : Addr → Addr → Bool
same_addr a b = (a.sheet == b.sheet) && ((a.row == b.row) && (a.col == b.col))

-- by sheet, then row, then column
abbrev pub IsBefore : Addr → Addr → Type 0
IsBefore a b = (a.sheet < b.sheet) ⊎ ((a.sheet ≡ b.sheet) × ((a.row < b.row) ⊎ ((a.row ≡ b.row) × (a.col < b.col))))

-- the row and the column are those of a cell of a sheet
pub record IsOnSheet (a : Addr) : Type 0 where
  pub row_from : 1 ≤ a.row
  pub row_to : a.row ≤ LAST_ROW
  pub col_from : 1 ≤ a.col
  pub col_to : a.col ≤ LAST_COLUMN
