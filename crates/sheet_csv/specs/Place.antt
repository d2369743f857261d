-- Where a field stands.
use Rattle.std.specs.Prelude.{ℕ, if◌then◌else◌, List, [], Option, Some, None}
use Rattle.cell_values.specs.declared.address.Addr.{Addr}
use Rattle.sheet_csv.specs.declared.reading.Place.{Place}
use Rattle.sheet_csv.specs.Sheet.{Field, cell_at, is_in_sheet}

-- the field with these bytes
abbrev pub field_of_place : Place → List ℕ → Field
field_of_place p bytes = record { row = p.row; col = p.col; bytes = bytes }

-- the cell there, if it lies in the sheet
abbrev pub cell_of_place : Place → Option Addr
cell_of_place p = if is_in_sheet (field_of_place p []) then Some (cell_at p.sheet (field_of_place p [])) else None
