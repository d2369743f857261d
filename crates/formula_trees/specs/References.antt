-- What references and ranges name at a cell.
use Rattle.std.specs.Prelude.{ℕ, ℤ, pos, negsuc, ◌+ℤ◌, ◌&&◌, nat_le, Option, Some, None, unwrap_or, if◌then◌else◌}
use Rattle.cell_values.specs.declared.address.Addr.{Addr}
use Rattle.cell_values.specs.declared.address.Area.{Area}
use Rattle.cell_values.specs.declared.TheConstants.{LAST_ROW, LAST_COLUMN}
use Rattle.cell_values.specs.Areas.{between_cells}
use Rattle.formula_trees.specs.declared.tree.Part.{Part}
use Rattle.formula_trees.specs.declared.tree.Reference.{Reference}

abbrev pub part_at : ℕ → Part → ℤ
part_at here (Part.At n) = pos n
part_at here (Part.By d) = pos here +ℤ d

-- a number from 1 to `most`
abbrev pub up_to : ℕ → ℤ → Option ℕ
up_to most (pos n) = if nat_le 1 n && nat_le n most then Some n else None
up_to most (negsuc n) = None

abbrev pub cell_at : ℕ → Option ℕ → Option ℕ → Option Addr
cell_at s (Some r) (Some c) = Some (record { sheet = s; row = r; col = c })
cell_at s _ _ = None

-- the cell that a reference names, none where it lies outside the sheet
unfoldable pub resolve : Addr → Reference → Option Addr
resolve at r = cell_at (unwrap_or r.sheet at.sheet) (up_to LAST_ROW (part_at at.row r.row)) (up_to LAST_COLUMN (part_at at.col r.col))

-- the rectangle between two corners, none where one lies outside the sheet
abbrev pub area_between : Option Addr → Option Addr → Option Area
area_between (Some a) (Some b) = Some (between_cells a b)
area_between _ _ = None

abbrev pub area_of : Addr → Reference → Reference → Option Area
area_of at r s = area_between (resolve at r) (resolve at s)
