-- Where inserted and deleted rows bring cells, and what formulas name there.
use Rattle.std.specs.Prelude.{ℕ, pos, ◌+◌, ◌-◌, ◌*◌, ◌-ℤ◌, ◌<◌, ◌≤◌, Bool, false, cond, ◌==◌, nat_lt, nat_le, Option, Some, None, option_map, option_and_then, List, [], ◌∷◌, length, filter_map}
use Rattle.cell_values.specs.declared.TheConstants.{LAST_ROW, MAX_RANGE_CELLS}
use Rattle.cell_values.specs.declared.address.Addr.{Addr}
use Rattle.cell_values.specs.declared.address.Area.{Area}
use Rattle.cell_values.specs.Areas.{between_cells, numbers_from, height, width}
use Rattle.formula_trees.specs.declared.tree.Part.{Part}
use Rattle.formula_trees.specs.declared.tree.Reference.{Reference}
use Rattle.formula_trees.specs.Expr.{Expr, Ref, Range, RefError}
use Rattle.formula_trees.specs.Mapped.{mapped}
use Rattle.formula_trees.specs.References.{resolve}
use Rattle.row_shift.specs.declared.change.RowChange.{RowChange}

abbrev pub sheet_of : RowChange → ℕ
sheet_of (RowChange.Insert sheet row count) = sheet
sheet_of (RowChange.Delete sheet row count) = sheet

abbrev pub row_of : RowChange → ℕ
row_of (RowChange.Insert sheet row count) = row
row_of (RowChange.Delete sheet row count) = row

abbrev pub count_of : RowChange → ℕ
count_of (RowChange.Insert sheet row count) = count
count_of (RowChange.Delete sheet row count) = count

-- rows of a sheet, at least one
pub record IsChange (change : RowChange) : Type 0 where
  pub row_from : 1 ≤ row_of change
  pub row_to : row_of change ≤ LAST_ROW
  pub some : 0 < count_of change
  pub few : count_of change ≤ LAST_ROW

-- the place of a row of the changed sheet: none for a deleted one, and for one that is pushed past the last row
abbrev pub moved_row : RowChange → ℕ → Option ℕ
moved_row (RowChange.Insert sheet row count) r = cond (nat_lt r row) (Some r) (cond (nat_le (r + count) LAST_ROW) (Some (r + count)) None)
moved_row (RowChange.Delete sheet row count) r = cond (nat_lt r row) (Some r) (cond (nat_lt r (row + count)) None (Some (r - count)))

-- the place of a row of any sheet
abbrev pub row_on : RowChange → ℕ → ℕ → Option ℕ
row_on change sheet r = cond (sheet == sheet_of change) (moved_row change r) (Some r)

abbrev pub in_row : Addr → ℕ → Addr
in_row a r = record { sheet = a.sheet; row = r; col = a.col }

-- the place of a cell
abbrev pub move_cell : RowChange → Addr → Option Addr
move_cell change a = option_map (in_row a) (row_on change a.sheet a.row)

-- the places of the rows of a range that have one; they ascend
abbrev pub places : RowChange → Area → List ℕ
places change r = filter_map (row_on change r.sheet) (numbers_from r.top (height r))

-- an insertion leaves a row of the range without a place
abbrev pub loses_row : RowChange → Area → Bool
loses_row (RowChange.Insert sheet row count) r = nat_lt (length (places (RowChange.Insert sheet row count) r)) (height r)
loses_row (RowChange.Delete sheet row count) r = false

abbrev pub last_of : ℕ → List ℕ → ℕ
last_of n [] = n
last_of n (m ∷ rest) = last_of m rest

-- the first and the last of numbers
abbrev pub ends : List ℕ → Option (ℕ × ℕ)
ends [] = None
ends (n ∷ rest) = Some (n, last_of n rest)

-- the same columns, in other rows
abbrev pub in_rows : Area → ℕ × ℕ → Area
in_rows r rows = record { sheet = r.sheet; top = rows.0; left = r.left; bottom = rows.1; right = r.right }

-- an area of at most 65,536 cells
abbrev pub if_small : Area → Option Area
if_small r = cond (nat_le (height r * width r) MAX_RANGE_CELLS) (Some r) None

-- the first and the last row of the least rectangle that holds the places of a range's cells: none where no cell has a
-- place, and where an insertion leaves one without
unfoldable pub moved_rows : RowChange → Area → Option (ℕ × ℕ)
moved_rows change r = cond (loses_row change r) None (ends (places change r))

-- that rectangle, none where it has more than 65,536 cells
unfoldable pub moved_area : RowChange → Area → Option Area
moved_area change r = option_and_then (λ rows. if_small (in_rows r rows)) (moved_rows change r)

-- a part that names a row, where the formula stands in the row `own`
abbrev pub part_for : ℕ → ℕ → Part → Part
part_for own row (Part.At n) = Part.At row
part_for own row (Part.By d) = Part.By (pos row -ℤ pos own)

-- a reference to the same column in another row
abbrev pub to_row : ℕ → Reference → ℕ → Reference
to_row own r row = record { sheet = r.sheet; col = r.col; row = part_for own row r.row }

abbrev pub ref_to : ℕ → Reference → Option Addr → Expr
ref_to own r (Some a) = Ref (to_row own r a.row)
ref_to own r None = RefError

-- what stands for a reference at the cell `at`, whose place is in the row `own`
abbrev pub moved_ref : RowChange → Addr → ℕ → Reference → Expr
moved_ref change at own r = ref_to own r (option_and_then (move_cell change) (resolve at r))

-- the corner with the lesser row gets the new top row, the other one the new bottom row
abbrev pub range_to : ℕ → Reference → Reference → Bool → Option Area → Expr
range_to own r s down (Some n) = Range (to_row own r (cond down n.top n.bottom)) (to_row own s (cond down n.bottom n.top))
range_to own r s down None = RefError

abbrev pub range_between : RowChange → ℕ → Reference → Reference → Option Addr → Option Addr → Expr
range_between change own r s (Some a) (Some b) = range_to own r s (nat_le a.row b.row) (moved_area change (between_cells a b))
range_between change own r s _ _ = RefError

abbrev pub moved_range : RowChange → Addr → ℕ → Reference → Reference → Expr
moved_range change at own r s = range_between change own r s (resolve at r) (resolve at s)

-- a formula of the cell `at`, as it stands at that cell's place `to`
abbrev pub moved : RowChange → Addr → Addr → Expr → Expr
moved change at to e = mapped (moved_ref change at to.row) (moved_range change at to.row) (λ t. t) e
