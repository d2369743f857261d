-- Rectangles of cells, and their walk.
use Rattle.std.specs.Prelude.{ℕ, zero, suc, ◌+◌, ◌-◌, ◌≤◌, Bool, ◌&&◌, ◌==◌, nat_le, List, [], ◌∷◌, map, flat_map, min, max}
use Rattle.cell_values.specs.declared.TheConstants.{LAST_COLUMN, LAST_ROW}
use Rattle.cell_values.specs.declared.address.Addr.{Addr}
use Rattle.cell_values.specs.declared.address.Area.{Area}

-- the rectangle between two cells of one sheet
abbrev pub between_cells : Addr → Addr → Area
between_cells a b = record {
  sheet = a.sheet;
  top = min a.row b.row;
  left = min a.col b.col;
  bottom = max a.row b.row;
  right = max a.col b.col;
}

-- the rectangle of one cell
abbrev pub one_cell : Addr → Area
one_cell a = record { sheet = a.sheet; top = a.row; left = a.col; bottom = a.row; right = a.col }

-- `n` numbers from `first` on
abbrev pub numbers_from : ℕ → ℕ → List ℕ
numbers_from first zero = []
numbers_from first (suc n) = first ∷ numbers_from (suc first) n

unfoldable pub height : Area → ℕ
height r = suc r.bottom - r.top

unfoldable pub width : Area → ℕ
width r = suc r.right - r.left

-- the cell that stands `i` rows below and `j` columns beside the first one
abbrev pub cell_of : Area → ℕ → ℕ → Addr
cell_of r i j = record { sheet = r.sheet; row = r.top + i; col = r.left + j }

abbrev pub row_of : Area → ℕ → List Addr
row_of r i = map (cell_of r i) (numbers_from 0 (width r))

abbrev pub column_of : Area → ℕ → List Addr
column_of r j = map (λ i. cell_of r i j) (numbers_from 0 (height r))

-- row by row, each from left to right
abbrev pub walk : Area → List Addr
walk r = flat_map (row_of r) (numbers_from 0 (height r))

-- the area has the cell
abbrev pub is_inside : Area → Addr → Bool
is_inside r a = (r.sheet == a.sheet) && (nat_le r.top a.row && nat_le a.row r.bottom) && (nat_le r.left a.col && nat_le a.col r.right)

-- a rectangle of cells of a sheet
pub record IsArea (r : Area) : Type 0 where
  pub top_from : 1 ≤ r.top
  pub top_to : r.top ≤ r.bottom
  pub bottom_to : r.bottom ≤ LAST_ROW
  pub left_from : 1 ≤ r.left
  pub left_to : r.left ≤ r.right
  pub right_to : r.right ≤ LAST_COLUMN
