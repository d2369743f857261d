-- What the code holds of cells, and what stands there.
use Rattle.std.specs.Prelude.{◌≡◌, ◌<◌, Bool, true, false, Option, Some, is_some, cond, ◌&&◌, ◌==◌, List, [], ◌∷◌, length}
use Rattle.std.specs.List.{list_any}
use Rattle.cell_values.specs.declared.address.Addr.{Addr}
use Rattle.cell_values.specs.Addresses.{same_addr, IsOnSheet}
use Rattle.cell_values.specs.Order.{InOrder, addresses, entry_at}
use Rattle.demand_spec.specs.Book.{Content}
use Rattle.shared_expressions.specs.Trees.{Trees, tree_at}
use Rattle.workbook_core.specs.declared.Content.{Content as Held}
use Rattle.workbook_core.specs.declared.cells.ColumnFirst.{ColumnFirst}

-- the content of a cell, with its formula as a tree
abbrev pub content_in : Trees → Held → Content
content_in p (Held.Number n) = Content.Number n
content_in p (Held.Text t) = Content.Text t
content_in p (Held.Bool b) = Content.Truth b
content_in p (Held.Formula id) = Content.Formula (tree_at p id)

abbrev pub cells_in : Trees → List (Addr × Held) → List (Addr × Content)
cells_in p [] = []
cells_in p (c ∷ rest) = (c.0, content_in p c.1) ∷ cells_in p rest

-- a formula's id is one of the pool's
abbrev pub IsHeldOf : Trees → Held → Type 0
IsHeldOf p (Held.Formula id) = id.0 < length p
IsHeldOf p _ = Unit {0}

-- each cell is one of a sheet
abbrev pub AreOnSheets : List (Addr × Held) → Type 0
AreOnSheets es = (a : Addr) (h : Held) → entry_at es a ≡ Some h → IsOnSheet a

-- an address with its column before its row
abbrev pub turned : Addr → ColumnFirst
turned a = record { sheet = a.sheet; col = a.col; row = a.row }

abbrev pub same_turned : ColumnFirst → ColumnFirst → Bool
same_turned a b = (a.sheet == b.sheet) && ((a.col == b.col) && (a.row == b.row))

-- cells in order, and the same addresses by column
pub record AreIndexed (rows : List (Addr × Held)) (columns : List ColumnFirst) : Type 0 where
  pub order : InOrder (addresses rows)
  pub same : (a : Addr) → list_any (same_turned (turned a)) columns ≡ is_some (entry_at rows a)

-- the new cells are in order, have this at one address, and elsewhere what the old ones have
pub record SetsHeld (at : Addr) (held : Option Held) (old new : List (Addr × Held)) : Type 0 where
  pub order : InOrder (addresses new)
  pub lookups : (a : Addr) → entry_at new a ≡ cond (same_addr at a) held (entry_at old a)

-- it is a formula
abbrev pub holds_formula : Option Held → Bool
holds_formula (Some (Held.Formula id)) = true
holds_formula _ = false
