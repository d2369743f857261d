-- Cells apart from a workbook.
use Rattle.std.specs.Prelude.{◌≡◌, Some, List}
use Rattle.cell_values.specs.declared.address.Addr.{Addr}
use Rattle.cell_values.specs.Order.{InOrder, addresses, entry_at}
use Rattle.demand_spec.specs.Edits.{Cells}
use Rattle.shared_expressions.specs.Trees.{Trees}
use Rattle.workbook_core.specs.declared.Content.{Content as Held}
use Rattle.workbook_core.specs.Books.{SharedBook}
use Rattle.workbook_core.specs.Held.{cells_in, IsHeldOf}

-- cells, and the trees that their formulas share, by number
pub record Apart : Type 0 where
  pub cells : Cells
  pub pool : Trees

-- the same, of cells that are held with ids of a pool
abbrev pub apart_of : List (Addr × Held) → Trees → Apart
apart_of es p = record { cells = cells_in p es; pool = p }

-- the cells are in order, and their formulas are some of the pool's
pub record AreApart (es : List (Addr × Held)) (p : Trees) : Type 0 where
  pub order : InOrder (addresses es)
  pub ids : (a : Addr) (h : Held) → entry_at es a ≡ Some h → IsHeldOf p h

-- a workbook's cells
abbrev pub cells_of : SharedBook → Apart
cells_of w = record { cells = w.book.cells; pool = w.pool }

-- the workbook with these cells in place of its own
abbrev pub with_cells : SharedBook → Apart → SharedBook
with_cells w c = record { book = record { cells = c.cells; texts = w.book.texts }; names = w.names; pool = c.pool }
