-- A workbook and its pending cells, and what is stored of the others.
use Rattle.std.specs.Prelude.{◌≡◌, Bool, true, not, cond, ◌&&◌, is_some, Option, Some, None, List}
use Rattle.cell_values.specs.declared.address.Addr.{Addr}
use Rattle.cell_values.specs.declared.values.Shown.{Shown}
use Rattle.cell_values.specs.Order.{entry_at}
use Rattle.demand_spec.specs.Book.{Book, formula_at, shown}
use Rattle.support_graph.specs.Pending.{among}
use Rattle.workbook_core.specs.Books.{SharedBook}

-- a workbook, and its pending cells in order
pub record Calculation : Type 0 where
  pub shared : SharedBook
  pub pending : List Addr

-- the cell has a formula and is not pending
abbrev pub has_result : Book → List Addr → Addr → Bool
has_result b pending a = is_some (formula_at b a) && not (among pending a)

-- what is stored for a cell: where it has a formula and is not pending, what the book shows there
abbrev pub stored_at : Book → List Addr → Addr → Option Shown
stored_at b pending a = cond (has_result b pending a) (Some (shown b a)) None

-- these results have what the book shows at each formula cell that is not pending
abbrev pub AreResultsOf : Book → List Addr → List (Addr × Shown) → Type 0
AreResultsOf b pending results = (a : Addr) → has_result b pending a ≡ true → entry_at results a ≡ Some (shown b a)
