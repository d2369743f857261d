-- What the tests say of the formula cells of a book.
use Rattle.std.specs.Prelude.{◌≡◌, Bool, Some, is_some, List, []}
use Rattle.std.specs.List.{filter}
use Rattle.cell_values.specs.declared.address.Addr.{Addr}
use Rattle.cell_values.specs.declared.values.Shown.{Shown}
use Rattle.cell_values.specs.Order.{addresses}
use Rattle.formula_trees.specs.Expr.{Expr}
use Rattle.formula_trees.specs.Mentions.{mentions}
use Rattle.demand_spec.specs.Book.{Book, formula_at}
use Rattle.workbook_core.specs.Books.{SharedBook, IsWorkbook}
use Rattle.demand_stack.specs.StackSeen.{AreStored}
use Rattle.parallel_evaluation.specs.Workers.{ArePending}

-- the cell holds a formula
abbrev pub holds_formula : Book → Addr → Bool
holds_formula b a = is_some (formula_at b a)

-- all formula cells of the book, in order; all of them are pending, so that no result is asked for
pub record AreFormulaCells (w : SharedBook) (cells : List Addr) : Type 0 where
  pub workbook : IsWorkbook w
  pub all : cells ≡ filter (holds_formula w.book) (addresses w.book.cells)
  pub pending : ArePending w.book cells
  pub others : (results : List (Addr × Shown)) → AreStored (record { book = w.book; cells = cells }) results

-- the formula of the cell mentions no cell
abbrev pub MentionsNone : Book → Addr → Type 0
MentionsNone b a = (t : Expr) → formula_at b a ≡ Some t → mentions a t ≡ []

-- these cells may be pending on their own: the results of all others are stored
pub record AreAlone (b : Book) (cells : List Addr) (results : List (Addr × Shown)) : Type 0 where
  pub pending : ArePending b cells
  pub stored : AreStored (record { book = b; cells = cells }) results
