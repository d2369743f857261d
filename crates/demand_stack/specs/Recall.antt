-- What a formula is asked over.
use Rattle.std.specs.Prelude.{Option, Some, None, List, map}
use Rattle.cell_values.specs.declared.address.Addr.{Addr}
use Rattle.cell_values.specs.declared.values.Shown.{Shown}
use Rattle.cell_values.specs.declared.values.Value.{Value}
use Rattle.demand_spec.specs.declared.Asked.{Asked}
use Rattle.demand_spec.specs.Book.{Content, Formula, own_of, look}
use Rattle.workbook_core.specs.Books.{SharedBook}
use Rattle.claim_core.specs.Pending.{IsPending}
use Rattle.worker_machine.specs.Jobs.{Pending}
use Rattle.worker_machine.specs.Evaluation.{AllRight, values}
use Rattle.demand_stack.specs.declared.notes.Note.{Note}
use Rattle.demand_stack.specs.StackSeen.{AreStored}

-- what is noted as known
abbrev pub known_of : List Note → List (Option Shown)
known_of ns = map (λ (n : Note). n.shown) ns

-- a book, its pending cells, and what is known of them
pub record Recall : Type 0 where
  pub shared : SharedBook
  pub cells : List Addr
  pub known : List (Option Shown)

-- the pending cells of a book
abbrev pub cells_in : SharedBook → List Addr → Pending
cells_in w cells = record { book = w.book; cells = cells }

-- the same of what is recalled
abbrev pub recalled_cells : Recall → Pending
recalled_cells r = cells_in r.shared r.cells

-- the cells are pending ones, each known result is right, and those of the other formula cells are stored
pub record IsRecall (w : SharedBook) (cells : List Addr) (known : List (Option Shown)) (results : List (Addr × Shown)) : Type 0 where
  pub pending : IsPending w.book cells
  pub right : AllRight (cells_in w cells) known
  pub stored : AreStored (cells_in w cells) results

-- the value of a cell that holds no formula
abbrev pub own_in : Option Content → Option Value
own_in (Some (Formula t)) = None
own_in held = Some (own_of held)

-- what is looked up where a cell is asked
abbrev pub look_over : SharedBook → List Addr → List (Option Shown) → Addr → Asked
look_over w cells known = look w.book (values (cells_in w cells) known)

-- the same of what is recalled
abbrev pub look_in : Recall → Addr → Asked
look_in r = look_over r.shared r.cells r.known
