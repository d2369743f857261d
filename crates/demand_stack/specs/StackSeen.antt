-- A stack of pending cells, and what is known of all of them.
use Rattle.std.specs.Prelude.{◌≡◌, ℕ, ◌≤◌, Option, Some, None, List, [], ◌∷◌, length, get_or, replicate}
use Rattle.cell_values.specs.declared.address.Addr.{Addr}
use Rattle.cell_values.specs.declared.values.Shown.{Shown}
use Rattle.cell_values.specs.Order.{entry_at}
use Rattle.formula_trees.specs.Expr.{Expr}
use Rattle.demand_spec.specs.declared.Asked.{Asked}
use Rattle.demand_spec.specs.Book.{formula_at, ask_cell, shown}
use Rattle.demand_spec.specs.Laws.{In, Demands}
use Rattle.workbook_core.specs.Books.{SharedBook}
use Rattle.claim_core.specs.Pending.{IsPending}
use Rattle.worker_machine.specs.declared.state.Entry.{Entry}
use Rattle.worker_machine.specs.Jobs.{Pending, cell_at, shows}
use Rattle.worker_machine.specs.Evaluation.{IsEvaluation, cells_of, values}

-- the book, its pending cells in order, where the search for an unknown cell begins, the stack with its top first, and
-- what is known of each pending cell, by its number
pub record StackSeen : Type 0 where
  pub shared : SharedBook
  pub cells : List Addr
  pub first : ℕ
  pub stack : List Entry
  pub known : List (Option Shown)

-- the book and its pending cells
abbrev pub pending_of : StackSeen → Pending
pending_of s = record { book = s.shared.book; cells = s.cells }

-- nothing is begun, and nothing is known
abbrev pub at_first : SharedBook → List Addr → ℕ → StackSeen
at_first w cells first = record { shared = w; cells = cells; first = first; stack = []; known = replicate (length cells) None }

-- the same with another stack
abbrev pub with_stack : StackSeen → List Entry → StackSeen
with_stack s stack = record { shared = s.shared; cells = s.cells; first = s.first; stack = stack; known = s.known }

-- the same with other results known
abbrev pub with_known : StackSeen → List (Option Shown) → StackSeen
with_known s known = record { shared = s.shared; cells = s.cells; first = s.first; stack = s.stack; known = known }

-- the results of the formula cells that are not pending are there: what the book shows
abbrev pub AreStored : Pending → List (Addr × Shown) → Type 0
AreStored ps results = (a : Addr) (t : Expr) → formula_at ps.book a ≡ Some t → (In a ps.cells → ⊥) → entry_at results a ≡ Some (shown ps.book a)

-- the cells are pending ones of the book, what is known is right, and each cell of the stack is demanded by the one below it
pub record IsDemandStack (s : StackSeen) : Type 0 where
  pub pending : IsPending s.shared.book s.cells
  pub evaluation : IsEvaluation (pending_of s) s.known (cells_of s.stack)
  pub first : s.first ≤ length s.cells

-- the entry on top of a stack
abbrev pub first_entry : List Entry → Option Entry
first_entry [] = None
first_entry (f ∷ rest) = Some f

-- the top of the stack
abbrev pub top_of : StackSeen → Option Entry
top_of s = first_entry s.stack

-- the top of the stack, of which nothing is known
pub record IsUnknownTop (s : StackSeen) (f : Entry) : Type 0 where
  pub rest : List Entry
  pub on_top : s.stack ≡ f ∷ rest
  pub unknown : get_or s.known f.cell None ≡ None

-- the top of the stack, whose result is known
pub record IsKnownTop (s : StackSeen) (f : Entry) : Type 0 where
  pub rest : List Entry
  pub on_top : s.stack ≡ f ∷ rest
  pub result : Shown
  pub is_known : get_or s.known f.cell None ≡ Some result

-- the top of the stack, of which nothing is known, demands the cell i
pub record TopDemands (s : StackSeen) (i : ℕ) (f : Entry) : Type 0 where
  pub top : IsUnknownTop s f
  pub demands : Demands s.shared.book (cell_at (pending_of s) f.cell) (cell_at (pending_of s) i)

-- what the formula of an entry's cell gives over the known values
abbrev pub ask_entry : StackSeen → Entry → Option Asked
ask_entry s f = ask_cell s.shared.book (values (pending_of s) s.known) (cell_at (pending_of s) f.cell)

-- the result is what the book shows at the cell i, and no mark of a cycle
pub record IsFound (s : StackSeen) (i : ℕ) (r : Shown) : Type 0 where
  pub right : r ≡ shows (pending_of s) i
  pub no_cycle : (n : ℕ) → r ≡ Shown.Cycle n → ⊥
