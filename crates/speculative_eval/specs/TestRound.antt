-- What the tests say of a round of two workers and of its workers.
use Rattle.std.specs.Prelude.{◌≡◌, List}
use Rattle.cell_values.specs.declared.address.Addr.{Addr}
use Rattle.cell_values.specs.declared.values.Shown.{Shown}
use Rattle.workbook_core.specs.Books.{SharedBook}
use Rattle.claim_core.specs.Pending.{IsPending}
use Rattle.claim_core.specs.Passes.{RoundSeen}
use Rattle.demand_stack.specs.StackSeen.{AreStored}

-- these are the pending cells of the book, and all of its formula cells are among them
pub record AreAllCells (w : SharedBook) (cells : List Addr) : Type 0 where
  pub pending : IsPending w.book cells
  pub others : (results : List (Addr × Shown)) → AreStored (record { book = w.book; cells = cells }) results

-- the round is over them
pub record IsRoundOf (r : RoundSeen) (w : SharedBook) (cells : List Addr) : Type 0 where
  pub book : w.book ≡ r.setup.book
  pub cells_are : cells ≡ r.setup.cells
  pub all : AreAllCells w cells
