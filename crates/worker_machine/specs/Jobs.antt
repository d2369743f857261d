-- What a worker of a round works on.
use Rattle.std.specs.Prelude.{ℕ, suc, ◌<◌, cond, List, [], ◌∷◌, Option, Some, None, option_map}
use Rattle.cell_values.specs.declared.address.Addr.{Addr}
use Rattle.cell_values.specs.declared.values.Shown.{Shown}
use Rattle.cell_values.specs.Addresses.{same_addr}
use Rattle.demand_spec.specs.Book.{Book, shown}
use Rattle.claim_core.specs.Pending.{IsPending}
use Rattle.claim_core.specs.Rule.{Setup, address}

-- the book, and the pending cells in order
pub record Pending : Type 0 where
  pub book : Book
  pub cells : List Addr

-- the pending cells, the worker's number, and how many workers there are
pub record Job : Type 0 where
  pub pending : Pending
  pub worker : ℕ
  pub workers : ℕ

-- the round, without the worker's number
abbrev pub round_of : Job → Setup
round_of j = record { book = j.pending.book; cells = j.pending.cells; workers = j.workers }

-- the cells are pending ones of the book, and the number is a worker's
pub record IsJob (j : Job) : Type 0 where
  pub pending : IsPending j.pending.book j.pending.cells
  pub worker : j.worker < j.workers

-- the address of the cell i
abbrev pub cell_at : Pending → ℕ → Addr
cell_at ps i = address ps.cells i

-- what the book shows at the cell i
abbrev pub shows : Pending → ℕ → Shown
shows ps i = shown ps.book (cell_at ps i)

-- the number of an address among these, none where it is not there
abbrev pub number_in : List Addr → Addr → Option ℕ
number_in [] a = None
number_in (c ∷ cs) a = cond (same_addr a c) (Some 0) (option_map suc (number_in cs a))

-- the number of a pending cell, none of any other
unfoldable pub cell_number : Pending → Addr → Option ℕ
cell_number ps a = number_in ps.cells a
