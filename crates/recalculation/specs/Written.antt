-- Results that are written for the pending cells.
use Rattle.std.specs.Prelude.{◌≡◌, ℕ, ◌<◌, true, IsSome, Some, List, length, slice_index_or}
use Rattle.cell_values.specs.declared.address.Addr.{Addr}
use Rattle.cell_values.specs.declared.values.Shown.{Shown}
use Rattle.cell_values.specs.Order.{entry_at}
use Rattle.demand_spec.specs.Book.{Book, shown}
use Rattle.demand_spec.specs.Laws.{In}
use Rattle.demand_stack.specs.StackSeen.{AreStored}
use Rattle.parallel_evaluation.specs.Workers.{ArePending}
use Rattle.recalculation.specs.declared.progress.Progress.{Progress}

-- something stands for each of these cells
abbrev pub HasRoomFor : List Addr → List (Addr × Shown) → Type 0
HasRoomFor cells results = (k : ℕ) (d : Addr) → k < length cells → IsSome (entry_at results (slice_index_or cells k d))

-- for each of these cells stands what the book shows there
abbrev pub HasResultsOf : Book → List Addr → List (Addr × Shown) → Type 0
HasResultsOf b cells results = (k : ℕ) (d : Addr) → k < length cells → entry_at results (slice_index_or cells k d) ≡ Some (shown b (slice_index_or cells k d))

-- for all other cells stands what stood there
abbrev pub OthersStay : List Addr → List (Addr × Shown) → List (Addr × Shown) → Type 0
OthersStay cells old new = (a : Addr) → (In a cells → ⊥) → entry_at new a ≡ entry_at old a

-- all is ready for a round over the pending cells: the support is built, the results of the other formula cells are
-- there, and there is room for those of the pending ones
pub record IsReady (b : Book) (p : Progress) : Type 0 where
  pub built : p.built ≡ true
  pub pending : ArePending b p.stale
  pub stored : AreStored (record { book = b; cells = p.stale }) p.stored.entries
  pub room : HasRoomFor p.stale p.stored.entries
