-- What inserted or deleted rows leave beside a workbook.
use Rattle.std.specs.Prelude.{◌≡◌, true, cond, ⊤, IsSome, Option, Some, None, List, ◌↔◌}
use Rattle.cell_values.specs.declared.address.Addr.{Addr}
use Rattle.cell_values.specs.declared.values.Shown.{Shown}
use Rattle.cell_values.specs.Addresses.{same_addr}
use Rattle.cell_values.specs.Order.{InOrder, entry_at}
use Rattle.demand_spec.specs.Book.{Book}
use Rattle.demand_spec.specs.Edits.{Cells}
use Rattle.demand_spec.specs.Laws.{In, OfSet, Pending}
use Rattle.row_shift.specs.declared.change.RowChange.{RowChange}
use Rattle.row_shift.specs.Moves.{move_cell}
use Rattle.row_shift.specs.Pushed.{pushes_out}
use Rattle.support_graph.specs.Pending.{among}
use Rattle.recalculation.specs.declared.shift.ShiftFault.{ShiftFault}

-- why rows are not inserted
abbrev pub IsShiftFault : RowChange → Cells → ShiftFault → Type 0
IsShiftFault change cells ShiftFault.RowsFull = pushes_out change cells ≡ true
IsShiftFault change cells ShiftFault.OutOfMemory = ⊤

-- what is stored for a cell came to the cell's place, if there are both
abbrev pub IsCarried : Option Addr → Option Shown → List (Addr × Shown) → List (Addr × Shown) → Type 0
IsCarried (Some to) (Some shown) old new = (q : Addr) → entry_at new q ≡ cond (same_addr to q) (Some shown) (entry_at old q)
IsCarried (Some to) None old new = new ≡ old
IsCarried None shown old new = new ≡ old

-- what is stored for each of the cells stands at the cell's place
abbrev pub AreCarried : RowChange → Cells → List (Addr × Shown) → List (Addr × Shown) → Type 0
AreCarried change cells stored new = (a x : Addr) (shown : Shown) → IsSome (entry_at cells a) → move_cell change a ≡ Some x → entry_at stored a ≡ Some shown → entry_at new x ≡ Some shown

-- in order, exactly the formula cells that are reached from some cells
pub record AreReached (b : Book) (from new : List Addr) : Type 0 where
  pub order : InOrder new
  pub cells : (c : Addr) → In c new ↔ Pending b (λ a. ⊥) (OfSet (among from)) c
