use Rattle.std.proofs.Common.{◌≡◌, true, length}
use Rattle.cell_values.specs.declared.address.Addr.{Addr}
use Rattle.cell_values.specs.Order.{addresses, IsAfterAll}
use Rattle.demand_spec.specs.Listed.{AreCellsOf}
use Rattle.workbook_core.specs.Books.{lies_after}
use Rattle.recalculation.proofs.Walked.{behind}
use Rattle.recalculation.proofs.plain.plain_of.Given as goal

abbrev pub invariant-loop-at : goal.invariant-loop-at
invariant-loop-at g l = record {
  last : (a : Addr) → lies_after l.after a ≡ true → IsAfterAll a (addresses l.plain);
  texts : AreCellsOf l.book.book.texts l.plain;
}

abbrev pub decreases-loop-at : goal.decreases-loop-at
decreases-loop-at g l = length (behind l.after l.book.book.cells)
