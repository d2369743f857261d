use Rattle.std.proofs.Common.{◌≡◌, take}
use Rattle.cell_values.specs.Order.{addresses}
use Rattle.demand_spec.specs.Listed.{AreCellsOf}
use Rattle.parallel_evaluation.proofs.tests.plain_book.Given as goal

abbrev pub invariant-loop-i : goal.invariant-loop-i
invariant-loop-i g l = record {
  so_far : addresses l.plain ≡ take l.i l.all.items;
  texts : AreCellsOf l.book.book.texts l.plain;
}
