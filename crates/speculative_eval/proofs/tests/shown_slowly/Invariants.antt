use Rattle.std.proofs.Common.{◌≡◌, take}
use Rattle.cell_values.specs.Order.{addresses}
use Rattle.demand_spec.specs.Listed.{AreCellsOf}
use Rattle.speculative_eval.proofs.tests.shown_slowly.Given as goal

abbrev pub invariant-loop-i : goal.invariant-loop-i
invariant-loop-i g l = record { copied : addresses l.plain ≡ take l.i l.cells; texts : AreCellsOf l.book.book.texts l.plain }
