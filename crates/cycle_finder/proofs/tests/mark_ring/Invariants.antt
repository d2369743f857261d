use Rattle.std.proofs.Common.{take}
use Rattle.cycle_finder.specs.Told.{Marks}
use Rattle.cycle_finder.proofs.tests.mark_ring.Given as goal

abbrev pub invariant-loop-cell : goal.invariant-loop-cell
invariant-loop-cell g l = Marks (take l.cell-index l.ring) l.shown l.initial.told.entries l.told.entries
