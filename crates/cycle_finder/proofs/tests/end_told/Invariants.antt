use Rattle.std.proofs.Common.{length}
use Rattle.cycle_finder.specs.Search.{cells_behind}
use Rattle.cycle_finder.specs.Told.{AllTold}
use Rattle.cycle_finder.proofs.tests.end_told.Given as goal

abbrev pub invariant-loop-cell : goal.invariant-loop-cell
invariant-loop-cell g l = AllTold l.book.book l.last l.told.entries

abbrev pub decreases-loop-cell : goal.decreases-loop-cell
decreases-loop-cell g l = length (cells_behind l.book.book l.last)
