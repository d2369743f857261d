use Rattle.std.proofs.Common.{length}
use Rattle.recalculation.proofs.Carried.{AreCarriedTo}
use Rattle.recalculation.proofs.Walked.{behind}
use Rattle.recalculation.proofs.shift.moved_results.Given as goal

abbrev pub invariant-loop-at : goal.invariant-loop-at
invariant-loop-at l = AreCarriedTo l.change l.book.book.cells l.stored.entries l.after l.moved.entries

abbrev pub decreases-loop-at : goal.decreases-loop-at
decreases-loop-at l = length (behind l.after l.book.book.cells)
