use Rattle.std.proofs.Common.{length}
use Rattle.moved_books.proofs.Moving.{AreMovedTo}
use Rattle.moved_books.proofs.Walk.{behind}
use Rattle.moved_books.proofs.moved.moved_cells.Given as goal

abbrev pub invariant-loop-at : goal.invariant-loop-at
invariant-loop-at l = AreMovedTo l.change l.book.book.cells l.after l.apart.cells

abbrev pub decreases-loop-at : goal.decreases-loop-at
decreases-loop-at l = length (behind l.after l.book.book.cells)
