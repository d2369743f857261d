use Rattle.std.proofs.Common.{length}
use Rattle.moved_books.proofs.Moving.{AreTouchedTo}
use Rattle.moved_books.proofs.Walk.{behind}
use Rattle.moved_books.proofs.touched.touched_cells.Given as goal

abbrev pub invariant-loop-at : goal.invariant-loop-at
invariant-loop-at l = AreTouchedTo l.change l.book.book l.after l.touched.items

abbrev pub decreases-loop-at : goal.decreases-loop-at
decreases-loop-at l = length (behind l.after l.book.book.cells)
