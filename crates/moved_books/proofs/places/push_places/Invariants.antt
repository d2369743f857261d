use Rattle.moved_books.proofs.Placed.{ArePlacedTo}
use Rattle.moved_books.proofs.places.push_places.Given as goal

abbrev pub invariant-loop-i : goal.invariant-loop-i
invariant-loop-i l = ArePlacedTo l.change l.cells l.fn.places.items l.i l.places.items
