use Rattle.std.proofs.Common.{◌≡◌, length}
use Rattle.cycle_finder.specs.Search.{IsFound, cells_behind}
use Rattle.cycle_finder.proofs.finder.cycles.Given as goal

abbrev pub invariant-loop-cell : goal.invariant-loop-cell
invariant-loop-cell l = record {
  book : l.walker ≡ l.book.book;
  found : IsFound l.book.book l.last l.found.loops.items l.found.seen.keys;
}

abbrev pub decreases-loop-cell : goal.decreases-loop-cell
decreases-loop-cell l = length (cells_behind l.book.book l.last)
