use Rattle.std.proofs.Common.{length}
use Rattle.demand_spec.proofs.book.+find_cell.Given as goal

abbrev pub decreases-find_cell : goal.decreases-find_cell
decreases-find_cell l = length l.cells.now
