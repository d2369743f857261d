use Rattle.std.proofs.Common.{◌≡◌, ◌++◌}
use Rattle.support_graph.proofs.search.Search.found.Given as goal

abbrev pub invariant-loop-cell : goal.invariant-loop-cell
invariant-loop-cell l = l.cells.items ++ l.cell-iterator ≡ l.self.seen.keys
