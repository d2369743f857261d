use Rattle.support_graph.specs.Steps.{Visits}
use Rattle.support_graph.proofs.Ranges.{IsYielded, is_of}
use Rattle.support_graph.proofs.index.visit_area.Given as goal

abbrev pub invariant-loop-reader : goal.invariant-loop-reader
invariant-loop-reader l = Visits (IsYielded is_of l.yielded) l.initial.search l.search
