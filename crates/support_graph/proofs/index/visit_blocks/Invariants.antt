use Rattle.support_graph.specs.Steps.{Visits}
use Rattle.support_graph.proofs.Ranges.{IsYielded, reads_key}
use Rattle.support_graph.proofs.index.visit_blocks.Given as goal

abbrev pub invariant-loop-key : goal.invariant-loop-key
invariant-loop-key l = Visits (IsYielded (reads_key l.index.readers.keys) l.yielded) l.initial.search l.search
