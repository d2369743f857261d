use Rattle.support_graph.specs.Steps.{Visits, ReadsArea}
use Rattle.support_graph.proofs.support.Support.visit_readers.Given as goal

abbrev pub invariant-loop-col : goal.invariant-loop-col
invariant-loop-col l = Visits (ReadsArea l.self l.changed l.col) l.initial.search l.search
