use Rattle.std.proofs.Common.{◌≡◌, ◌≤◌}
use Rattle.support_graph.specs.Blocks.{halves}
use Rattle.support_graph.specs.Steps.{Visits, InColumn}
use Rattle.support_graph.proofs.index.visit_column.Given as goal

abbrev pub invariant-loop-level : goal.invariant-loop-level
invariant-loop-level l = record {
  first : l.first ≡ halves l.level l.top;
  last : l.last ≡ halves l.level l.bottom;
  small : l.last ≤ 65536;
  visits : Visits (InColumn l.index.blocks.keys l.index.readers.keys l.sheet l.col l.top l.bottom l.level) l.initial.search l.search;
}
