use Rattle.std.proofs.Common.{◌≡◌, ◌≤◌}
use Rattle.support_graph.specs.Blocks.{halves}
use Rattle.support_graph.specs.Steps.{Visits, AreSeen, InColumn}
use Rattle.support_graph.proofs.index.visit_row.Given as goal

abbrev pub invariant-loop-level : goal.invariant-loop-level
invariant-loop-level l = record {
  number : l.number ≡ halves l.level l.addr.row;
  small : l.number ≤ 65536;
  visits : Visits (InColumn l.index.blocks.keys l.index.readers.keys l.addr.sheet l.addr.col l.addr.row l.addr.row l.level) l.initial.search l.search;
  done : AreSeen l.index.blocks.keys l.index.readers.keys l.done.keys l.search;
}
