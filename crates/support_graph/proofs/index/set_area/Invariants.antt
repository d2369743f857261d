use Rattle.std.proofs.Common.{true}
use Rattle.support_graph.specs.Steps.{Sets}
use Rattle.support_graph.proofs.Keys.{columns_before}
use Rattle.support_graph.proofs.index.set_area.Given as goal

abbrev pub invariant-loop-col : goal.invariant-loop-col
invariant-loop-col l = Sets (columns_before l.area l.col) l.present true l.initial.blocks.keys l.blocks.keys
