use Rattle.std.proofs.Common.{◌≡◌, suc, ◌≤◌, true}
use Rattle.support_graph.specs.Blocks.{halves, up_halves}
use Rattle.support_graph.specs.Steps.{Sets, is_column_key}
use Rattle.support_graph.proofs.index.set_column.Given as goal

abbrev pub invariant-loop-level : goal.invariant-loop-level
invariant-loop-level l = record {
  low : l.low ≡ up_halves l.level l.area.first.row;
  low_to : l.low ≤ 65536;
  high : l.high ≡ halves l.level (suc l.area.last.row);
  sets : Sets (is_column_key l.area l.col l.level) l.present true l.initial.blocks.keys l.blocks.keys;
}
