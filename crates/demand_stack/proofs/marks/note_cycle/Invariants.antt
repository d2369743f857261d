use Rattle.std.proofs.Common.{◌≡◌, length}
use Rattle.worker_machine.specs.Evaluation.{part_to}
use Rattle.demand_stack.specs.Kept.{note_cycle}
use Rattle.demand_stack.proofs.Downward.{stack_cells, cells_from}
use Rattle.demand_stack.proofs.marks.note_cycle.Given as goal

abbrev pub invariant-loop-n : goal.invariant-loop-n
invariant-loop-n l = record {
  same : note_cycle l.length_of_cycle (part_to l.cell (cells_from l.n l.stack)) l.notes ≡ note_cycle l.length_of_cycle (part_to l.cell (stack_cells l.stack)) l.fn.notes;
  long : length l.notes ≡ length l.fn.notes;
}
