use Rattle.std.proofs.Common.{◌≡◌, ◌+◌, ℕ, length, map}
use Rattle.cell_values.specs.declared.address.Addr.{Addr}
use Rattle.demand_spec.specs.declared.Asked.{Asked}
use Rattle.demand_spec.specs.Book.{Book}
use Rattle.shared_expressions.specs.Trees.{Trees}
use Rattle.worker_machine.specs.Evaluation.{part_to}
use Rattle.demand_stack.specs.Open.{AreOpen, begun_of}
use Rattle.demand_stack.specs.Kept.{lower}
use Rattle.demand_stack.proofs.Downward.{stack_cells, cells_from}
use Rattle.demand_stack.proofs.marks.abandon_to.Given as goal

abbrev pub invariant-loop-n : goal.invariant-loop-n
invariant-loop-n l = record {
  open_still : (p : Trees) (b : Book) (k : Addr → Asked) (f : ℕ → Addr) → AreOpen p b k (map f (begun_of l.notes (stack_cells l.stack))) l.fn.frames.frames → AreOpen p b k (map f (begun_of l.notes (cells_from l.n l.stack))) l.frames.frames;
  lower : lower l.cell (cells_from l.n l.stack) ≡ lower l.cell (stack_cells l.stack);
  counted : l.n + length (part_to l.cell (cells_from l.n l.stack)) ≡ length (part_to l.cell (stack_cells l.stack));
  room : l.frames.room ≡ l.fn.frames.room;
}
