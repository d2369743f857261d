use Rattle.std.proofs.Common.{◌≡◌, []}
use Rattle.demand_stack.proofs.tests.run.Given as goal

abbrev pub invariant-loop : goal.invariant-loop
invariant-loop l = record {
  idle : l.stack.stack ≡ [];
  cells : l.stack.cells ≡ l.fn.stack.cells;
}
