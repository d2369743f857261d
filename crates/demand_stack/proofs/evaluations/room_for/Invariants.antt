use Rattle.std.proofs.Common.{◌≡◌, ◌+◌, ◌*◌, ◌≤◌, drop}
use Rattle.demand_stack.specs.Open.{depths}
use Rattle.demand_stack.proofs.evaluations.room_for.Given as goal

abbrev pub invariant-loop-i : goal.invariant-loop-i
invariant-loop-i l = record {
  sum : l.room + depths l.book.book (drop l.i l.cells) ≡ depths l.book.book l.cells;
  few : l.room ≤ 512 * l.i;
}
