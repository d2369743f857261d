use Rattle.std.proofs.Common.{◌≡◌, ◌++◌, ◌-◌, Some}
use Rattle.cycle_finder.specs.Loops.{trail}
use Rattle.cycle_finder.proofs.walker.Walker.trail.Given as goal

abbrev pub invariant-loop : goal.invariant-loop
invariant-loop l = record {
  cells : l.cells.items ++ trail l.self (l.steps - l.counter) l.next ≡ trail l.fn.self l.fn.steps (Some l.fn.from);
  book : l.self ≡ l.fn.self;
}
