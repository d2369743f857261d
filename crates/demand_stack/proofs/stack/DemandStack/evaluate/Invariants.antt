use Rattle.std.proofs.Common.{◌≡◌, true}
use Rattle.demand_stack.specs.Alone.{SameCells, is_met, steps_left}
use Rattle.demand_stack.proofs.stack.DemandStack.evaluate.Given as goal

abbrev pub invariant-loop-top : goal.invariant-loop-top
invariant-loop-top l = record {
  same : SameCells l.fn.self l.self;
  met : is_met l.self l.cell ≡ true;
}

abbrev pub decreases-loop-top : goal.decreases-loop-top
decreases-loop-top l = steps_left l.self
