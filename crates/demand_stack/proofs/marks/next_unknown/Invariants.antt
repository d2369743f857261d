use Rattle.std.proofs.Common.{◌-◌, length}
use Rattle.demand_stack.specs.Recall.{known_of}
use Rattle.demand_stack.specs.Kept.{AreKnown}
use Rattle.demand_stack.proofs.marks.next_unknown.Given as goal

abbrev pub invariant-loop-next : goal.invariant-loop-next
invariant-loop-next l = AreKnown (known_of l.notes) l.fn.from l.next

abbrev pub decreases-loop-next : goal.decreases-loop-next
decreases-loop-next l = length l.initial.notes - l.next
