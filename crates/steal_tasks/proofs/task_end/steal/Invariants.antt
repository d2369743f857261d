use Rattle.std.proofs.Common.{◌≡◌, take, drop}
use Rattle.steal_tasks.specs.Ends.{AllMissed}
use Rattle.steal_tasks.proofs.task_end.steal.Given as goal

abbrev pub invariant-loop-other : goal.invariant-loop-other
invariant-loop-other l = AllMissed (take l.other-index l.initial.others) (take l.other-index l.others) × (drop l.other-index l.others ≡ drop l.other-index l.initial.others)
