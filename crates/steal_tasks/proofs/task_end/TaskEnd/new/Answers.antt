use Rattle.steal_tasks.specs.Ends.{part_of, with_others}
use Rattle.steal_tasks.proofs.Taking.{counted_none}
use Rattle.steal_tasks.proofs.task_end.TaskEnd.new.Goals as goal

pub invariant_of-result : goal.invariant_of-result
invariant_of-result c = (counted_none c.args.count (with_others (part_of c.args.own) c.args.others.items) c.requires.0, c.requires.1)
