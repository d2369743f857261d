use Rattle.steal_tasks.proofs.Sharing.{taken_once}
use Rattle.steal_tasks.proofs.law_taken_once.Goals as goal

pub returns : goal.returns
returns c = taken_once
