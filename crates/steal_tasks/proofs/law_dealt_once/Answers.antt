use Rattle.steal_tasks.proofs.Parts.{dealt_once}
use Rattle.steal_tasks.proofs.law_dealt_once.Goals as goal

pub returns : goal.returns
returns c = dealt_once
