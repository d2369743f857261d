use Rattle.worker_machine.proofs.Working.{end_knows_all}
use Rattle.worker_machine.proofs.law_ends_with_all.Goals as goal

pub returns : goal.returns
returns c = end_knows_all
