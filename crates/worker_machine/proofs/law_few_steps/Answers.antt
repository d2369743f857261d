use Rattle.worker_machine.proofs.Working.{few_steps}
use Rattle.worker_machine.proofs.law_few_steps.Goals as goal

pub returns : goal.returns
returns c = few_steps
