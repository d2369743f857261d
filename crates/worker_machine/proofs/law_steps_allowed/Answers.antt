use Rattle.worker_machine.proofs.Working.{steps_allowed}
use Rattle.worker_machine.proofs.law_steps_allowed.Goals as goal

pub returns : goal.returns
returns c = steps_allowed
