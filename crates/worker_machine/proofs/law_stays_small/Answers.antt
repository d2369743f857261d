use Rattle.worker_machine.proofs.Room.{stays_small}
use Rattle.worker_machine.proofs.law_stays_small.Goals as goal

pub returns : goal.returns
returns c = stays_small
