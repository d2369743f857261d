use Rattle.worker_machine.proofs.Working.{results_right}
use Rattle.worker_machine.proofs.law_results_right.Goals as goal

pub returns : goal.returns
returns c = results_right
