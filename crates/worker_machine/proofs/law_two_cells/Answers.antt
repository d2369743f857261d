use Rattle.worker_machine.proofs.TwoCellsRun.{two_cells_run}
use Rattle.worker_machine.proofs.law_two_cells.Goals as goal

pub returns : goal.returns
returns c = two_cells_run
