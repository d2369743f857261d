use Rattle.worker_machine.proofs.Working.{work_begins, changes_keep, settles_in_turn, steps_keep}
use Rattle.worker_machine.proofs.law_worker_goes_on.Goals as goal

pub returns-clause-begins : goal.returns-clause-begins
returns-clause-begins c = work_begins

pub returns-clause-changes : goal.returns-clause-changes
returns-clause-changes c = changes_keep

pub returns-clause-settling : goal.returns-clause-settling
returns-clause-settling c = settles_in_turn

pub returns-clause-steps : goal.returns-clause-steps
returns-clause-steps c = steps_keep
