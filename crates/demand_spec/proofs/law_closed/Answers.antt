use Rattle.demand_spec.proofs.Local.{pending_is_closed, loop_in_closed}
use Rattle.demand_spec.proofs.law_closed.Goals as goal

pub returns-clause-pending : goal.returns-clause-pending
returns-clause-pending c = pending_is_closed

pub returns-clause-loops : goal.returns-clause-loops
returns-clause-loops c = loop_in_closed
