use Rattle.demand_spec.proofs.Spread.{pending_listed, pending_list_is_closed, all_stay_pending}
use Rattle.demand_spec.proofs.law_pending_listed.Goals as goal

pub returns-clause-listed : goal.returns-clause-listed
returns-clause-listed c = pending_listed

pub returns-clause-closed : goal.returns-clause-closed
returns-clause-closed c = pending_list_is_closed

pub returns-clause-all : goal.returns-clause-all
returns-clause-all c = all_stay_pending
