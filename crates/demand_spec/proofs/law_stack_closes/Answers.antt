use Rattle.demand_spec.proofs.Loops.{stack_closes}
use Rattle.demand_spec.proofs.law_stack_closes.Goals as goal

pub returns : goal.returns
returns c = stack_closes
