use Rattle.demand_spec.proofs.Loops.{carried}
use Rattle.demand_spec.proofs.law_carried.Goals as goal

pub returns : goal.returns
returns c = carried
