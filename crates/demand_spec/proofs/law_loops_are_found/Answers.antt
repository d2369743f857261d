use Rattle.demand_spec.proofs.Cycles.{loops_are_found}
use Rattle.demand_spec.proofs.law_loops_are_found.Goals as goal

pub returns : goal.returns
returns c = loops_are_found
