use Rattle.demand_spec.proofs.Results.{needs_are_lacking, demands_are_needs}
use Rattle.demand_spec.proofs.law_needs.Goals as goal

pub returns-clause-lacking : goal.returns-clause-lacking
returns-clause-lacking c = needs_are_lacking

pub returns-clause-demanded : goal.returns-clause-demanded
returns-clause-demanded c = demands_are_needs
