use Rattle.demand_spec.proofs.Results.{shows_own, shows_its_texts}
use Rattle.demand_spec.proofs.law_shown_values.Goals as goal

pub returns-clause-others : goal.returns-clause-others
returns-clause-others c = shows_own

pub returns-clause-texts : goal.returns-clause-texts
returns-clause-texts c = shows_its_texts
