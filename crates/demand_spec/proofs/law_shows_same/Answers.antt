use Rattle.demand_spec.proofs.Local.{shows_same}
use Rattle.demand_spec.proofs.law_shows_same.Goals as goal

pub returns : goal.returns
returns c = shows_same
