use Rattle.demand_spec.proofs.Rounds.{ask_grows}
use Rattle.demand_spec.proofs.law_asks_grow.Goals as goal

pub returns : goal.returns
returns c = ask_grows
