use Rattle.demand_spec.proofs.Rounds.{rounds_end}
use Rattle.demand_spec.proofs.Local.{need_is_there, need_is_mentioned}
use Rattle.demand_spec.proofs.law_rounds_end.Goals as goal

pub returns-clause-grow : goal.returns-clause-grow
returns-clause-grow c = rounds_end

pub returns-clause-there : goal.returns-clause-there
returns-clause-there c = need_is_there

pub returns-clause-mentioned : goal.returns-clause-mentioned
returns-clause-mentioned c = need_is_mentioned
