use Rattle.sheet_loading.proofs.Sequence.{others_follow, first_refuses}
use Rattle.sheet_loading.proofs.laws.law_one_by_one.Goals as goal

pub returns-clause-follow : goal.returns-clause-follow
returns-clause-follow c = others_follow

pub returns-clause-first : goal.returns-clause-first
returns-clause-first c = first_refuses
