use Rattle.formula_tokens.proofs.Held.{longer_hold, longer_agree}
use Rattle.formula_tokens.proofs.laws.law_longer_texts.Goals as goal

pub returns-clause-hold : goal.returns-clause-hold
returns-clause-hold c = longer_hold

pub returns-clause-agree : goal.returns-clause-agree
returns-clause-agree c = longer_agree
