use Rattle.formula_eval.proofs.Turns.{answered_is}
use Rattle.formula_eval.proofs.law_answers_plan.Goals as goal

pub returns : goal.returns
returns c = answered_is
