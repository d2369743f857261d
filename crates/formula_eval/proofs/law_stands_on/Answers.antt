use Rattle.formula_eval.proofs.Turns.{stands_grows}
use Rattle.formula_eval.proofs.law_stands_on.Goals as goal

pub returns : goal.returns
returns c = stands_grows
