use Rattle.formula_eval.proofs.Turns.{stands_ready}
use Rattle.formula_eval.proofs.law_stands_ready.Goals as goal

pub returns : goal.returns
returns c = stands_ready
