use Rattle.formula_eval.proofs.Turns.{looks_once_more}
use Rattle.formula_eval.proofs.law_looks_once_more.Goals as goal

pub returns : goal.returns
returns c = looks_once_more
