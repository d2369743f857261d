use Rattle.formula_eval.proofs.Turns.{drops_to_base}
use Rattle.formula_eval.proofs.law_drops_to_base.Goals as goal

pub returns : goal.returns
returns c = drops_to_base
