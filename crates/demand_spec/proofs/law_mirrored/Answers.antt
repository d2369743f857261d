use Rattle.demand_spec.proofs.Mirror.{mirrored}
use Rattle.demand_spec.proofs.Untouched.{mirrored_outside}
use Rattle.demand_spec.proofs.law_mirrored.Goals as goal

pub returns-clause-all : goal.returns-clause-all
returns-clause-all t c = mirrored _ _

pub returns-clause-outside : goal.returns-clause-outside
returns-clause-outside t c = mirrored_outside _ _
