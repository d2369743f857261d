use Rattle.builtin_functions.proofs.DivisionLaws.{modulo_is_remainder}
use Rattle.builtin_functions.proofs.laws.law_modulo_is_remainder.Goals as goal

pub returns : goal.returns
returns c = modulo_is_remainder
