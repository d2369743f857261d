use Rattle.builtin_functions.proofs.DivisionLaws.{quotient_is_truncated}
use Rattle.builtin_functions.proofs.laws.law_quotient_is_truncated.Goals as goal

pub returns : goal.returns
returns c = quotient_is_truncated
