use Rattle.builtin_functions.proofs.OrderLaws.{same_is_symmetric}
use Rattle.builtin_functions.proofs.laws.law_same_is_symmetric.Goals as goal

pub returns : goal.returns
returns c = same_is_symmetric
