use Rattle.builtin_functions.proofs.WalkLaws.{sum_is_sum}
use Rattle.builtin_functions.proofs.laws.law_sum_is_sum.Goals as goal

pub returns : goal.returns
returns c = sum_is_sum
