use Rattle.builtin_functions.proofs.WalkLaws.{sums_add}
use Rattle.builtin_functions.proofs.laws.law_sums_add.Goals as goal

pub returns : goal.returns
returns c = sums_add
