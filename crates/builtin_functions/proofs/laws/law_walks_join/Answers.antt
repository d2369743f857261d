use Rattle.builtin_functions.proofs.WalkLaws.{walks_join}
use Rattle.builtin_functions.proofs.laws.law_walks_join.Goals as goal

pub returns : goal.returns
returns c = walks_join
