use Rattle.builtin_functions.proofs.WalkLaws.{walk_finds}
use Rattle.builtin_functions.proofs.laws.law_walk_finds.Goals as goal

pub returns : goal.returns
returns c = walk_finds
