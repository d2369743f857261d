use Rattle.std.proofs.Common.{length}
use Rattle.formula_eval.proofs.tests.+told_of.Given as goal

abbrev pub decreases-told_of : goal.decreases-told_of
decreases-told_of l = length l.told.now
