use Rattle.std.proofs.Common.{length}
use Rattle.formula_eval.proofs.tests.+find.Given as goal

abbrev pub decreases-find : goal.decreases-find
decreases-find l = length l.cells.now
