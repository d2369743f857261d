use Rattle.std.proofs.Common.{◌≡◌}
use Rattle.formula_eval.proofs.tests.untold_sheet.Given as goal

abbrev pub invariant-loop-place : goal.invariant-loop-place
invariant-loop-place g l = l.sheet.texts ≡ l.texts
