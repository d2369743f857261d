use Rattle.std.proofs.Common.{◌≡◌, length}
use Rattle.recalculation.proofs.round_tests.three_edits.Given as goal

abbrev pub invariant-loop : goal.invariant-loop
invariant-loop g l = length l.calc.shared.names ≡ 1
