use Rattle.std.proofs.Common.{◌≡◌, length}
use Rattle.recalculation.proofs.round_tests.edits_and_recalculations.Given as goal

abbrev pub invariant-loop : goal.invariant-loop
invariant-loop g l = length l.calc.shared.names ≡ 1
