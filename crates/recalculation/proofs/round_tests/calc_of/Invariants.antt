use Rattle.std.proofs.Common.{◌≡◌, length}
use Rattle.recalculation.proofs.round_tests.calc_of.Given as goal

abbrev pub invariant-loop-line : goal.invariant-loop-line
invariant-loop-line g l = length l.calc.shared.names ≡ 1
