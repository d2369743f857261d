use Rattle.std.proofs.Common.{◌≡◌, length}
use Rattle.what_if.proofs.tests.with_cells.Given as goal

abbrev pub invariant-loop-line : goal.invariant-loop-line
invariant-loop-line l = length l.calc.shared.names ≡ 1
