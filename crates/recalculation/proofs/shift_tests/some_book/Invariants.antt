use Rattle.std.proofs.Common.{◌≡◌, length}
use Rattle.recalculation.proofs.shift_tests.some_book.Given as goal

abbrev pub invariant-loop : goal.invariant-loop
invariant-loop g l = length l.calc.shared.names ≡ 1
