use Rattle.std.proofs.Common.{◌≡◌, length}
use Rattle.recalculation.proofs.tests.edits_let_cells_pend.Given as goal

abbrev pub invariant-loop-row : goal.invariant-loop-row
invariant-loop-row g l = length l.calc.shared.names ≡ 1
