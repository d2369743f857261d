use Rattle.std.proofs.Common.{length}
use Rattle.recalculation.proofs.Walked.{behind}
use Rattle.puncalc_program.proofs.FormulaCells.{AreFoundTo}
use Rattle.puncalc_program.proofs.formulas.formula_cells.Given as goal

abbrev pub invariant-loop-at : goal.invariant-loop-at
invariant-loop-at l = AreFoundTo l.book.book l.after l.cells.items

abbrev pub decreases-loop-at : goal.decreases-loop-at
decreases-loop-at l = length (behind l.after l.book.book.cells)
