use Rattle.std.proofs.Common.{◌≡◌, ◌++◌, drop}
use Rattle.std.specs.List.{filter}
use Rattle.parallel_evaluation.specs.TestBooks.{holds_formula}
use Rattle.parallel_evaluation.proofs.tests.formula_cells.Given as goal

-- what was found, followed by what the cells from here on give, is the whole list
abbrev pub invariant-loop-i : goal.invariant-loop-i
invariant-loop-i l = l.cells.items ++ filter (holds_formula l.book.book) (drop l.i l.all.items) ≡ filter (holds_formula l.book.book) l.all.items
