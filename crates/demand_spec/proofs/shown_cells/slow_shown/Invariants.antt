use Rattle.std.proofs.Common.{◌≡◌, ◌++◌, drop}
use Rattle.demand_spec.specs.Book.{formulas_in}
use Rattle.demand_spec.specs.Listed.{contents, shown_over}
use Rattle.demand_spec.specs.Stage.{book_with}
use Rattle.demand_spec.proofs.shown_cells.slow_shown.Given as goal

abbrev pub invariant-loop-address : goal.invariant-loop-address
invariant-loop-address l = l.out.items ++ shown_over (book_with l.book l.texts) (formulas_in (contents (drop l.address-index l.cells))) ≡ shown_over (book_with l.book l.texts) (formulas_in (contents l.cells))
