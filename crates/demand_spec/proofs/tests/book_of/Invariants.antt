use Rattle.demand_spec.specs.Listed.{AreCellsOf}
use Rattle.demand_spec.proofs.tests.book_of.Given as goal

abbrev pub invariant-loop-to : goal.invariant-loop-to
invariant-loop-to g l = AreCellsOf l.texts l.book
