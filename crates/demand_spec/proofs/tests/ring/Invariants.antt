use Rattle.demand_spec.specs.Listed.{AreCellsOf}
use Rattle.demand_spec.proofs.tests.ring.Given as goal

abbrev pub invariant-loop-above : goal.invariant-loop-above
invariant-loop-above g l = AreCellsOf l.texts l.book
