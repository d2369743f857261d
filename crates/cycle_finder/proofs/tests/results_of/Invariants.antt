use Rattle.cycle_finder.specs.Told.{AreRight}
use Rattle.cycle_finder.proofs.tests.results_of.Given as goal

abbrev pub invariant-loop-step : goal.invariant-loop-step
invariant-loop-step g l = AreRight l.book.book l.told.entries
