use Rattle.std.proofs.Common.{subst}
use Rattle.recalculation.specs.Calculations.{Calculation, AreResultsOf}
use Rattle.recalculation.proofs.Seen.{results_are}
use Rattle.recalculation.proofs.calc.Calc.results.Goals as goal

pub returns : goal.returns
returns c = subst (λ (k : Calculation). AreResultsOf k.shared.book k.pending c.self.inside.progress.stored.entries) c.self.view_is (results_are c.self.inside.book.book c.self.inside.progress c.self.invariant)
