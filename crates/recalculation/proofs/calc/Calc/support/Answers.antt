use Rattle.std.proofs.Common.{◌∙◌, ap, subst}
use Rattle.support_graph.specs.Support.{IsSupportOf}
use Rattle.recalculation.specs.Calculations.{Calculation}
use Rattle.recalculation.proofs.Seen.{support_stands}
use Rattle.recalculation.proofs.calc.Calc.support.Goals as goal

pub returns : goal.returns
returns c = subst (λ (k : Calculation). IsSupportOf k.shared.book c.self.inside.progress.support) c.self.view_is
    (support_stands c.self.inside.book.book c.self.inside.progress c.self.invariant (ap (λ (k : Calculation). k.pending) c.self.view_is ∙ c.requires))
