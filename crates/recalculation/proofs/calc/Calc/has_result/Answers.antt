use Rattle.std.proofs.Common.{◌∙◌, ap, sym, not, ◌&&◌, ◌||◌}
use Rattle.support_graph.specs.Pending.{among}
use Rattle.recalculation.specs.Calculations.{Calculation, has_result}
use Rattle.recalculation.proofs.Seen.{settled_is}
use Rattle.recalculation.proofs.calc.Calc.has_result.Goals as goal

pub returns-then-has_formula : goal.returns-then-has_formula
returns-then-has_formula c =
    ap not c.is_pending.ensures
    ∙ ap (λ q. q && not (not c.self.inside.progress.built || among c.self.inside.progress.stale c.args.at)) (sym c.if-has_formula.true ∙ c.has_formula.ensures)
    ∙ settled_is c.self.inside.book.book c.self.inside.progress c.args.at
    ∙ ap (λ (k : Calculation). has_result k.shared.book k.pending c.args.at) c.self.view_is
