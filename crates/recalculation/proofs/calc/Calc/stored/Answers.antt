use Rattle.std.proofs.Common.{◌≡◌, true, cond, Some, None, ◌∙◌, ap, sym, subst}
use Rattle.cell_values.proofs.Order.{lookup_is}
use Rattle.demand_spec.specs.Book.{shown}
use Rattle.recalculation.specs.Calculations.{Calculation, has_result, AreResultsOf}
use Rattle.recalculation.proofs.Seen.{results_are}
use Rattle.recalculation.proofs.calc.Calc.stored.Goals as goal

pub returns-then-has_result : goal.returns-then-has_result
returns-then-has_result c =
    let entries = c.self.inside.progress.stored.entries in
    let there : has_result c.args.self.now.shared.book c.args.self.now.pending c.args.at ≡ true = sym c.has_result.ensures ∙ c.if-has_result.true in
    let are : AreResultsOf c.args.self.now.shared.book c.args.self.now.pending entries = subst (λ (k : Calculation). AreResultsOf k.shared.book k.pending entries) c.self.view_is (results_are c.self.inside.book.book c.self.inside.progress c.self.invariant) in
    c.copied.ensures ∙ c.get.ensures.value ∙ lookup_is entries c.args.at ∙ are c.args.at there
    ∙ ap (λ q. cond q (Some (shown c.args.self.now.shared.book c.args.at)) None) (sym there)
