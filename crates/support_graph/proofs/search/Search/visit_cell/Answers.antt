use Rattle.std.proofs.Common.{◌≡◌, ◌∙◌, sym, subst}
use Rattle.support_graph.specs.Support.{IsCell}
use Rattle.support_graph.proofs.Readers.{on_ok}
use Rattle.support_graph.proofs.Truths.{true_false}
use Rattle.support_graph.proofs.Visits.{visits_as, visits_seen}
use Rattle.support_graph.proofs.search.Search.visit_cell.Goals as goal

pub returns-then-has : goal.returns-then-has
returns-then-has c =
    let s = c.args.support.now in
    let there : IsCell s c.args.cell = sym c.has.ensures.there ∙ c.if-has.true in
    on_ok c.visit.result (visits_as (λ x. x ≡ c.args.cell) (λ x. (x ≡ c.args.cell) × IsCell s x) c.args.self.now c.visit.new.self (λ x e. (e, subst (IsCell s) (sym e) there)) (λ x m. m.0)) c.visit.ensures

pub returns-else-has : goal.returns-else-has
returns-else-has c =
    let s = c.args.support.now in
    visits_seen (λ x. (x ≡ c.args.cell) × IsCell s x) c.args.self.now (λ x m. true_false c.has.result (c.has.ensures.there ∙ subst (IsCell s) m.0 m.1) c.if-has.false)
