use Rattle.std.proofs.Common.{◌≡◌, ◌∙◌, true, sym, ap}
use Rattle.cell_values.specs.declared.address.Addr.{Addr}
use Rattle.cell_values.specs.Areas.{is_inside}
use Rattle.support_graph.proofs.Visits.{visits_as}
use Rattle.support_graph.proofs.Readers.{on_ok}
use Rattle.support_graph.proofs.support.visit_inside.Goals as goal

pub returns-then-holds : goal.returns-then-holds
returns-then-holds c =
    on_ok c.visit.result
    (visits_as (λ x. x ≡ c.args.cell) (λ x. (x ≡ c.args.cell) × (is_inside c.args.changed x ≡ true)) c.args.search.now c.visit.new.self
    (λ (x : Addr) e. (e, ap (is_inside c.args.changed) e ∙ sym c.holds.ensures ∙ c.if-holds.true)) (λ (x : Addr) e. e.0)) c.visit.ensures
