use Rattle.std.proofs.Common.{◌≡◌, ◌∙◌, refl, sym}
use Rattle.support_graph.specs.declared.search.Search.{Search}
use Rattle.support_graph.proofs.Visits.{visit_new, visit_again}
use Rattle.support_graph.proofs.search.Search.visit.Goals as goal

pub returns-in_ok-push : goal.returns-in_ok-push
returns-in_ok-push c =
    let seen : Search = record { pending = c.args.self.now.pending; seen = c.insert.new.self; todo = c.push.new.self } in
    visit_new c.args.cell c.args.self.now seen refl (sym c.if-branch.true ∙ c.in_ok-insert.ensures.added) c.in_ok-insert.ensures.updates.0 c.in_ok-push.ensures.items

pub returns-else-branch : goal.returns-else-branch
returns-else-branch c =
    let seen : Search = record c.args.self.now { seen = c.insert.new.self } in
    let same : c.insert.new.self.keys ≡ c.args.self.now.seen.keys = rw c.if-branch.false at c.in_ok-insert.ensures.unchanged in
    visit_again c.args.cell c.args.self.now seen refl (sym c.if-branch.false ∙ c.in_ok-insert.ensures.added) same refl
