use Rattle.std.proofs.Common.{List, ◌≡◌, ◌∙◌, ◌++◌, OnOk, subst}
use Rattle.cell_values.specs.declared.address.Addr.{Addr}
use Rattle.support_graph.specs.Support.{dependents_of}
use Rattle.support_graph.proofs.Readers.{when_ok}
use Rattle.support_graph.proofs.Dependents.{seen_dependents, dependents_in_order}
use Rattle.support_graph.proofs.support.Support.dependents.Goals as goal

pub returns-clause-ok : goal.returns-clause-ok
returns-clause-ok c =
    let seen = seen_dependents c.args.addr c.args.self.now c.new-search.result c.visit_dependents.new.search c.in_ok-visit_dependents.ensures.in_order c.new-search.ensures.none.0 c.new-search.ensures.pending c.in_ok-found.ensures.in_order c.in_ok-visit_dependents.ensures.visits in
    let same : c.deref.result.now ≡ dependents_of c.args.self.now c.args.addr = c.deref.ensures.value ∙ c.in_ok-found.ensures.cells ∙ seen in
    subst (λ (d : List Addr). OnOk c.extend_from_slice.result (c.extend_from_slice.new.self.items ≡ c.args.out.now.items ++ d)) same
    (when_ok c.extend_from_slice.result c.extend_from_slice.new.self.items (c.args.out.now.items ++ c.deref.result.now) c.args.out.now.items c.extend_from_slice.ensures.items)

pub returns-in_err-visit_dependents-clause-in_order : goal.returns-in_err-visit_dependents-clause-in_order
returns-in_err-visit_dependents-clause-in_order c = dependents_in_order c.args.addr c.args.self.now c.in_err-visit_dependents.ensures.in_order

pub returns-in_err-found-clause-in_order : goal.returns-in_err-found-clause-in_order
returns-in_err-found-clause-in_order c = dependents_in_order c.args.addr c.args.self.now c.in_ok-visit_dependents.ensures.in_order

pub returns-clause-in_order : goal.returns-clause-in_order
returns-clause-in_order c = dependents_in_order c.args.addr c.args.self.now c.in_ok-visit_dependents.ensures.in_order
