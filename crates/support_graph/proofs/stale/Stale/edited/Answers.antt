use Rattle.std.proofs.Common.{◌≡◌, ◌∙◌, List, [], true, arith, ap, sym, subst}
use Rattle.std.specs.Global.{Vec}
use Rattle.std.specs.List.{filter}
use Rattle.std.proofs.lemmas.Grind.{common_steps}
use Rattle.cell_values.specs.declared.address.Addr.{Addr}
use Rattle.cell_values.specs.Areas.{is_inside}
use Rattle.cell_values.specs.Order.{InOrder}
use Rattle.demand_spec.specs.Laws.{In}
use Rattle.demand_spec.proofs.Spread.{filter_order}
use Rattle.support_graph.specs.Support.{IsCell}
use Rattle.support_graph.specs.Steps.{IsFrontier, stays}
use Rattle.support_graph.proofs.Books.{pending_in_book, closed_in_book}
use Rattle.support_graph.proofs.Lists.{staying}
use Rattle.support_graph.proofs.Reach.{all_stay, merged_as, none_found, pending_are}
use Rattle.support_graph.proofs.stale.Stale.edited.Goals as goal

pub merged-requires-clause-old : goal.merged-requires-clause-old
merged-requires-clause-old c =
    let pass = stays c.args.support.now c.args.changed in
    let same : c.deref-then-has_gone-2.result.now ≡ filter pass c.self.inside.cells.items = c.deref-then-has_gone-2.ensures.value ∙ c.in_ok-staying.ensures ∙ (λ i. filter pass (c.deref-then-has_gone.ensures.value i)) in
    subst InOrder (sym same) (filter_order pass c.self.inside.cells.items c.self.invariant.in_order)

-- the cells after gone ones were taken out

pub returns-then-has_gone-clause-cells : goal.returns-then-has_gone-clause-cells
returns-then-has_gone-clause-cells c =
    let s = c.args.support.now in
    let old = c.args.self.now in
    let area = c.args.changed in
    let found = c.in_ok-found.found.items in
    let new = c.in_ok-self-inside.field-0.items in
    let front : IsFrontier s old (is_inside area) found = subst (λ (xs : List Addr). IsFrontier s xs (is_inside area) found) (c.deref.ensures.value ∙ c.self.view_is) c.in_ok-found.ensures.frontier in
    let kept : c.deref-then-has_gone-2.result.now ≡ filter (stays s area) old = c.deref-then-has_gone-2.ensures.value ∙ c.in_ok-staying.ensures ∙ (λ i. filter (stays s area) (c.deref-then-has_gone.ensures.value i)) ∙ (λ i. filter (stays s area) (c.self.view_is i)) in
    pending_are s old (is_inside area) found (filter (stays s area) old) new c.requires.closed front (staying s area old)
    (merged_as (filter (stays s area) old) found c.deref-then-has_gone-2.result.now c.deref-then-has_gone-3.result.now c.in_ok-merged.field-0.items new kept c.deref-then-has_gone-3.ensures.value (sym (ap (λ (v : Vec Addr). v.items) c.in_ok-self-inside.ensures.0)) c.in_ok-merged.ensures.cells)

pub returns-then-has_gone-clause-pending : goal.returns-then-has_gone-clause-pending
returns-then-has_gone-clause-pending c b h = pending_in_book b c.args.support.now h c.args.self.now c.in_ok-self-inside.field-0.items c.args.changed (returns-then-has_gone-clause-cells c)

pub returns-then-has_gone-clause-closed : goal.returns-then-has_gone-clause-closed
returns-then-has_gone-clause-closed c = closed_in_book c.args.support.now c.args.self.now c.in_ok-self-inside.field-0.items c.args.changed (returns-then-has_gone-clause-cells c)

-- those where no cell comes or goes

pub returns-then-is_empty-clause-cells : goal.returns-then-is_empty-clause-cells
returns-then-is_empty-clause-cells c =
    let s = c.args.support.now in
    let old = c.args.self.now in
    let area = c.args.changed in
    let found = c.in_ok-found.found.items in
    let front : IsFrontier s old (is_inside area) found = subst (λ (xs : List Addr). IsFrontier s xs (is_inside area) found) (c.deref.ensures.value ∙ c.self.view_is) c.in_ok-found.ensures.frontier in
    let none : found ≡ [] = grind (arith, common_steps) in
    let there : (q : Addr) → In q old → is_inside area q ≡ true → IsCell s q = λ q m i. c.has_gone.ensures c.if-has_gone.false q (subst (In q) (sym (c.deref-2.ensures.value ∙ c.self.view_is)) m) i in
    pending_are s old (is_inside area) found old old c.requires.closed front (all_stay s area old there) (none_found old found none)

pub returns-then-is_empty-clause-pending : goal.returns-then-is_empty-clause-pending
returns-then-is_empty-clause-pending c b h = pending_in_book b c.args.support.now h c.args.self.now c.args.self.now c.args.changed (returns-then-is_empty-clause-cells c)

pub returns-then-is_empty-clause-closed : goal.returns-then-is_empty-clause-closed
returns-then-is_empty-clause-closed c = closed_in_book c.args.support.now c.args.self.now c.args.self.now c.args.changed (returns-then-is_empty-clause-cells c)

-- those where cells only come

pub returns-clause-cells : goal.returns-clause-cells
returns-clause-cells c =
    let s = c.args.support.now in
    let old = c.args.self.now in
    let area = c.args.changed in
    let found = c.in_ok-found.found.items in
    let new = c.in_ok-self-inside-2.field-0.items in
    let front : IsFrontier s old (is_inside area) found = subst (λ (xs : List Addr). IsFrontier s xs (is_inside area) found) (c.deref.ensures.value ∙ c.self.view_is) c.in_ok-found.ensures.frontier in
    let there : (q : Addr) → In q old → is_inside area q ≡ true → IsCell s q = λ q m i. c.has_gone.ensures c.if-has_gone.false q (subst (In q) (sym (c.deref-2.ensures.value ∙ c.self.view_is)) m) i in
    pending_are s old (is_inside area) found old new c.requires.closed front (all_stay s area old there)
    (merged_as old found c.deref-3.result.now c.deref-4.result.now c.in_ok-merged-2.field-0.items new (c.deref-3.ensures.value ∙ c.self.view_is) c.deref-4.ensures.value (sym (ap (λ (v : Vec Addr). v.items) c.in_ok-self-inside-2.ensures.0)) c.in_ok-merged-2.ensures.cells)

pub returns-clause-pending : goal.returns-clause-pending
returns-clause-pending c b h = pending_in_book b c.args.support.now h c.args.self.now c.in_ok-self-inside-2.field-0.items c.args.changed (returns-clause-cells c)

pub returns-clause-closed : goal.returns-clause-closed
returns-clause-closed c = closed_in_book c.args.support.now c.args.self.now c.in_ok-self-inside-2.field-0.items c.args.changed (returns-clause-cells c)
