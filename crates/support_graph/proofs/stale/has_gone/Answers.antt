use Rattle.std.proofs.Common.{◌≡◌, ◌-◌, ◌≤◌, ◌<◌, ◌∙◌, List, true, length, take, drop, get_or, refl, sym, subst}
use Rattle.cell_values.specs.declared.address.Addr.{Addr}
use Rattle.cell_values.specs.Addresses.{IsBefore}
use Rattle.cell_values.specs.Areas.{is_inside}
use Rattle.support_graph.specs.Support.{IsCell}
use Rattle.support_graph.proofs.Truths.{true_false}
use Rattle.support_graph.proofs.Lists.{no_addr}
use Rattle.support_graph.proofs.Gone.{AreThere, rest_of, all_there, rest_there, one_more_there}
use Rattle.support_graph.proofs.stale.has_gone.Goals as goal
use Rattle.support_graph.proofs.stale.has_gone.Goals.{else-holds-via-then-holds+else-not-has, else-holds-via-else-holds}

pub returns-then-is_behind : goal.returns-then-is_behind
returns-then-is_behind c h =
    let pending = c.args.pending.now in
    let first = c.first_from-first.result in
    let k = c.loop-cell.cell-index in
    let same = rest_of first (length pending - first) pending refl c.first_from-first.ensures.bound in
    rest_there c.args.support.now c.args.changed c.first_of.result c.last_of-last.result pending first k c.requires c.first_of.ensures c.last_of-last.ensures c.first_from-first.ensures.before
    (subst (λ (xs : List Addr). k < length xs) same c.loop-cell-test.true) (subst (λ (xs : List Addr). IsBefore c.last_of-last.result (get_or xs k no_addr)) same (c.is_behind.ensures c.if-is_behind.true))
    (subst (λ (xs : List Addr). AreThere c.args.support.now c.args.changed (take k xs)) same c.loop-cell.invariant)

pub loop-cell-preserved : goal.loop-cell-preserved
loop-cell-preserved c =
    let s = c.args.support.now in
    let r = c.args.changed in
    let rest = take (length c.args.pending.now - c.first_from-first.result) (drop c.first_from-first.result c.args.pending.now) in
    let k = c.loop-cell.cell-index in
    let here : is_inside r (get_or rest k no_addr) ≡ true → IsCell s (get_or rest k no_addr) =
    elim c.else-holds.branch [ else-holds-via-then-holds+else-not-has w ↦ (λ i. sym w.has.ensures.there ∙ w.if-not-has.false) | else-holds-via-else-holds w ↦ (λ i. true_false c.holds.result (c.holds.ensures ∙ i) w.if-holds.false) ] in
    one_more_there s r rest k c.loop-cell-test.true here c.loop-cell.invariant

pub returns : goal.returns
returns c h =
    let pending = c.args.pending.now in
    let first = c.first_from-first.result in
    let same = rest_of first (length pending - first) pending refl c.first_from-first.ensures.bound in
    all_there c.args.support.now c.args.changed c.first_of.result pending first c.loop-cell.cell-index c.first_of.ensures c.first_from-first.ensures.before (subst (λ (xs : List Addr). length xs ≤ c.loop-cell.cell-index) same c.loop-cell-test.false) (subst (λ (xs : List Addr). AreThere c.args.support.now c.args.changed (take c.loop-cell.cell-index xs)) same c.loop-cell.invariant)
