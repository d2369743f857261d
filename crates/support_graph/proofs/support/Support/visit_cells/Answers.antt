use Rattle.std.proofs.Common.{◌≡◌, ◌∙◌, true, subst, ap, arith}
use Rattle.std.specs.Global.{Vec}
use Rattle.std.specs.List.{filter}
use Rattle.std.specs.BTreeMap.Range.{range_contains}
use Rattle.std.specs.declared.ops.Bound.TheVariants.{Included}
use Rattle.std.proofs.lemmas.Map.Iter.{iter_end}
use Rattle.cell_values.specs.declared.address.Addr.{Addr}
use Rattle.cell_values.specs.declared.address.Area.{Area}
use Rattle.cell_values.specs.Areas.{is_inside as inside}
use Rattle.cell_values.proofs.Order.{cmp}
use Rattle.support_graph.specs.Support.{CellAreas, IsCell}
use Rattle.support_graph.specs.Steps.{Visits}
use Rattle.support_graph.proofs.Spans.{Item, between, inside_between, visits_address, visits_range}
use Rattle.support_graph.proofs.support.Support.visit_cells.Goals as goal

pub loop-cell-preserved : goal.loop-cell-preserved
loop-cell-preserved c = visits_address c.args.changed c.loop-cell.yielded (c.in-Some.cell, c.in-Some.field-0-1) c.args.search.now c.loop-cell.search c.visit_inside.new.search c.loop-cell.invariant c.in_ok-visit_inside.ensures

pub returns : goal.returns
returns c =
    let r = c.args.changed in
    let a = c.first_of.result in
    let b = c.last_of.result in
    let es = c.self.inside.cells.entries in
    let start : c.into_iter-cell-iterator.result ≡ filter (λ (e : Addr × Vec Area). between a b e.0) es =
    c.into_iter-cell-iterator.ensures.into_iter_gives ∙ c.range-cell-items.ensures.between c.new.ensures.exhausted ∙ (λ i. filter (λ (e : Addr × Vec Area). range_contains cmp (Included (c.new.ensures.start i)) (Included (c.new.ensures.end i)) e.0) es) in
    let all = iter_end (λ (y : Item). (y.0.now, y.1.now)) (filter (λ (e : Addr × Vec Area). between a b e.0) es) c.loop-cell.yielded c.into_iter-cell-iterator.result c.loop-cell.cell-iterator c.next.new.self c.next.result start c.loop-cell.yielded_by c.in-None.is c.next.ensures.steps in
    let first = c.first_of.ensures in
    let last = c.last_of.ensures in
    let top : a.row ≡ r.top = ap (λ (x : Addr). x.row) first ∙ omega arith in
    let left : a.col ≡ r.left = ap (λ (x : Addr). x.col) first ∙ omega arith in
    subst (λ (s : CellAreas). Visits (λ x. IsCell s x × (inside r x ≡ true)) c.args.search.now c.loop-cell.search) c.self.view_is
    (visits_range r a b es c.loop-cell.yielded c.args.search.now c.loop-cell.search (λ x. inside_between r a b x (ap (λ (x : Addr). x.sheet) first) top left last.0 last.1 last.2) all.0 c.loop-cell.invariant)
