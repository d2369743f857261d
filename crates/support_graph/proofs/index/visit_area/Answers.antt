use Rattle.std.proofs.Common.{◌≡◌, ◌∙◌, true, Bor, ap, sym, subst}
use Rattle.std.specs.List.{filter}
use Rattle.std.specs.BTreeMap.Range.{range_contains}
use Rattle.std.specs.declared.ops.Bound.TheVariants.{Included, Excluded}
use Rattle.std.proofs.lemmas.Map.Iter.{iter_end}
use Rattle.cell_values.specs.declared.address.Addr.{Addr}
use Rattle.cell_values.specs.Addresses.{same_addr}
use Rattle.cell_values.proofs.Order.{same_addr-true, same_addr-refl}
use Rattle.support_graph.specs.declared.block.Reader.{Reader}
use Rattle.support_graph.specs.Blocks.{reader_before}
use Rattle.support_graph.proofs.Orders.{reader_cmp}
use Rattle.support_graph.proofs.Ranges.{in_area, is_of, visits_none, visits_more, visits_area}
use Rattle.support_graph.proofs.index.visit_area.Goals as goal

pub loop-reader-init : goal.loop-reader-init
loop-reader-init c = visits_none is_of c.args.search.now

pub loop-reader-preserved : goal.loop-reader-preserved
loop-reader-preserved c =
    let cell = c.in-Some.reader.now.cell in
    visits_more is_of (λ x. x ≡ cell) c.loop-reader.yielded c.in-Some.reader (λ (x : Addr) e. subst (λ (y : Addr). same_addr y cell ≡ true) (sym e) (same_addr-refl cell)) (λ (x : Addr) e. same_addr-true x cell e) c.args.search.now c.loop-reader.search c.visit.new.self c.loop-reader.invariant c.in_ok-visit.ensures

pub returns : goal.returns
returns c =
    let all = c.args.readers.now.keys in
    let start : c.into_iter-reader-iterator.result ≡ filter (in_area c.args.area) all =
    c.into_iter-reader-iterator.ensures.into_iter_gives ∙ c.range-reader-items.ensures.between tt ∙ (λ i. filter (range_contains reader_cmp (Included (c.first_reader.ensures i)) (Excluded ((c.first_reader-2.ensures ∙ ap reader_before c.next_area.ensures) i))) all) in
    let end = iter_end (λ (x : Bor Reader). x.now) (filter (in_area c.args.area) all) c.loop-reader.yielded c.into_iter-reader-iterator.result c.loop-reader.reader-iterator c.next.new.self c.next.result start c.loop-reader.yielded_by c.in-None.is c.next.ensures.steps in
    visits_area all c.args.area c.loop-reader.yielded c.args.search.now c.loop-reader.search end.0 c.loop-reader.invariant
