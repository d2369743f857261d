use Rattle.std.proofs.Common.{◌≡◌, ◌∙◌, true, length, Bor}
use Rattle.std.specs.List.{filter}
use Rattle.std.specs.BTreeMap.Range.{range_contains}
use Rattle.std.specs.declared.ops.Bound.TheVariants.{Included, Excluded}
use Rattle.std.proofs.lemmas.Map.Iter.{iter_turn, iter_end}
use Rattle.cell_values.specs.declared.address.Addr.{Addr}
use Rattle.support_graph.specs.declared.block.Key.{Key}
use Rattle.support_graph.proofs.Orders.{key_cmp}
use Rattle.support_graph.proofs.Ranges.{in_range, reads_key, visits_none, visits_more, visits_blocks, in_filter}
use Rattle.support_graph.proofs.index.visit_blocks.Goals as goal

pub loop-key-init : goal.loop-key-init
loop-key-init c = visits_none (reads_key c.args.index.now.readers.keys) c.args.search.now

pub visit_area-requires : goal.visit_area-requires
visit_area-requires c =
    let all = filter (in_range c.args.first c.args.last) c.args.index.now.blocks.keys in
    let start : c.into_iter-key-iterator.result ≡ all =
    c.into_iter-key-iterator.ensures.into_iter_gives ∙ c.range-key-items.ensures.between tt ∙ (λ i. filter (range_contains key_cmp (Included (c.first_key.ensures i)) (Excluded (c.first_key-2.ensures i))) c.args.index.now.blocks.keys) in
    let turn = iter_turn (λ (k : Bor Key). k.now) all c.loop-key.yielded c.into_iter-key-iterator.result c.loop-key.key-iterator c.next.new.self c.next.result start c.loop-key.yielded_by c.in-Some.key c.in-Some.is c.next.ensures.steps in
    c.requires.ends c.in-Some.key.now (in_filter (in_range c.args.first c.args.last) c.args.index.now.blocks.keys (length c.loop-key.yielded) c.in-Some.key.now turn.0 turn.1)

pub loop-key-preserved : goal.loop-key-preserved
loop-key-preserved c =
    let readers = c.args.index.now.readers.keys in
    visits_more (reads_key readers) (λ x. reads_key readers x c.in-Some.key.now ≡ true) c.loop-key.yielded c.in-Some.key (λ (x : Addr) e. e) (λ (x : Addr) e. e) c.args.search.now c.loop-key.search c.visit_area.new.search c.loop-key.invariant c.in_ok-visit_area.ensures

pub returns : goal.returns
returns c =
    let keys = c.args.index.now.blocks.keys in
    let all = filter (in_range c.args.first c.args.last) keys in
    let start : c.into_iter-key-iterator.result ≡ all =
    c.into_iter-key-iterator.ensures.into_iter_gives ∙ c.range-key-items.ensures.between tt ∙ (λ i. filter (range_contains key_cmp (Included (c.first_key.ensures i)) (Excluded (c.first_key-2.ensures i))) keys) in
    let end = iter_end (λ (k : Bor Key). k.now) all c.loop-key.yielded c.into_iter-key-iterator.result c.loop-key.key-iterator c.next.new.self c.next.result start c.loop-key.yielded_by c.in-None.is c.next.ensures.steps in
    visits_blocks keys c.args.index.now.readers.keys c.args.first c.args.last c.loop-key.yielded c.args.search.now c.loop-key.search end.0 c.loop-key.invariant
