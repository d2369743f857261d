use Rattle.std.proofs.Common.{◌≡◌, ◌∙◌, Option, Some, None, is_some, Bor, refl, sym, ap}
use Rattle.std.specs.List.{filter}
use Rattle.std.specs.BTreeMap.Range.{range_contains}
use Rattle.std.specs.declared.ops.Bound.TheVariants.{Included, Excluded}
use Rattle.std.proofs.lemmas.Map.Iter.{rest_all, rest_more}
use Rattle.support_graph.specs.declared.block.Reader.{Reader}
use Rattle.support_graph.specs.Blocks.{has_area, reader_before}
use Rattle.support_graph.proofs.Orders.{reader_cmp}
use Rattle.support_graph.proofs.Ranges.{in_area, none_first, one_first}
use Rattle.support_graph.proofs.index.is_read.Goals as goal

pub returns : goal.returns
returns c = c.is_some.ensures ∙ go c.next.result refl
  where
    start : c.range-same.result ≡ filter (in_area c.args.area) c.args.readers.now.keys
    start = c.range-same.ensures.between tt ∙ (λ i. filter (range_contains reader_cmp (Included (c.first_reader.ensures i)) (Excluded ((c.first_reader-2.ensures ∙ ap reader_before c.next_area.ensures) i))) c.args.readers.now.keys)

    go : (o : Option (Bor Reader)) → c.next.result ≡ o → is_some o ≡ has_area c.args.readers.now.keys c.args.area
    go None e = none_first c.args.area c.args.readers.now.keys (sym start ∙ rest_all (λ (x : Bor Reader). x.now) c.range-same.result c.next.new.self c.next.result e c.next.ensures.steps)
    go (Some x) e = one_first c.args.area c.args.readers.now.keys x.now c.next.new.self (sym start ∙ rest_more (λ (y : Bor Reader). y.now) c.range-same.result c.next.new.self c.next.result x e c.next.ensures.steps)
