use Rattle.std.proofs.Common.{◌≡◌, rules}
use Rattle.std.specs.BTreeMap.{IsFromIterResult}
use Rattle.std.proofs.lemmas.Iterator.{YieldsList-from_map}
use Rattle.std.proofs.lemmas.Iterator.Adapters.{fact_from_collect}
use Rattle.std.proofs.lemmas.Iterator.Consumers.{YieldsList-at, YieldsList-from_rest}
use Rattle.std.proofs.lemmas.Result.{IfOk-weaker}
use Rattle.cell_values.specs.declared.address.Addr.{Addr}
use Rattle.cell_values.proofs.Order.{cmp}
use Rattle.workbook_core.specs.declared.Content.{Content}
use Rattle.workbook_core.proofs.Packed.{packed_entries}
use Rattle.workbook_core.proofs.cells.packed_rows.Goals as goal

pub returns : goal.returns
returns c =
    let es = c.args.cells.now.entries in
    let road = YieldsList-from_map _ (λ (e : Addr × Content). e) (YieldsList-at c.map.ensures.source (YieldsList-from_rest es c.iter.ensures.rest)) c.map.ensures.closure (λ x r q k. search rules) in
    let made = fact_from_collect (IsFromIterResult cmp) c.collect.result c.collect.ensures.ran road in
    IfOk-weaker c.collect.result _ (λ m. m.entries ≡ es) (λ m h. packed_entries es m c.iter.ensures.ordered h) made
