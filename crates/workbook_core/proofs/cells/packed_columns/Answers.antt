use Rattle.std.proofs.Common.{◌≡◌, ◌∙◌, sym}
use Rattle.std.specs.BTreeSet.{IsFromIterResult}
use Rattle.std.specs.List.{list_any}
use Rattle.std.proofs.lemmas.Iterator.Adapters.{fact_from_collect}
use Rattle.std.proofs.lemmas.Iterator.Consumers.{YieldsList-from_rest, YieldsList-from_copied, YieldsList-at}
use Rattle.std.proofs.lemmas.Result.{IfOk-weaker}
use Rattle.workbook_core.specs.contracts.cells.ColumnFirstOrd.TheImpl as column_ord
use Rattle.workbook_core.specs.declared.cells.ColumnFirst.{ColumnFirst}
use Rattle.workbook_core.specs.Held.{same_turned}
use Rattle.workbook_core.proofs.Lookups.{column_is}
use Rattle.workbook_core.proofs.cells.packed_columns.Goals as goal

pub returns : goal.returns
returns c =
    let keys = c.args.addresses.now.keys in
    let road = YieldsList-from_copied (YieldsList-at c.copied.ensures.source (YieldsList-from_rest keys c.iter.ensures.rest)) in
    let made = fact_from_collect (IsFromIterResult (column_ord.ghosts).cmp) c.collect.result c.collect.ensures.ran road in
    IfOk-weaker c.collect.result _ (λ s. (k : ColumnFirst) → list_any (same_turned k) s.keys ≡ list_any (same_turned k) keys)
    (λ s h k. sym (column_is s.keys k) ∙ h.0 k ∙ column_is keys k) made
