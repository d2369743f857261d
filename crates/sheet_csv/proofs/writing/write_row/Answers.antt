use Rattle.std.proofs.Common.{◌≡◌, ◌≢◌, ◌<◌, length, map, ap, sym, ◌∙◌, rules}
use Rattle.std.specs.String.{string_bytes}
use Rattle.std.proofs.lemmas.Iterator.{YieldsList-from_slice, YieldsList-from_map_by}
use Rattle.std.proofs.lemmas.Iterator.Consumers.{YieldsList-at, map_from_collect}
use Rattle.std.proofs.lemmas.Result.{IfOk-at_ok}
use Rattle.std.proofs.lemmas.List.{length-map}
use Rattle.csv.specs.Writing as csv
use Rattle.csv.specs.Writing.{default_writer}
use Rattle.csv.specs.declared.writer.QuoteStyle.TheVariants as style
use Rattle.csv.proofs.ReadFacts.{on-ok}
use Rattle.sheet_csv.proofs.RowFacts.{same_row, turned}
use Rattle.sheet_csv.proofs.writing.write_row.Goals as goal

pub returns : goal.returns
returns c =
    let road = YieldsList-from_map_by _ (λ r. r.now) string_bytes (YieldsList-at c.map.ensures.source (YieldsList-from_slice c.args.fields.now c.iter.ensures.rest)) c.map.ensures.closure (λ x r q k. search rules) in
    let gathered = map_from_collect c.collect.result c.collect.ensures.ran road in
    let from = c.from_writer-writer.ensures in
    let plain : c.from_writer-writer.result.cfg.style ≢ style.NonNumeric = rw (from.cfg, c.new.ensures) (λ e. cc e) in
    let bytes = on-ok c.write_fields.result (sym c.is_err.ensures.value ∙ c.if-is_err.false) c.write_fields.ensures.bytes from.fields from.wrote plain in
    let text = rw (from.cfg, c.new.ensures, from.wtr, c.new-2.ensures.items, from.empty) at bytes in
    let fields : map (λ f. f.now) c.deref.result.now ≡ map string_bytes c.args.fields.now = ap (map (λ f. f.now)) c.deref.ensures.value ∙ IfOk-at_ok _ c.in_ok-fields.was gathered in
    let some : 0 < length (map string_bytes c.args.fields.now) = simp length-map c.requires in
    turned c.into_inner.result c.map_err.result _ _ _ c.map_err.ensures.cases c.map_err.ensures.variant c.into_inner.ensures.ok (λ row same. same ∙ text ∙ ap (csv.row_text default_writer) fields ∙ same_row (map string_bytes c.args.fields.now) some)
