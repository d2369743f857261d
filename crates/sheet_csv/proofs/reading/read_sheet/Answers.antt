use Rattle.std.proofs.Common.{◌≡◌, ℕ, ◌+◌, ◌-◌, true, false, Bor, List, [], length, inl, inr, Some, fold, All, ap, sym, refl, ◌∙◌, subst, arith}
use Rattle.std.specs.Prelude.{vec_len}
use Rattle.std.proofs.lemmas.List.Elements.{All-nil}
use Rattle.cell_values.specs.Fields.{IsRawOf}
use Rattle.cell_values.specs.Order.{addresses, InOrder}
use Rattle.std.proofs.lemmas.Result.{err_from_is_err_and}
use Rattle.csv.specs.Reading.{default_config, records_from, strip_bom, with_flexible, with_names_headers}
use Rattle.csv.specs.Records.{fields_of}
use Rattle.csv.specs.declared.reader.ReaderBuilder.{ReaderBuilder}
use Rattle.csv.proofs.ReadFacts.{rows-end}
use Rattle.sheet_csv.specs.Sheet.{Sheet, fields_from, first_fault, sheet_fields, with_field}
use Rattle.sheet_csv.proofs.PlacedCells.{Cell, OnSheet, sheet_placed}
use Rattle.sheet_csv.proofs.Records.{record_read, enough_more, next_rows, no_record}
use Rattle.sheet_csv.proofs.SheetFacts.{fields_none, no_fields, kept_none, kept_more, sheet_cells, sheet_passed, sheet_refused}
use Rattle.sheet_csv.proofs.reading.read_sheet.Goals as goal

pub loop-above-init : goal.loop-above-init
loop-above-init c =
    let fr = c.from_reader-reader.ensures in
    let e : c.flexible.result.now ≡ with_flexible (with_names_headers c.new.result false) true = c.flexible.ensures ∙ ap (λ (b : ReaderBuilder). with_flexible b true) c.has_headers.ensures in
    let start = c.into_iter-above-iterator.ensures.into_iter_gives ∙ refl in
    let items = c.enumerate-above-items.ensures in
    let all = sheet_fields c.args.bytes.now in
    let room : c.args.room ≡ c.args.room - 0 = omega arith in
    rw (start, items.source, c.into_byte_records.ensures.rdr, items.count, c.new-cells.ensures.items, c.new-cells.ensures.len, fr.state) (record {
      whole = fr.trim ∙ ap (λ (b : ReaderBuilder). b.trim) e ∙ c.new.ensures.trim;
      ready = inr (inr (fr.has_headers ∙ ap (λ (b : ReaderBuilder). b.has_headers) e, fr.headers));
      turns = c.into_byte_records.ensures.left;
      config = fr.config ∙ ap (λ (b : ReaderBuilder). b.config) e ∙ c.new.ensures.config;
      going = (strip_bom c.args.bytes.now, length (strip_bom c.args.bytes.now) + 1, fr.source, inl (omega arith), refl, ap (λ r. first_fault r all) room);
      kept = kept_none c.args.texts.now;
      within = omega arith;
      there = All-nil (λ (cell : Cell). IsRawOf c.args.texts.now cell.1);
    })

pub returns-in_err-read_row-clause-fault : goal.returns-in_err-read_row-clause-fault
returns-in_err-read_row-clause-fault c =
    let p = err_from_is_err_and c.from_residual.result c.from_residual.ensures.1 in
    let inv = c.loop-above.invariant in
    let step = rw c.in-Some.is at c.next.ensures.steps in
    let (read, first, turns) = rw c.in-Ok.is at ((step.0 inv.turns inv.whole).0 inv.ready) in
    let (y, n, source, enough, cells, passed) = inv.going in
    let a = c.loop-above.above-iterator.iter.rdr in
    let b = c.next.new.self.iter.rdr in
    let f = fields_of c.in-Ok.record in
    let (z, at_z, next) = record_read (λ (s : Bor (List ℕ)). Some s.now) a b f y inv.config source read in
    let (m, n_is, more) = enough_more n a.state y (f, b.state, z) enough next in
    let rows = next_rows n m a.state b.state y z f n_is next in
    rw (p.1, p.2) (elim c.in_err-read_row.ensures.fault [
      | inl memory ↦ inl memory
      | inr refused ↦ inr (sheet_refused (c.args.room - vec_len c.loop-above.cells) c.loop-above.above-iterator.count c.in-Some.above _ _ f _ _ step.1 rows refused passed)
    ])

pub loop-above-preserved : goal.loop-above-preserved
loop-above-preserved c =
    let inv = c.loop-above.invariant in
    let step = rw c.in-Some.is at c.next.ensures.steps in
    let (read, first, turns) = rw c.in-Ok.is at ((step.0 inv.turns inv.whole).0 inv.ready) in
    let (y, n, source, enough, cells, passed) = inv.going in
    let a = c.loop-above.above-iterator.iter.rdr in
    let b = c.next.new.self.iter.rdr in
    let f = fields_of c.in-Ok.record in
    let (z, at_z, next) = record_read (λ (s : Bor (List ℕ)). Some s.now) a b f y inv.config source read in
    let (m, n_is, more) = enough_more n a.state y (f, b.state, z) enough next in
    let rows = next_rows n m a.state b.state y z f n_is next in
    record {
      whole = read.3 ∙ inv.whole;
      ready = inl first;
      turns = turns;
      config = read.2 ∙ inv.config;
      going = (
        z,
        m,
        at_z,
        more,
        sheet_cells c.args.sheet c.loop-above.above-iterator.count c.in-Some.above c.next.new.self.count _ _ _ f _ _ step.1 step.2 rows c.in_ok-read_row.ensures.cells cells,
        sheet_passed (c.args.room - vec_len c.loop-above.cells) (c.args.room - vec_len c.read_row.new.cells) c.loop-above.above-iterator.count c.in-Some.above c.next.new.self.count _ f _ _ step.1 step.2 rows c.in_ok-read_row.ensures.passed passed,
      );
      kept = kept_more _ _ _ inv.kept c.in_ok-read_row.ensures.kept;
      within = omega (arith, c.in_ok-read_row.ensures.within);
      there = c.in_ok-read_row.ensures.there inv.there;
    }

pub returns-clause-cells : goal.returns-clause-cells
returns-clause-cells c =
    let inv = c.loop-above.invariant in
    let step = rw c.in-None.is at c.next.ensures.steps in
    let end = (step.0 inv.turns inv.whole).0 inv.ready in
    let (y, n, source, enough, cells, passed) = inv.going in
    let a = c.loop-above.above-iterator.iter.rdr in
    let done = rows-end (λ (s : Bor (List ℕ)). Some s.now) a c.next.new.self.iter.rdr [] default_config y inv.config source end in
    let row = c.loop-above.above-iterator.count + 1 in
    let none : fields_from row (records_from default_config n a.state y) ≡ [] = ap (fields_from row) (no_record n a.state y done) ∙ fields_none row in
    ap (fold (with_field c.args.sheet) (c.loop-above.texts, c.loop-above.cells.items)) (sym none) ∙ cells

pub returns-clause-no_fault : goal.returns-clause-no_fault
returns-clause-no_fault c =
    let inv = c.loop-above.invariant in
    let step = rw c.in-None.is at c.next.ensures.steps in
    let end = (step.0 inv.turns inv.whole).0 inv.ready in
    let (y, n, source, enough, cells, passed) = inv.going in
    let a = c.loop-above.above-iterator.iter.rdr in
    let done = rows-end (λ (s : Bor (List ℕ)). Some s.now) a c.next.new.self.iter.rdr [] default_config y inv.config source end in
    let row = c.loop-above.above-iterator.count + 1 in
    let none : fields_from row (records_from default_config n a.state y) ≡ [] = ap (fields_from row) (no_record n a.state y done) ∙ fields_none row in
    passed ∙ ap (first_fault (c.args.room - vec_len c.loop-above.cells)) none ∙ no_fields (c.args.room - vec_len c.loop-above.cells)

pub returns-clause-on_sheet : goal.returns-clause-on_sheet
returns-clause-on_sheet c =
    let (end, placed) = sheet_placed c.args.sheet c.args.room c.args.texts.now c.args.bytes.now (returns-clause-no_fault c) in
    subst (λ (s : Sheet). All (OnSheet c.args.sheet) s.1) (sym (returns-clause-cells c)) placed.on_sheet

pub returns-clause-in_order : goal.returns-clause-in_order
returns-clause-in_order c =
    let (end, placed) = sheet_placed c.args.sheet c.args.room c.args.texts.now c.args.bytes.now (returns-clause-no_fault c) in
    subst (λ (s : Sheet). InOrder (addresses s.1)) (sym (returns-clause-cells c)) placed.in_order
