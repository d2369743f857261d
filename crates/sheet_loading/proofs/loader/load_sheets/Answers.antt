use Rattle.std.proofs.Common.{◌≡◌, ◌∙◌, ◌+◌, ◌<◌, ◌≤◌, ℕ, List, Ok, ap, length, map, subst, sym, arith}
use Rattle.std.proofs.lemmas.List.{drop_all, length-map}
use Rattle.formula_grammar.specs.Reading.{Reading, IsReading}
use Rattle.sheet_loading.specs.Faults.{IsLoadFault}
use Rattle.sheet_loading.specs.Loaded.{book_of}
use Rattle.sheet_loading.specs.Sheets.{sheet_added}
use Rattle.sheet_loading.proofs.Sequence.{Loads, all_loaded, item_of, loads_next, loads_start, one_refused}
use Rattle.sheet_loading.proofs.loader.load_sheets.Goals as goal

pub loop-bytes-init : goal.loop-bytes-init
loop-bytes-init c = loads_start c.args.names _ c.new-loader.result c.new-loader.ensures (subst (λ n. n ≤ length c.args.names) (sym (length-map c.args.sheets.now (λ sheet. sheet.items))) c.requires)

pub loop-bytes-preserved : goal.loop-bytes-preserved
loop-bytes-preserved c =
    loads_next c.args.names (map (λ sheet. sheet.items) c.args.sheets.now) c.loop-bytes.bytes-index c.bytes-item.result.items c.loop-bytes.loader c.add.new.self
    (subst (λ n. c.loop-bytes.bytes-index < n) (sym (length-map c.args.sheets.now (λ sheet. sheet.items))) c.loop-bytes-test.true)
    (item_of (λ sheet. sheet.items) c.args.sheets.now c.loop-bytes.bytes-index c.bytes-item.result c.loop-bytes-test.true c.bytes-item.is) c.loop-bytes.invariant
    (subst (λ (bs : List ℕ). (read : Reading) → IsReading c.loop-bytes.loader.names read → sheet_added read c.loop-bytes.loader.names c.loop-bytes.loader.sheet c.loop-bytes.loader.left (book_of read c.loop-bytes.loader) bs ≡ Ok (book_of read c.add.new.self))
    c.deref.ensures.value c.in_default.ensures.added)
    c.add.ensures.names c.in_default.ensures.sheet
    (subst (λ (bs : List ℕ). c.add.new.self.left + length bs ≡ c.loop-bytes.loader.left) c.deref.ensures.value c.in_default.ensures.left)

pub returns-in-Err-clause-loaded : goal.returns-in-Err-clause-loaded
returns-in-Err-clause-loaded c =
    rw (c.of_sheet.ensures, c.sheet-sheet.ensures.sheet) (
    one_refused c.in-Err.fault c.args.names (map (λ sheet. sheet.items) c.args.sheets.now) c.loop-bytes.bytes-index c.bytes-item.result.items c.loop-bytes.loader
    (subst (λ n. c.loop-bytes.bytes-index < n) (sym (length-map c.args.sheets.now (λ sheet. sheet.items))) c.loop-bytes-test.true)
    (item_of (λ sheet. sheet.items) c.args.sheets.now c.loop-bytes.bytes-index c.bytes-item.result c.loop-bytes-test.true c.bytes-item.is) c.loop-bytes.invariant
    (subst (λ (bs : List ℕ). (read : Reading) → IsReading c.loop-bytes.loader.names read → IsLoadFault c.in-Err.fault (sheet_added read c.loop-bytes.loader.names c.loop-bytes.loader.sheet c.loop-bytes.loader.left (book_of read c.loop-bytes.loader) bs))
    c.deref.ensures.value c.in-Err.ensures.added)
    )

pub returns-clause-loaded : goal.returns-clause-loaded
returns-clause-loaded c =
    let sheets : List (List ℕ) = map (λ sheet. sheet.items) c.args.sheets.now in
    let n : length sheets ≤ c.loop-bytes.bytes-index = omega (arith, c.loop-bytes-test.false, length-map c.args.sheets.now (λ sheet. sheet.items)) in
    λ read right.
    all_loaded c.args.names sheets c.loop-bytes.loader (subst (λ rest. Loads c.args.names sheets rest c.loop-bytes.loader) (drop_all c.loop-bytes.bytes-index sheets n) c.loop-bytes.invariant) read right
    ∙ ap Ok (sym (c.in_ok-workbook.ensures.book read (subst (λ (ns : List (List ℕ)). IsReading ns read) (sym c.loop-bytes.invariant.names) right)))
