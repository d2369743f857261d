use Rattle.std.proofs.Common.{◌≡◌, ◌+◌, ◌-◌, List, ◌++◌, drop, inl, inr, Some, None, fold, ap, sym, ◌∙◌, arith}
use Rattle.std.specs.Prelude.{vec_len}
use Rattle.std.proofs.lemmas.Result.{err_from_is_err_and}
use Rattle.csv.specs.Records.{Row, field_at, fields_of}
use Rattle.sheet_csv.specs.Sheet.{Field, first_fault, with_field}
use Rattle.sheet_csv.proofs.SheetFacts.{placed, placed_more, placed_done, field_there, field_gone, cells_more, refused_field, kept_more}
use Rattle.sheet_csv.proofs.reading.read_row.Goals as goal

pub loop-before-preserved : goal.loop-before-preserved
loop-before-preserved c =
    let inv = c.loop-before.invariant in
    let n = c.loop-before.before in
    let fields = fields_of c.args.fields.now in
    let step = rw c.in-Some.is at c.next.ensures.steps in
    let field : field_at fields n ≡ Some c.in-Some.field.now = ap (λ (r : Row). field_at (fields_of r) n) (sym inv.reads) ∙ ap (field_at (fields_of c.loop-before.field-iterator.row.now)) (sym inv.reads_at) ∙ sym step.1 in
    let (here, same) = field_there fields n c.in-Some.field.now field in
    let left = placed_more c.args.row n fields c.in-Some.field.now here same in
    let more = placed c.args.row (n + 1 + 1) (drop (n + 1) fields) in
    record {
      reads = ap (λ r. r.now) step.0 ∙ inv.reads;
      reads_at = step.2 ∙ ap (λ k. k + 1) inv.reads_at;
      cells = sym (cells_more c.args.sheet _ _ _ _ more left c.in_ok-read_field.ensures.cells) ∙ inv.cells;
      passed = λ rest. inv.passed rest ∙ ap (λ (fs : List Field). first_fault (c.args.room - vec_len c.loop-before.cells) (fs ++ rest)) left ∙ c.in_ok-read_field.ensures.passed (more ++ rest);
      kept = kept_more _ _ _ inv.kept c.in_ok-read_field.ensures.kept;
      within = omega (arith, c.in_ok-read_field.ensures.within);
      there = λ h. c.in_ok-read_field.ensures.there (inv.there h);
    }

pub returns-in_err-read_field-clause-fault : goal.returns-in_err-read_field-clause-fault
returns-in_err-read_field-clause-fault c =
    let p = err_from_is_err_and c.from_residual.result c.from_residual.ensures.1 in
    let inv = c.loop-before.invariant in
    let n = c.loop-before.before in
    let fields = fields_of c.args.fields.now in
    let step = rw c.in-Some.is at c.next.ensures.steps in
    let field : field_at fields n ≡ Some c.in-Some.field.now = ap (λ (r : Row). field_at (fields_of r) n) (sym inv.reads) ∙ ap (field_at (fields_of c.loop-before.field-iterator.row.now)) (sym inv.reads_at) ∙ sym step.1 in
    let (here, same) = field_there fields n c.in-Some.field.now field in
    let left = placed_more c.args.row n fields c.in-Some.field.now here same in
    let more = placed c.args.row (n + 1 + 1) (drop (n + 1) fields) in
    let room = c.args.room - vec_len c.loop-before.cells in
    rw (p.1, p.2) (elim c.in_err-read_field.ensures.fault [
      | inl memory ↦ inl memory
      | inr refused ↦ inr (λ rest. inv.passed rest ∙ ap (λ (fs : List Field). first_fault room (fs ++ rest)) left ∙ refused_field room _ (more ++ rest) _ refused)
    ])

pub returns-clause-cells : goal.returns-clause-cells
returns-clause-cells c =
    let inv = c.loop-before.invariant in
    let n = c.loop-before.before in
    let fields = fields_of c.args.fields.now in
    let step = rw c.in-None.is at c.next.ensures.steps in
    let none : field_at fields n ≡ None = ap (λ (r : Row). field_at (fields_of r) n) (sym inv.reads) ∙ ap (field_at (fields_of c.loop-before.field-iterator.row.now)) (sym inv.reads_at) ∙ sym step.1 in
    let done = placed_done c.args.row (n + 1) n fields (field_gone fields n none) in
    ap (fold (with_field c.args.sheet) (c.loop-before.texts, c.loop-before.cells.items)) (sym done) ∙ inv.cells

pub returns-clause-passed : goal.returns-clause-passed
returns-clause-passed c rest =
    let inv = c.loop-before.invariant in
    let n = c.loop-before.before in
    let fields = fields_of c.args.fields.now in
    let step = rw c.in-None.is at c.next.ensures.steps in
    let none : field_at fields n ≡ None = ap (λ (r : Row). field_at (fields_of r) n) (sym inv.reads) ∙ ap (field_at (fields_of c.loop-before.field-iterator.row.now)) (sym inv.reads_at) ∙ sym step.1 in
    let done = placed_done c.args.row (n + 1) n fields (field_gone fields n none) in
    inv.passed rest ∙ ap (λ (fs : List Field). first_fault (c.args.room - vec_len c.loop-before.cells) (fs ++ rest)) done
