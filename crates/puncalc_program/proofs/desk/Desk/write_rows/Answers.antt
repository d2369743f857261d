use Rattle.std.proofs.Common.{map, subst, ◌∙◌}
use Rattle.std.proofs.lemmas.Result.{err_from_is_err_and}
use Rattle.cell_values.specs.Areas.{numbers_from}
use Rattle.puncalc_program.specs.Sheets.{sheet_row}
use Rattle.puncalc_program.specs.Writing.{sunk, WritesAll, WritesPart}
use Rattle.puncalc_program.proofs.Written.{elements_part, row_part, row_more, rows_all}
use Rattle.puncalc_program.proofs.Scripts.{cause_made}
use Rattle.puncalc_program.proofs.desk.Desk.write_rows.Goals as goal

pub returns-in_err-text : goal.returns-in_err-text
returns-in_err-text g c =
    let before = sunk g.K.Sink.written g.K.Sink.faults g.K.Sink.calls c.args.out.now in
    let now = sunk g.K.Sink.written g.K.Sink.faults g.K.Sink.calls c.loop-before.out in
    let p = err_from_is_err_and c.from_residual.result c.from_residual.ensures.1 in
    rw (p.1, p.2) (
      subst (λ n. WritesPart (map (sheet_row c.args.self.now.standing.book c.args.sheet) (numbers_from 1 n)) before now) c.requires.rows
          (elements_part (sheet_row c.args.self.now.standing.book c.args.sheet) (numbers_from 1 c.args.rows) c.loop-before.before before now c.loop-before.invariant),
      tt,
    )

pub returns-in_err-put : goal.returns-in_err-put
returns-in_err-put g c =
    let before = sunk g.K.Sink.written g.K.Sink.faults g.K.Sink.calls c.args.out.now in
    let now = sunk g.K.Sink.written g.K.Sink.faults g.K.Sink.calls c.loop-before.out in
    let next = sunk g.K.Sink.written g.K.Sink.faults g.K.Sink.calls c.put.new.out in
    let p = err_from_is_err_and c.from_residual-in_err-put.result c.from_residual-in_err-put.ensures.1 in
    rw (p.1, p.2) (
      subst (λ n. WritesPart (map (sheet_row c.args.self.now.standing.book c.args.sheet) (numbers_from 1 n)) before next) c.requires.rows
          (row_part (sheet_row c.args.self.now.standing.book c.args.sheet) c.args.rows c.loop-before.before c.deref.result.now before now next c.loop-before-test.true (c.deref.ensures.value ∙ c.in_ok-text.ensures) c.loop-before.invariant c.in_err-put.ensures.0),
      cause_made c.in_err-put.field-0.0 before now next c.loop-before.invariant.faults c.in_err-put.ensures.1,
    )

pub loop-before-preserved : goal.loop-before-preserved
loop-before-preserved g c =
    let before = sunk g.K.Sink.written g.K.Sink.faults g.K.Sink.calls c.args.out.now in
    let now = sunk g.K.Sink.written g.K.Sink.faults g.K.Sink.calls c.loop-before.out in
    let next = sunk g.K.Sink.written g.K.Sink.faults g.K.Sink.calls c.put.new.out in
    row_more (sheet_row c.args.self.now.standing.book c.args.sheet) c.args.rows c.loop-before.before c.deref.result.now before now next c.loop-before-test.true (c.deref.ensures.value ∙ c.in_ok-text.ensures) c.loop-before.invariant c.in_ok-put.ensures

pub returns : goal.returns
returns g c =
    let before = sunk g.K.Sink.written g.K.Sink.faults g.K.Sink.calls c.args.out.now in
    let now = sunk g.K.Sink.written g.K.Sink.faults g.K.Sink.calls c.loop-before.out in
    subst (λ n. WritesAll (map (sheet_row c.args.self.now.standing.book c.args.sheet) (numbers_from 1 n)) before now) c.requires.rows
    (rows_all (sheet_row c.args.self.now.standing.book c.args.sheet) c.args.rows c.loop-before.before before now c.loop-before-test.false c.loop-before.invariant)
