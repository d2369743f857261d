use Rattle.std.proofs.Common.{[], ◌∷◌, codes, subst}
use Rattle.std.proofs.lemmas.Result.{err_from_is_err_and}
use Rattle.trace_text.specs.TraceText.{trace_lines}
use Rattle.puncalc_program.specs.Sheets.{sheet_rows}
use Rattle.puncalc_program.specs.Writing.{sunk, WritesAll}
use Rattle.puncalc_program.proofs.Scripts.{cause_made}
use Rattle.puncalc_program.proofs.Tracing.{then_writes}
use Rattle.puncalc_program.proofs.Written.{first_part, part_more, then_part}
use Rattle.puncalc_program.proofs.trace.write_trace.Goals as goal

pub returns-in_err-write_steps : goal.returns-in_err-write_steps
returns-in_err-write_steps g c =
    let lines = trace_lines c.args.cells.now c.args.stopped.now c.args.steps.now in
    let p = err_from_is_err_and c.from_residual.result c.from_residual.ensures.1 in
    rw (p.1, p.2) (
      part_more lines (codes "result\n" ∷ sheet_rows c.args.desk.now.standing.book 0) (sunk g.K.Sink.written g.K.Sink.faults g.K.Sink.calls c.args.out.now) (sunk g.K.Sink.written g.K.Sink.faults g.K.Sink.calls c.write_steps.new.out) c.in_err-write_steps.ensures.0,
      c.in_err-write_steps.ensures.1,
    )

pub returns-in_err-put : goal.returns-in_err-put
returns-in_err-put g c =
    let lines = trace_lines c.args.cells.now c.args.stopped.now c.args.steps.now in
    let rows = sheet_rows c.args.desk.now.standing.book 0 in
    let before = sunk g.K.Sink.written g.K.Sink.faults g.K.Sink.calls c.args.out.now in
    let between = sunk g.K.Sink.written g.K.Sink.faults g.K.Sink.calls c.write_steps.new.out in
    let now = sunk g.K.Sink.written g.K.Sink.faults g.K.Sink.calls c.put.new.out in
    let p = err_from_is_err_and c.from_residual-in_err-put.result c.from_residual-in_err-put.ensures.1 in
    rw (p.1, p.2) (
      then_part lines (codes "result\n" ∷ rows) before between now c.in_ok-write_steps.ensures (first_part (codes "result\n") c.as_bytes.result.now rows between now c.as_bytes.ensures.value c.in_err-put.ensures.0),
      cause_made c.in_err-put.field-0.0 before between now c.in_ok-write_steps.ensures.faults c.in_err-put.ensures.1,
    )

pub returns : goal.returns
returns g c =
    let lines = trace_lines c.args.cells.now c.args.stopped.now c.args.steps.now in
    let rows = sheet_rows c.args.desk.now.standing.book 0 in
    let a = sunk g.K.Sink.written g.K.Sink.faults g.K.Sink.calls c.args.out.now in
    let b = sunk g.K.Sink.written g.K.Sink.faults g.K.Sink.calls c.write_steps.new.out in
    let d = sunk g.K.Sink.written g.K.Sink.faults g.K.Sink.calls c.put.new.out in
    let e = sunk g.K.Sink.written g.K.Sink.faults g.K.Sink.calls c.write_sheet.new.out in
    then_writes lines (codes "result\n" ∷ rows) a b e c.write_sheet.result c.in_ok-write_steps.ensures
    (then_writes (codes "result\n" ∷ []) rows b d e c.write_sheet.result (subst (λ piece. WritesAll (piece ∷ []) b d) c.as_bytes.ensures.value c.in_ok-put.ensures) c.write_sheet.ensures)
