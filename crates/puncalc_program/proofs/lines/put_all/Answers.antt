use Rattle.std.proofs.Common.{ap, ◌∙◌}
use Rattle.std.proofs.lemmas.Result.{err_from_is_err_and}
use Rattle.puncalc_program.specs.Writing.{sunk}
use Rattle.puncalc_program.proofs.Scripts.{cause_made}
use Rattle.puncalc_program.proofs.Written.{element_more, element_part}
use Rattle.puncalc_program.proofs.lines.put_all.Goals as goal

pub returns-in_err-put : goal.returns-in_err-put
returns-in_err-put g c =
    let before = sunk g.K.Sink.written g.K.Sink.faults g.K.Sink.calls c.args.out.now in
    let now = sunk g.K.Sink.written g.K.Sink.faults g.K.Sink.calls c.loop-row.out in
    let next = sunk g.K.Sink.written g.K.Sink.faults g.K.Sink.calls c.put.new.out in
    let p = err_from_is_err_and c.from_residual.result c.from_residual.ensures.1 in
    rw (p.1, p.2) (
      element_part (λ row. row.items) c.args.rows.now c.loop-row.row-index c.row-item.result c.deref.result.now before now next c.loop-row-test.true
          (c.deref.ensures.value ∙ ap (λ row. row.items) c.row-item.is) c.loop-row.invariant c.in_err-put.ensures.0,
      cause_made c.in_err-put.field-0.0 before now next c.loop-row.invariant.faults c.in_err-put.ensures.1,
    )

pub loop-row-preserved : goal.loop-row-preserved
loop-row-preserved g c =
    let before = sunk g.K.Sink.written g.K.Sink.faults g.K.Sink.calls c.args.out.now in
    let now = sunk g.K.Sink.written g.K.Sink.faults g.K.Sink.calls c.loop-row.out in
    let next = sunk g.K.Sink.written g.K.Sink.faults g.K.Sink.calls c.put.new.out in
    element_more (λ row. row.items) c.args.rows.now c.loop-row.row-index c.row-item.result c.deref.result.now before now next c.loop-row-test.true
    (c.deref.ensures.value ∙ ap (λ row. row.items) c.row-item.is) c.loop-row.invariant c.in_ok-put.ensures
