use Rattle.std.proofs.Common.{◌∙◌}
use Rattle.std.proofs.lemmas.Result.{err_from_is_err_and}
use Rattle.puncalc_program.specs.Output.{traced_output}
use Rattle.puncalc_program.specs.Writing.{sunk}
use Rattle.puncalc_program.proofs.Ends.{writing_stops}
use Rattle.puncalc_program.proofs.Tracing.{formulas_on_sheets, trace_answers, trace_stops}
use Rattle.puncalc_program.proofs.Written.{no_part}
use Rattle.puncalc_program.proofs.trace.trace_book.Goals as goal

pub write_trace-requires-clause-cells : goal.write_trace-requires-clause-cells
write_trace-requires-clause-cells g c = formulas_on_sheets c.args.book c.deref.result.now c.tell_cells.ensures (c.deref.ensures.value ∙ c.in_ok-cells.ensures)

pub returns-in_err-cells-clause-answers : goal.returns-in_err-cells-clause-answers
returns-in_err-cells-clause-answers g c =
    let p = err_from_is_err_and c.from_residual.result c.from_residual.ensures.1 in
    rw (p.1, p.2) (no_part (traced_output c.args.workers c.args.order.now c.args.stopped.now c.args.book.book).pieces (sunk g.K.Sink.written g.K.Sink.faults g.K.Sink.calls c.args.out.now))

pub returns-in_err-steps-clause-answers : goal.returns-in_err-steps-clause-answers
returns-in_err-steps-clause-answers g c =
    let p = err_from_is_err_and c.from_residual-in_err-steps.result c.from_residual-in_err-steps.ensures.1 in
    rw (p.1, p.2) (no_part (traced_output c.args.workers c.args.order.now c.args.stopped.now c.args.book.book).pieces (sunk g.K.Sink.written g.K.Sink.faults g.K.Sink.calls c.args.out.now))

pub returns-in_err-write_trace-clause-answers : goal.returns-in_err-write_trace-clause-answers
returns-in_err-write_trace-clause-answers g c =
    let p = err_from_is_err_and c.from_residual-in_err-write_trace.result c.from_residual-in_err-write_trace.ensures.1 in
    rw (p.1, p.2)
    (trace_stops c.args.workers c.args.order.now c.args.stopped.now c.args.book.book c.new-desk.result.standing c.recalculate_in_order.new.self.standing c.deref.result.now c.deref-2.result.now
    (sunk g.K.Sink.written g.K.Sink.faults g.K.Sink.calls c.args.out.now) (sunk g.K.Sink.written g.K.Sink.faults g.K.Sink.calls c.write_trace.new.out) c.args.kept.now c.in_err-write_trace.field-0.0
    c.new-desk.ensures.standing c.in_ok-steps.ensures.done (c.deref.ensures.value ∙ c.in_ok-cells.ensures) (c.deref-2.ensures.value ∙ c.in_ok-steps.ensures.steps) c.in_err-write_trace.ensures.0 c.in_err-write_trace.ensures.1)

pub returns-in_err-write_trace-clause-causes : goal.returns-in_err-write_trace-clause-causes
returns-in_err-write_trace-clause-causes g c =
    let p = err_from_is_err_and c.from_residual-in_err-write_trace.result c.from_residual-in_err-write_trace.ensures.1 in
    rw (p.1, p.2)
    (writing_stops ⊥ (sunk g.K.Sink.written g.K.Sink.faults g.K.Sink.calls c.args.out.now) (sunk g.K.Sink.written g.K.Sink.faults g.K.Sink.calls c.write_trace.new.out) c.in_err-write_trace.field-0.0 c.in_err-write_trace.ensures.1)

pub returns-clause-answers : goal.returns-clause-answers
returns-clause-answers g c =
    trace_answers c.args.workers c.args.order.now c.args.stopped.now c.args.book.book c.new-desk.result.standing c.recalculate_in_order.new.self.standing c.deref.result.now c.deref-2.result.now
    (sunk g.K.Sink.written g.K.Sink.faults g.K.Sink.calls c.args.out.now) (sunk g.K.Sink.written g.K.Sink.faults g.K.Sink.calls c.write_trace.new.out) c.into_kept.result
    c.new-desk.ensures.standing c.in_ok-steps.ensures.done (c.deref.ensures.value ∙ c.in_ok-cells.ensures) (c.deref-2.ensures.value ∙ c.in_ok-steps.ensures.steps) c.in_ok-write_trace.ensures c.into_kept.ensures
