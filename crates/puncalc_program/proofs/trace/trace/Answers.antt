use Rattle.std.proofs.Common.{◌≡◌, Ok, [], option_map, subst}
use Rattle.std.specs.Prelude.{IfSome}
use Rattle.std.proofs.lemmas.Result.{err_from_is_err_and}
use Rattle.byte_streams.specs.Faults.{HasRisen}
use Rattle.puncalc_program.specs.Output.{traced_output}
use Rattle.puncalc_program.specs.Writing.{sunk}
use Rattle.puncalc_program.proofs.Ends.{Reads, sheet_answers, sheet_refused_answers, sheet_stops, stops_later, whole_read}
use Rattle.puncalc_program.proofs.trace.trace.Goals as goal

pub returns-in_err-book-clause-answers : goal.returns-in_err-book-clause-answers
returns-in_err-book-clause-answers g c =
    let p = err_from_is_err_and c.from_residual.result c.from_residual.ensures.1 in
    rw (p.1, p.2)
    (sheet_stops (g.S.Source.left c.args.input.now) (traced_output c.args.workers c.args.order.now c.args.stopped.now) (sunk g.K.Sink.written g.K.Sink.faults g.K.Sink.calls c.args.out.now) (sunk g.K.Sink.written g.K.Sink.faults g.K.Sink.calls c.read_sheet.new.out) c.args.kept.now c.in_err-book.field-0.0
    c.in_err-book.ensures.sheet)

pub returns-in-Some-clause-answers : goal.returns-in-Some-clause-answers
returns-in-Some-clause-answers g c =
    let left = g.S.Source.left c.args.input.now in
    let before = sunk g.K.Sink.written g.K.Sink.faults g.K.Sink.calls c.args.out.now in
    let between = sunk g.K.Sink.written g.K.Sink.faults g.K.Sink.calls c.read_sheet.new.out in
    sheet_answers left (traced_output c.args.workers c.args.order.now c.args.stopped.now) c.in-Some.book before between (sunk g.K.Sink.written g.K.Sink.faults g.K.Sink.calls c.trace_book.new.out) c.trace_book.new.kept c.trace_book.result
    (subst (λ book. IfSome left (Reads before between (Ok book))) c.in-Some.is c.in_ok-book.ensures.sheet) c.trace_book.ensures.answers

pub returns-in-Some-clause-read_whole : goal.returns-in-Some-clause-read_whole
returns-in-Some-clause-read_whole g c =
    let Ended : Type 0 = g.S.Source.left c.read_sheet.new.input ≡ option_map (λ _. []) (g.S.Source.left c.args.input.now) in
    whole_read Ended c.trace_book.result (subst (λ book. IfSome book (λ _. Ended)) c.in-Some.is c.in_ok-book.ensures.read_whole)

pub returns-in-Some-clause-causes : goal.returns-in-Some-clause-causes
returns-in-Some-clause-causes g c =
    let before = sunk g.K.Sink.written g.K.Sink.faults g.K.Sink.calls c.args.out.now in
    let between = sunk g.K.Sink.written g.K.Sink.faults g.K.Sink.calls c.read_sheet.new.out in
    stops_later (HasRisen (g.S.Source.faults c.args.input.now) (g.S.Source.faults c.read_sheet.new.input)) before between (sunk g.K.Sink.written g.K.Sink.faults g.K.Sink.calls c.trace_book.new.out) c.trace_book.result
    (subst (λ book. IfSome book (λ _. between ≡ before)) c.in-Some.is c.in_ok-book.ensures.unwritten) c.trace_book.ensures.causes

pub returns-in-None-clause-answers : goal.returns-in-None-clause-answers
returns-in-None-clause-answers g c =
    let left = g.S.Source.left c.args.input.now in
    let before = sunk g.K.Sink.written g.K.Sink.faults g.K.Sink.calls c.args.out.now in
    let now = sunk g.K.Sink.written g.K.Sink.faults g.K.Sink.calls c.read_sheet.new.out in
    sheet_refused_answers left (traced_output c.args.workers c.args.order.now c.args.stopped.now) before now c.args.kept.now (subst (λ book. IfSome left (Reads before now (Ok book))) c.in-None.is c.in_ok-book.ensures.sheet) c.requires.kept
