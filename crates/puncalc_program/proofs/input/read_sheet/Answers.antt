use Rattle.std.proofs.Common.{◌≡◌, Err, [], option_map, codes}
use Rattle.std.proofs.lemmas.Result.{err_from_is_err_and}
use Rattle.puncalc_program.specs.Refusals.{refusal_line}
use Rattle.puncalc_program.specs.Writing.{sunk}
use Rattle.puncalc_program.proofs.Ends.{each_book, sheet_told, sheet_unread, sheet_unread_stops, unread_stops}
use Rattle.puncalc_program.proofs.input.read_sheet.Goals as goal

pub returns-in-Ok-clause-sheet : goal.returns-in-Ok-clause-sheet
returns-in-Ok-clause-sheet g c =
    sheet_told (g.S.Source.left c.args.input.now) c.in-Ok.bytes.items c.deref.result.now (sunk g.K.Sink.written g.K.Sink.faults g.K.Sink.calls c.args.out.now) (sunk g.K.Sink.written g.K.Sink.faults g.K.Sink.calls c.load_bytes.new.out) c.load_bytes.result
    c.in-Ok.ensures.all c.deref.ensures.value c.load_bytes.ensures.sheet

pub returns-in-Ok-clause-read_whole : goal.returns-in-Ok-clause-read_whole
returns-in-Ok-clause-read_whole g c =
    each_book (g.S.Source.left c.read_all.new.source ≡ option_map (λ _. []) (g.S.Source.left c.args.input.now)) c.load_bytes.result c.in-Ok.ensures.nothing_left

pub returns-in_err-refuse_input-in-Err-clause-sheet : goal.returns-in_err-refuse_input-in-Err-clause-sheet
returns-in_err-refuse_input-in-Err-clause-sheet g c =
    let p = err_from_is_err_and c.from_residual.result c.from_residual.ensures.1 in
    rw (p.1, p.2)
    (sheet_unread_stops (g.S.Source.left c.args.input.now) (sunk g.K.Sink.written g.K.Sink.faults g.K.Sink.calls c.args.out.now) (sunk g.K.Sink.written g.K.Sink.faults g.K.Sink.calls c.refuse_input.new.out) c.in-Err.fault c.in_err-refuse_input-in-Err.field-0.0
    c.in-Err.ensures.cause c.in_err-refuse_input-in-Err.ensures)

pub returns-in_err-refuse_input-in-Err-clause-causes : goal.returns-in_err-refuse_input-in-Err-clause-causes
returns-in_err-refuse_input-in-Err-clause-causes g c =
    let p = err_from_is_err_and c.from_residual.result c.from_residual.ensures.1 in
    rw (p.1, p.2)
    (unread_stops 3 (refusal_line (codes "Sheet1: S4")) (sunk g.K.Sink.written g.K.Sink.faults g.K.Sink.calls c.args.out.now) (sunk g.K.Sink.written g.K.Sink.faults g.K.Sink.calls c.refuse_input.new.out) (g.S.Source.faults c.args.input.now) (g.S.Source.faults c.read_all.new.source) c.in-Err.fault (Err c.in_err-refuse_input-in-Err.field-0.0)
    c.in-Err.ensures.counted c.in_err-refuse_input-in-Err.ensures)

pub returns-in_ok-refuse_input-in-Err-clause-sheet : goal.returns-in_ok-refuse_input-in-Err-clause-sheet
returns-in_ok-refuse_input-in-Err-clause-sheet g c =
    sheet_unread (g.S.Source.left c.args.input.now) (sunk g.K.Sink.written g.K.Sink.faults g.K.Sink.calls c.args.out.now) (sunk g.K.Sink.written g.K.Sink.faults g.K.Sink.calls c.refuse_input.new.out) c.in-Err.fault c.in_ok-refuse_input-in-Err.field-0
    c.in-Err.ensures.cause c.in_ok-refuse_input-in-Err.ensures
