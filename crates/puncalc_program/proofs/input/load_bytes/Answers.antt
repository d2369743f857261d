use Rattle.std.proofs.Common.{subst}
use Rattle.std.proofs.lemmas.Result.{err_from_is_err_and}
use Rattle.puncalc_program.specs.Files.{IsSheetOf}
use Rattle.puncalc_program.specs.Output.{only_sheet, the_names}
use Rattle.puncalc_program.specs.Writing.{sunk}
use Rattle.puncalc_program.proofs.Ends.{loaded_read, none_read, only_loaded, refusal_cut, refusal_read}
use Rattle.puncalc_program.proofs.input.load_bytes.Goals as goal

pub returns-in_err-names-clause-sheet : goal.returns-in_err-names-clause-sheet
returns-in_err-names-clause-sheet g c = λ read right.
    let p = err_from_is_err_and c.from_residual.result c.from_residual.ensures.1 in
    rw (p.1, p.2) (none_read (only_sheet read c.args.bytes.now) (sunk g.K.Sink.written g.K.Sink.faults g.K.Sink.calls c.args.out.now))

pub returns-in_err-book-clause-sheet : goal.returns-in_err-book-clause-sheet
returns-in_err-book-clause-sheet g c = λ read right.
    let p = err_from_is_err_and c.from_residual-in_err-book.result c.from_residual-in_err-book.ensures.1 in
    rw (p.1, p.2) (none_read (only_sheet read c.args.bytes.now) (sunk g.K.Sink.written g.K.Sink.faults g.K.Sink.calls c.args.out.now))

pub returns-in-Whole-clause-sheet : goal.returns-in-Whole-clause-sheet
returns-in-Whole-clause-sheet g c = λ read right.
    loaded_read (only_sheet read c.args.bytes.now) c.in-Whole.book (sunk g.K.Sink.written g.K.Sink.faults g.K.Sink.calls c.args.out.now)
    (subst (IsSheetOf the_names (only_sheet read c.args.bytes.now)) c.in-Whole.is (only_loaded c.in_ok-names.names c.args.bytes.now c.in_ok-book.field-0 c.in_ok-names.ensures c.in_ok-book.ensures.loaded read right))

pub returns-in_err-refuse-in-Refused-clause-sheet : goal.returns-in_err-refuse-in-Refused-clause-sheet
returns-in_err-refuse-in-Refused-clause-sheet g c = λ read right.
    let p = err_from_is_err_and c.from_residual-in_err-refuse-in-Refused.result c.from_residual-in_err-refuse-in-Refused.ensures.1 in
    rw (p.1, p.2)
    (refusal_cut (only_sheet read c.args.bytes.now) c.in-Refused.what c.deref.result.now (sunk g.K.Sink.written g.K.Sink.faults g.K.Sink.calls c.args.out.now) (sunk g.K.Sink.written g.K.Sink.faults g.K.Sink.calls c.refuse.new.out) c.in_err-refuse-in-Refused.field-0.0
    (subst (IsSheetOf the_names (only_sheet read c.args.bytes.now)) c.in-Refused.is (only_loaded c.in_ok-names.names c.args.bytes.now c.in_ok-book.field-0 c.in_ok-names.ensures c.in_ok-book.ensures.loaded read right))
    c.deref.ensures c.in_err-refuse-in-Refused.ensures.writes.0 c.in_err-refuse-in-Refused.ensures.writes.1)

pub returns-in_ok-refuse-in-Refused-clause-sheet : goal.returns-in_ok-refuse-in-Refused-clause-sheet
returns-in_ok-refuse-in-Refused-clause-sheet g c = λ read right.
    refusal_read (only_sheet read c.args.bytes.now) c.in-Refused.what c.deref.result.now (sunk g.K.Sink.written g.K.Sink.faults g.K.Sink.calls c.args.out.now) (sunk g.K.Sink.written g.K.Sink.faults g.K.Sink.calls c.refuse.new.out)
    (subst (IsSheetOf the_names (only_sheet read c.args.bytes.now)) c.in-Refused.is (only_loaded c.in_ok-names.names c.args.bytes.now c.in_ok-book.field-0 c.in_ok-names.ensures c.in_ok-book.ensures.loaded read right))
    c.deref.ensures c.in_ok-refuse-in-Refused.ensures.writes
