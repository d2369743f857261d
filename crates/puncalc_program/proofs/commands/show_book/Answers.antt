use Rattle.std.proofs.lemmas.Result.{err_from_is_err_and}
use Rattle.puncalc_program.specs.Sheets.{sheet_rows}
use Rattle.puncalc_program.specs.Writing.{sunk}
use Rattle.puncalc_program.proofs.Written.{no_part}
use Rattle.puncalc_program.proofs.commands.show_book.Goals as goal

pub returns-in_err-recalculate-clause-answers : goal.returns-in_err-recalculate-clause-answers
returns-in_err-recalculate-clause-answers g c =
    let p = err_from_is_err_and c.from_residual.result c.from_residual.ensures.1 in
    rw (p.1, p.2) (no_part (sheet_rows c.args.book.book 0) (sunk g.K.Sink.written g.K.Sink.faults g.K.Sink.calls c.args.out.now))
