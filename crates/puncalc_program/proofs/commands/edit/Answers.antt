use Rattle.std.proofs.Common.{◌∙◌, ap, map, string_bytes, subst}
use Rattle.std.proofs.lemmas.Result.{err_from_is_err_and}
use Rattle.cell_values.specs.Names.{IsFaultOf, sheet_name}
use Rattle.puncalc_program.specs.Files.{HasNames, IsLoadOf, files_loaded}
use Rattle.puncalc_program.specs.Refusals.{name_refused}
use Rattle.puncalc_program.specs.Writing.{sunk}
use Rattle.puncalc_program.proofs.Ends.{edit_loaded, edit_name_refused, edit_sheet_refused, files_lacking, reading_stops}
use Rattle.puncalc_program.proofs.commands.edit.Goals as goal

pub returns-in-Err-Bad-clause-answers : goal.returns-in-Err-Bad-clause-answers
returns-in-Err-Bad-clause-answers g c = λ told is.
    edit_name_refused (g.S.Source.left c.args.input.now) c.args.workers.now.count c.in-Err-Bad.number c.args.files.now told c.deref.result.now (sunk g.K.Sink.written g.K.Sink.faults g.K.Sink.calls c.args.out.now) (sunk g.K.Sink.written g.K.Sink.faults g.K.Sink.calls c.refuse.new.out) c.args.kept.now c.refuse.result
    (subst (λ fault. IsFaultOf (map (λ file. sheet_name (string_bytes file)) c.args.files.now) fault) c.in-Err-Bad.field-0-is c.in-Err-Bad.ensures.bad)
    (c.deref.ensures ∙ c.in_ok-name_refused-in-Err-Bad.ensures ∙ ap name_refused c.in-Err-Bad.number-is) c.refuse.ensures.writes c.refuse.ensures.status c.requires.kept

pub returns-in_err-book-clause-causes : goal.returns-in_err-book-clause-causes
returns-in_err-book-clause-causes g c =
    let p = err_from_is_err_and c.from_residual-in_err-book.result c.from_residual-in_err-book.ensures.1 in
    rw (p.1, p.2)
    (reading_stops _ _ (sunk g.K.Sink.written g.K.Sink.faults g.K.Sink.calls c.args.out.now) c.in_err-book.field-0.0
    (files_lacking c.args.workers.now.count c.args.files.now c.in-Ok.names (g.D.Folder.files c.args.folder.now) (g.S.Source.faults c.args.input.now, g.S.Source.faults c.args.input.now) (g.D.Folder.faults c.args.folder.now, g.D.Folder.faults c.load_files.new.folder) c.in-Ok.ensures.names c.in-Ok.ensures.good)
    c.in_err-book.ensures.causes)

pub returns-in-Whole-clause-answers : goal.returns-in-Whole-clause-answers
returns-in-Whole-clause-answers g c = λ told is.
    edit_loaded (g.S.Source.left c.args.input.now) c.args.workers.now.count c.args.files.now c.in-Ok.names told c.in-Whole.book (sunk g.K.Sink.written g.K.Sink.faults g.K.Sink.calls c.args.out.now) (sunk g.K.Sink.written g.K.Sink.faults g.K.Sink.calls c.run_input.new.out) c.run_input.new.kept c.run_input.result
    c.in-Ok.ensures.names c.in-Ok.ensures.good (subst (HasNames c.in-Ok.names) c.in-Whole.is c.in_ok-book.ensures.names)
    (λ read right. subst (IsLoadOf c.in-Ok.names (files_loaded read c.in-Ok.names told (map string_bytes c.args.files.now))) c.in-Whole.is (c.in_ok-book.ensures.loaded read right told is)) c.run_input.ensures.answers

pub returns-in-Refused-clause-answers : goal.returns-in-Refused-clause-answers
returns-in-Refused-clause-answers g c = λ told is.
    edit_sheet_refused (g.S.Source.left c.args.input.now) c.args.workers.now.count c.args.files.now c.in-Ok.names told c.in-Refused.what c.deref-in-Refused.result.now (sunk g.K.Sink.written g.K.Sink.faults g.K.Sink.calls c.args.out.now) (sunk g.K.Sink.written g.K.Sink.faults g.K.Sink.calls c.refuse-in-Refused.new.out) c.args.kept.now c.refuse-in-Refused.result
    c.in-Ok.ensures.names c.in-Ok.ensures.good
    (λ read right. subst (IsLoadOf c.in-Ok.names (files_loaded read c.in-Ok.names told (map string_bytes c.args.files.now))) c.in-Refused.is (c.in_ok-book.ensures.loaded read right told is))
    c.deref-in-Refused.ensures c.refuse-in-Refused.ensures.writes c.refuse-in-Refused.ensures.status c.requires.kept
