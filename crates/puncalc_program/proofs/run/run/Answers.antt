use Rattle.std.proofs.Common.{map, string_bytes, subst}
use Rattle.std.specs.Prelude.{Ok, Err}
use Rattle.puncalc_program.specs.Output.{words_refused}
use Rattle.puncalc_program.specs.Run.{AnswersAll}
use Rattle.puncalc_program.specs.Writing.{sunk}
use Rattle.puncalc_program.proofs.Ends.{are_readable, ends_out_of_memory, ends_unread, ends_unwritten, ends_whole, told_ends, whole_written}
use Rattle.puncalc_program.proofs.run.run.Goals as goal

pub returns-in-Ok-clause-ends : goal.returns-in-Ok-clause-ends
returns-in-Ok-clause-ends g c = λ files told.
    let before = sunk g.K.Sink.written g.K.Sink.faults g.K.Sink.calls c.args.out.now in
    let now = sunk g.K.Sink.written g.K.Sink.faults g.K.Sink.calls c.answer.new.out in
    told_ends (g.S.Source.left c.args.input.now) (map string_bytes c.args.words.now.items) files c.in-Ok.status before now c.answer.new.kept (Ok c.in-Ok.status)
    (λ due. ends_whole due c.in-Ok.status before now c.answer.new.kept c.in-Ok.ensures.ended) (c.in-Ok.ensures.answers files told)

pub returns-in-Ok-clause-readable : goal.returns-in-Ok-clause-readable
returns-in-Ok-clause-readable g c = are_readable c.law_one_reading.ensures.there

pub returns-in-Ok-clause-refused_words : goal.returns-in-Ok-clause-refused_words
returns-in-Ok-clause-refused_words g c = λ off.
    whole_written words_refused c.in-Ok.status (sunk g.K.Sink.written g.K.Sink.faults g.K.Sink.calls c.args.out.now) (sunk g.K.Sink.written g.K.Sink.faults g.K.Sink.calls c.answer.new.out) c.answer.new.kept c.in-Ok.ensures.ended (c.in-Ok.ensures.refused_words off)

pub returns-in-Err-Read-clause-ends : goal.returns-in-Err-Read-clause-ends
returns-in-Err-Read-clause-ends g c = λ files told.
    let before = sunk g.K.Sink.written g.K.Sink.faults g.K.Sink.calls c.args.out.now in
    let now = sunk g.K.Sink.written g.K.Sink.faults g.K.Sink.calls c.answer.new.out in
    told_ends (g.S.Source.left c.args.input.now) (map string_bytes c.args.words.now.items) files 5 before now c.answer.new.kept (Err c.in-Err-Read.field-0)
    (λ due h. ends_unread due before now c.answer.new.kept (subst (λ stop. AnswersAll due before now c.answer.new.kept (Err stop)) c.in-Err-Read.field-0-is h)) (c.in-Err-Read.ensures.answers files told)

pub returns-in-Err-Read-clause-readable : goal.returns-in-Err-Read-clause-readable
returns-in-Err-Read-clause-readable g c = are_readable c.law_one_reading.ensures.there

pub returns-in-Err-Write-clause-ends : goal.returns-in-Err-Write-clause-ends
returns-in-Err-Write-clause-ends g c = λ files told.
    let before = sunk g.K.Sink.written g.K.Sink.faults g.K.Sink.calls c.args.out.now in
    let now = sunk g.K.Sink.written g.K.Sink.faults g.K.Sink.calls c.answer.new.out in
    told_ends (g.S.Source.left c.args.input.now) (map string_bytes c.args.words.now.items) files 6 before now c.answer.new.kept (Err c.in-Err-Write.field-0)
    (λ due h. ends_unwritten due before now c.answer.new.kept (subst (λ stop. AnswersAll due before now c.answer.new.kept (Err stop)) c.in-Err-Write.field-0-is h)) (c.in-Err-Write.ensures.answers files told)

pub returns-in-Err-Write-clause-readable : goal.returns-in-Err-Write-clause-readable
returns-in-Err-Write-clause-readable g c = are_readable c.law_one_reading.ensures.there

pub returns-in-Err-Memory-clause-ends : goal.returns-in-Err-Memory-clause-ends
returns-in-Err-Memory-clause-ends g c = λ files told.
    let before = sunk g.K.Sink.written g.K.Sink.faults g.K.Sink.calls c.args.out.now in
    let now = sunk g.K.Sink.written g.K.Sink.faults g.K.Sink.calls c.answer.new.out in
    told_ends (g.S.Source.left c.args.input.now) (map string_bytes c.args.words.now.items) files 7 before now c.answer.new.kept (Err c.in-Err-Memory.field-0)
    (λ due h. ends_out_of_memory due before now c.answer.new.kept (subst (λ stop. AnswersAll due before now c.answer.new.kept (Err stop)) c.in-Err-Memory.field-0-is h)) (c.in-Err-Memory.ensures.answers files told)

pub returns-in-Err-Memory-clause-readable : goal.returns-in-Err-Memory-clause-readable
returns-in-Err-Memory-clause-readable g c = are_readable c.law_one_reading.ensures.there
