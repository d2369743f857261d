use Rattle.std.proofs.Common.{◌≡◌, ◌≤◌, ◌+◌, List, Some, true, map, string_bytes, ap, subst, ◌∙◌}
use Rattle.std.specs.Prelude.{IfSome}
use Rattle.byte_streams.specs.Folders.{StoredFile}
use Rattle.command_words.specs.Asking.{asked}
use Rattle.puncalc_program.specs.Output.{AreReadings, Readings, is_edit, request_output}
use Rattle.puncalc_program.specs.Run.{AnswersAll, most_reads}
use Rattle.puncalc_program.specs.Writing.{sunk}
use Rattle.puncalc_program.proofs.run.answer.Goals as goal

pub returns-clause-answers : goal.returns-clause-answers
returns-clause-answers g c =
    subst (λ request. (files : List StoredFile) → (is_edit request ≡ true → g.D.Folder.files c.args.folder.now ≡ Some files) →
    IfSome (g.S.Source.left c.args.input.now) (λ bytes. (read : Readings) → AreReadings read → AnswersAll (request_output read request files bytes) (sunk g.K.Sink.written g.K.Sink.faults g.K.Sink.calls c.args.out.now) (sunk g.K.Sink.written g.K.Sink.faults g.K.Sink.calls c.act.new.out) c.act.new.kept c.act.result))
    (c.in_ok-asked.ensures.exact ∙ ap (λ words. asked (map string_bytes words)) c.deref.ensures.value) c.act.ensures.answers

pub returns-clause-few_reads : goal.returns-clause-few_reads
returns-clause-few_reads g c =
    subst (λ request. g.S.Source.calls c.act.new.input ≤ g.S.Source.calls c.args.input.now + most_reads request)
    (c.in_ok-asked.ensures.exact ∙ ap (λ words. asked (map string_bytes words)) c.deref.ensures.value) c.act.ensures.few_reads
