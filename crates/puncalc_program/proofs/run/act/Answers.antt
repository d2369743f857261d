use Rattle.std.proofs.Common.{◌≡◌, ◌≤◌, ◌+◌, Some, map, string_bytes, refl, ap, sym, subst, ◌∙◌, arith}
use Rattle.std.specs.Prelude.{IfSome}
use Rattle.std.specs.Option.{option_map}
use Rattle.command_words.specs.declared.Asked.{Asked}
use Rattle.command_words.specs.Asking.{request_of}
use Rattle.puncalc_program.specs.Output.{AreReadings, Readings, is_edit, request_output, traced_output}
use Rattle.puncalc_program.specs.Run.{AnswersAll, most_reads}
use Rattle.puncalc_program.specs.Writing.{sunk}
use Rattle.puncalc_program.proofs.Ends.{Edits, SheetAnswers, demo_answers, never_reads}
use Rattle.puncalc_program.proofs.run.act.Goals as goal

pub returns-in-Some-Edit-clause-answers : goal.returns-in-Some-Edit-clause-answers
returns-in-Some-Edit-clause-answers g c = λ files told.
    let whole : c.args.asked ≡ Some (Asked.Edit c.in-Some-Edit.workers c.in-Some-Edit.files) = c.in-Some-Edit.is ∙ ap Some c.in-Some-Edit.field-0-is in
    let left = g.S.Source.left c.args.input.now in
    let before = sunk g.K.Sink.written g.K.Sink.faults g.K.Sink.calls c.args.out.now in
    let now = sunk g.K.Sink.written g.K.Sink.faults g.K.Sink.calls c.edit.new.out in
    subst (λ asked. IfSome left (λ bytes. (read : Readings) → AreReadings read → AnswersAll (request_output read (option_map request_of asked) files bytes) before now c.edit.new.kept c.edit.result)) (sym whole)
    (subst (λ names. IfSome left (Edits c.in-Some-Edit.workers names files before now c.edit.new.kept c.edit.result)) (ap (map string_bytes) c.deref.ensures.value)
    (c.edit.ensures.answers files (told (ap (λ asked. is_edit (option_map request_of asked)) whole))))

pub returns-in-Some-Trace-clause-answers : goal.returns-in-Some-Trace-clause-answers
returns-in-Some-Trace-clause-answers g c = λ files told.
    let whole : c.args.asked ≡ Some (Asked.Trace c.in-Some-Trace.workers c.in-Some-Trace.order c.in-Some-Trace.stopped) = c.in-Some-Trace.is ∙ ap Some c.in-Some-Trace.field-0-is in
    let left = g.S.Source.left c.args.input.now in
    let before = sunk g.K.Sink.written g.K.Sink.faults g.K.Sink.calls c.args.out.now in
    let now = sunk g.K.Sink.written g.K.Sink.faults g.K.Sink.calls c.trace.new.out in
    subst (λ asked. IfSome left (λ bytes. (read : Readings) → AreReadings read → AnswersAll (request_output read (option_map request_of asked) files bytes) before now c.trace.new.kept c.trace.result)) (sym whole)
    (subst (λ order. IfSome left (SheetAnswers (traced_output c.in-Some-Trace.workers order c.in-Some-Trace.stopped.items) before now c.trace.new.kept c.trace.result)) c.deref-in-Some-Trace.ensures.value
    (subst (λ stopped. IfSome left (SheetAnswers (traced_output c.in-Some-Trace.workers c.deref-in-Some-Trace.result.now stopped) before now c.trace.new.kept c.trace.result)) c.deref-in-Some-Trace-2.ensures.value
    c.trace.ensures.answers))

pub returns-in-Some-Demo-clause-answers : goal.returns-in-Some-Demo-clause-answers
returns-in-Some-Demo-clause-answers g c = λ files told.
    let whole : c.args.asked ≡ Some (Asked.Demo c.in-Some-Demo.workers c.in-Some-Demo.count) = c.in-Some-Demo.is ∙ ap Some c.in-Some-Demo.field-0-is in
    let left = g.S.Source.left c.args.input.now in
    let before = sunk g.K.Sink.written g.K.Sink.faults g.K.Sink.calls c.args.out.now in
    let now = sunk g.K.Sink.written g.K.Sink.faults g.K.Sink.calls c.demo.new.out in
    subst (λ asked. IfSome left (λ bytes. (read : Readings) → AreReadings read → AnswersAll (request_output read (option_map request_of asked) files bytes) before now c.demo.new.kept c.demo.result)) (sym whole)
    (demo_answers left c.in-Some-Demo.workers c.in-Some-Demo.count before now c.demo.new.kept c.demo.result c.demo.ensures.answers)

pub returns-in-Some-Demo-clause-unread : goal.returns-in-Some-Demo-clause-unread
returns-in-Some-Demo-clause-unread g c = λ off. (
  refl,
  refl,
  refl,
  never_reads (sunk g.K.Sink.written g.K.Sink.faults g.K.Sink.calls c.args.out.now) (sunk g.K.Sink.written g.K.Sink.faults g.K.Sink.calls c.demo.new.out) c.demo.result c.demo.ensures.causes,
)

pub returns-in-Some-Show-clause-few_reads : goal.returns-in-Some-Show-clause-few_reads
returns-in-Some-Show-clause-few_reads g c =
    let whole : c.args.asked ≡ Some (Asked.Show c.in-Some-Show.workers) = c.in-Some-Show.is ∙ ap Some c.in-Some-Show.field-0-is in
    subst (λ asked. g.S.Source.calls c.show.new.input ≤ g.S.Source.calls c.args.input.now + most_reads (option_map request_of asked)) (sym whole)
    (let few = c.show.ensures.few_reads in omega (arith, few))

pub returns-in-Some-Edit-clause-few_reads : goal.returns-in-Some-Edit-clause-few_reads
returns-in-Some-Edit-clause-few_reads g c =
    let whole : c.args.asked ≡ Some (Asked.Edit c.in-Some-Edit.workers c.in-Some-Edit.files) = c.in-Some-Edit.is ∙ ap Some c.in-Some-Edit.field-0-is in
    subst (λ asked. g.S.Source.calls c.edit.new.input ≤ g.S.Source.calls c.args.input.now + most_reads (option_map request_of asked)) (sym whole)
    (let few = c.edit.ensures.few_reads in omega (arith, few))

pub returns-in-Some-Trace-clause-few_reads : goal.returns-in-Some-Trace-clause-few_reads
returns-in-Some-Trace-clause-few_reads g c =
    let whole : c.args.asked ≡ Some (Asked.Trace c.in-Some-Trace.workers c.in-Some-Trace.order c.in-Some-Trace.stopped) = c.in-Some-Trace.is ∙ ap Some c.in-Some-Trace.field-0-is in
    subst (λ asked. g.S.Source.calls c.trace.new.input ≤ g.S.Source.calls c.args.input.now + most_reads (option_map request_of asked)) (sym whole)
    (let few = c.trace.ensures.few_reads in omega (arith, few))

pub returns-in-Some-Demo-clause-few_reads : goal.returns-in-Some-Demo-clause-few_reads
returns-in-Some-Demo-clause-few_reads g c = omega arith

pub returns-in-None-clause-few_reads : goal.returns-in-None-clause-few_reads
returns-in-None-clause-few_reads g c = omega arith
