use Rattle.std.proofs.Common.{subst, ◌∙◌}
use Rattle.std.proofs.lemmas.Result.{err_from_is_err_and}
use Rattle.puncalc_program.specs.Demo.{last_part, size_line, summary_line, with_one}
use Rattle.puncalc_program.specs.Output.{the_names}
use Rattle.puncalc_program.specs.Run.{Answers}
use Rattle.puncalc_program.specs.Script.{recalculated}
use Rattle.puncalc_program.specs.Writing.{sunk}
use Rattle.puncalc_program.proofs.Demos.{both_written, first_stops, second_stops, stops_behind}
use Rattle.puncalc_program.proofs.demo.tell.Goals as goal

pub returns-in_err-write_size-clause-answers : goal.returns-in_err-write_size-clause-answers
returns-in_err-write_size-clause-answers g c = λ read right.
    let st = c.args.desk.standing in
    let after = recalculated c.args.workers.now.count st in
    let a = sunk g.K.Sink.written g.K.Sink.faults g.K.Sink.calls c.args.out.now in
    let b = sunk g.K.Sink.written g.K.Sink.faults g.K.Sink.calls c.write_size.new.out in
    let p = err_from_is_err_and c.from_residual.result c.from_residual.ensures.1 in
    rw (p.1, p.2) (first_stops (size_line st.book) (summary_line st) (last_part c.args.workers.now.count after (with_one read the_names after)) a b c.args.kept.now c.in_err-write_size.field-0.0 c.in_err-write_size.ensures.0 c.in_err-write_size.ensures.1)

pub returns-in_err-summarize-clause-answers : goal.returns-in_err-summarize-clause-answers
returns-in_err-summarize-clause-answers g c = λ read right.
    let st = c.args.desk.standing in
    let after = recalculated c.args.workers.now.count st in
    let a = sunk g.K.Sink.written g.K.Sink.faults g.K.Sink.calls c.args.out.now in
    let b = sunk g.K.Sink.written g.K.Sink.faults g.K.Sink.calls c.write_size.new.out in
    let d = sunk g.K.Sink.written g.K.Sink.faults g.K.Sink.calls c.summarize.new.out in
    let p = err_from_is_err_and c.from_residual-in_err-summarize.result c.from_residual-in_err-summarize.ensures.1 in
    rw (p.1, p.2) (second_stops (size_line st.book) (summary_line st) (last_part c.args.workers.now.count after (with_one read the_names after)) a b d c.args.kept.now c.in_err-summarize.field-0.0 c.in_ok-write_size.ensures c.in_err-summarize.ensures.writes.0 c.in_err-summarize.ensures.writes.1)

pub returns-clause-answers : goal.returns-clause-answers
returns-clause-answers g c = λ read right.
    let st = c.args.desk.standing in
    let workers = c.args.workers.now.count in
    let after = recalculated workers st in
    let a = sunk g.K.Sink.written g.K.Sink.faults g.K.Sink.calls c.args.out.now in
    let b = sunk g.K.Sink.written g.K.Sink.faults g.K.Sink.calls c.write_size.new.out in
    let d = sunk g.K.Sink.written g.K.Sink.faults g.K.Sink.calls c.summarize.new.out in
    let e = sunk g.K.Sink.written g.K.Sink.faults g.K.Sink.calls c.tell_last.new.out in
    both_written (size_line st.book) (summary_line st) (last_part workers after (with_one read the_names after)) a b d e c.tell_last.new.kept c.tell_last.result c.in_ok-write_size.ensures c.in_ok-summarize.ensures.writes
    (subst (λ st. Answers (last_part workers st (with_one read the_names st)) d e c.tell_last.new.kept c.tell_last.result) c.in_ok-summarize.ensures.done (c.tell_last.ensures.answers read right)) c.tell_last.ensures.causes

pub returns-clause-causes : goal.returns-clause-causes
returns-clause-causes g c =
    let a = sunk g.K.Sink.written g.K.Sink.faults g.K.Sink.calls c.args.out.now in
    let d = sunk g.K.Sink.written g.K.Sink.faults g.K.Sink.calls c.summarize.new.out in
    let e = sunk g.K.Sink.written g.K.Sink.faults g.K.Sink.calls c.tell_last.new.out in
    stops_behind a d e c.tell_last.result (c.in_ok-summarize.ensures.writes.faults ∙ c.in_ok-write_size.ensures.faults) c.tell_last.ensures.causes
