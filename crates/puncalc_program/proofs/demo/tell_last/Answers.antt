use Rattle.std.proofs.Common.{Ok, subst}
use Rattle.std.proofs.lemmas.Result.{err_from_is_err_and}
use Rattle.puncalc_program.specs.Demo.{last_part, with_one}
use Rattle.puncalc_program.specs.Desks.{Changes, KeptIs}
use Rattle.puncalc_program.specs.Output.{the_names}
use Rattle.puncalc_program.specs.Script.{Standing}
use Rattle.puncalc_program.specs.Writing.{sunk}
use Rattle.puncalc_program.proofs.Demos.{last_refused, last_stops, last_told, memory_stops, no_memory}
use Rattle.puncalc_program.proofs.demo.tell_last.Goals as goal

pub returns-in_err-why-clause-answers : goal.returns-in_err-why-clause-answers
returns-in_err-why-clause-answers g c = λ read right.
    let p = err_from_is_err_and c.from_residual.result c.from_residual.ensures.1 in
    rw (p.1, p.2)
    (no_memory (last_part c.args.workers.now.count c.args.desk.standing (with_one read the_names c.args.desk.standing)) (sunk g.K.Sink.written g.K.Sink.faults g.K.Sink.calls c.args.out.now) c.args.kept.now c.in_err-why.field-0.0
    (c.in_err-why.ensures.made read right))

pub returns-in_err-why-clause-causes : goal.returns-in_err-why-clause-causes
returns-in_err-why-clause-causes g c =
    let there = c.law_one_reading.ensures.there the_names in
    let p = err_from_is_err_and c.from_residual.result c.from_residual.ensures.1 in
    rw (p.1, p.2) (memory_stops (sunk g.K.Sink.written g.K.Sink.faults g.K.Sink.calls c.args.out.now) c.in_err-why.field-0.0 (c.in_err-why.ensures.made there.0 there.1))

pub returns-in-Some-clause-answers : goal.returns-in-Some-clause-answers
returns-in-Some-clause-answers g c = λ read right.
    let st = c.args.desk.standing in
    let now = c.put_one.new.self.standing in
    let due = with_one read the_names st in
    last_refused c.args.workers.now.count st now due c.in-Some.why (sunk g.K.Sink.written g.K.Sink.faults g.K.Sink.calls c.args.out.now) (sunk g.K.Sink.written g.K.Sink.faults g.K.Sink.calls c.refuse_demo.new.out) c.into_kept.result c.refuse_demo.result
    (subst (λ answer. Changes due st now (Ok answer)) c.in-Some.is (c.in_ok-why.ensures.made read right)) c.refuse_demo.ensures.writes c.refuse_demo.ensures.status c.into_kept.ensures

pub returns-in_err-summarize-clause-answers : goal.returns-in_err-summarize-clause-answers
returns-in_err-summarize-clause-answers g c = λ read right.
    let st = c.args.desk.standing in
    let now = c.put_one.new.self.standing in
    let due = with_one read the_names st in
    let p = err_from_is_err_and c.from_residual-in_err-summarize.result c.from_residual-in_err-summarize.ensures.1 in
    rw (p.1, p.2)
    (last_stops c.args.workers.now.count st now due (sunk g.K.Sink.written g.K.Sink.faults g.K.Sink.calls c.args.out.now) (sunk g.K.Sink.written g.K.Sink.faults g.K.Sink.calls c.summarize.new.out) c.args.kept.now c.in_err-summarize.field-0.0
    (subst (λ answer. Changes due st now (Ok answer)) c.in_default.is (c.in_ok-why.ensures.made read right)) c.in_err-summarize.ensures.writes.0 c.in_err-summarize.ensures.writes.1)

pub returns-clause-answers : goal.returns-clause-answers
returns-clause-answers g c = λ read right.
    let workers = c.args.workers.now.count in
    let st = c.args.desk.standing in
    let now = c.put_one.new.self.standing in
    let due = with_one read the_names st in
    last_told workers st now due (sunk g.K.Sink.written g.K.Sink.faults g.K.Sink.calls c.args.out.now) (sunk g.K.Sink.written g.K.Sink.faults g.K.Sink.calls c.summarize.new.out) c.into_kept-2.result
    (subst (λ answer. Changes due st now (Ok answer)) c.in_default.is (c.in_ok-why.ensures.made read right)) c.in_ok-summarize.ensures.writes
    (subst (λ (s : Standing). KeptIs s.last c.into_kept-2.result) c.in_ok-summarize.ensures.done c.into_kept-2.ensures)
