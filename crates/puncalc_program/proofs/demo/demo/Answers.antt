use Rattle.std.proofs.Common.{Ok, subst}
use Rattle.std.proofs.lemmas.Result.{err_from_is_err_and}
use Rattle.puncalc_program.specs.Demo.{generated}
use Rattle.puncalc_program.specs.Desks.{Changes}
use Rattle.puncalc_program.specs.Output.{demo_output, the_names}
use Rattle.puncalc_program.specs.Writing.{sunk}
use Rattle.puncalc_program.proofs.Demos.{demo_stops, memory_stops, no_memory}
use Rattle.puncalc_program.proofs.demo.demo.Goals as goal

pub returns-in_err-why-clause-answers : goal.returns-in_err-why-clause-answers
returns-in_err-why-clause-answers g c = λ read right.
    let p = err_from_is_err_and c.from_residual-in_err-why.result c.from_residual-in_err-why.ensures.1 in
    rw (p.1, p.2)
    (no_memory (demo_output read c.args.workers.now.count c.args.count) (sunk g.K.Sink.written g.K.Sink.faults g.K.Sink.calls c.args.out.now) c.args.kept.now c.in_err-why.field-0.0 (c.in_err-why.ensures.made (read the_names) (right the_names)))

pub returns-in_err-why-clause-causes : goal.returns-in_err-why-clause-causes
returns-in_err-why-clause-causes g c =
    let there = c.law_one_reading.ensures.there the_names in
    let p = err_from_is_err_and c.from_residual-in_err-why.result c.from_residual-in_err-why.ensures.1 in
    rw (p.1, p.2) (memory_stops (sunk g.K.Sink.written g.K.Sink.faults g.K.Sink.calls c.args.out.now) c.in_err-why.field-0.0 (c.in_err-why.ensures.made there.0 there.1))

pub returns-in-Some-clause-answers : goal.returns-in-Some-clause-answers
returns-in-Some-clause-answers g c = λ read right.
    let due = generated (read the_names) the_names c.args.count in
    let old = c.new-desk.result.standing in
    let now = c.generate.new.self.standing in
    demo_stops (read the_names) the_names c.args.workers.now.count due old now c.in-Some.why (sunk g.K.Sink.written g.K.Sink.faults g.K.Sink.calls c.args.out.now) (sunk g.K.Sink.written g.K.Sink.faults g.K.Sink.calls c.refuse_demo.new.out) c.args.kept.now c.refuse_demo.result
    (subst (λ answer. Changes due old now (Ok answer)) c.in-Some.is (c.in_ok-why.ensures.made (read the_names) (right the_names))) c.refuse_demo.ensures.writes c.refuse_demo.ensures.status c.requires.kept
