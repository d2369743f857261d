use Rattle.std.proofs.Common.{◌≡◌, suc, ◌+◌, ◌-◌, ◌==◌, Ok, take, drop, ap, sym, subst, ◌∙◌, arith}
use Rattle.std.specs.Prelude.{Err}
use Rattle.std.specs.List.{position_or_len}
use Rattle.std.proofs.lemmas.Result.{err_from_is_err_and}
use Rattle.edit_script.specs.Lines.{line_of}
use Rattle.formula_grammar.specs.Reading.{IsReading}
use Rattle.puncalc_program.specs.Desks.{Makes}
use Rattle.puncalc_program.specs.Script.{lines_of, script_from, turn_of}
use Rattle.puncalc_program.specs.Writing.{sunk}
use Rattle.puncalc_program.proofs.Cuts.{line_within, no_line, slice_from}
use Rattle.puncalc_program.proofs.Scripts.{Follows, cause_made, ended, goes_on, next_follows, refusal_stops, refused, stopped}
use Rattle.puncalc_program.proofs.desk.Desk.run_script.Goals as goal

pub overflow_add-end : goal.overflow_add-end
overflow_add-end g c =
    let within = line_within c.args.script.now c.loop-start.start c.loop-start-test.true in
    let is : c.line_length.result ≡ position_or_len (λ b. b == 10) (drop c.loop-start.start c.args.script.now) = c.line_length.ensures ∙ ap (position_or_len (λ b. b == 10)) (slice_from c.args.script.now c.loop-start.start) in
    let few = c.requires.few in omega (arith, within, is, few)

pub slice_bounds-line-end : goal.slice_bounds-line-end
slice_bounds-line-end g c =
    let within = line_within c.args.script.now c.loop-start.start c.loop-start-test.true in
    let is : c.line_length.result ≡ position_or_len (λ b. b == 10) (drop c.loop-start.start c.args.script.now) = c.line_length.ensures ∙ ap (position_or_len (λ b. b == 10)) (slice_from c.args.script.now c.loop-start.start) in
    omega (arith, within, is)

pub returns-in_err-why-clause-runs : goal.returns-in_err-why-clause-runs
returns-in_err-why-clause-runs g c = λ read right.
    let start = c.loop-start.start in
    let st = c.loop-start.self.standing in
    let names = c.args.self.now.names in
    let workers = c.args.workers.now.count in
    let line = take (start + c.line_length.result - start) (drop start c.args.script.now) in
    let due = script_from read names workers 1 c.args.self.now.standing (lines_of c.args.script.now) in
    let first = sunk g.K.Sink.written g.K.Sink.faults g.K.Sink.calls c.args.out.now in
    let before = sunk g.K.Sink.written g.K.Sink.faults g.K.Sink.calls c.loop-start.out in
    let now = sunk g.K.Sink.written g.K.Sink.faults g.K.Sink.calls c.read_and_run.new.out in
    let p = err_from_is_err_and c.from_residual.result c.from_residual.ensures.1 in
    rw (p.1, p.2)
    (stopped read names workers (c.loop-start.number + 1) st c.read_and_run.new.self.standing line (lines_of (drop (start + c.line_length.result + 1) c.args.script.now)) due first before now c.in_err-why.field-0.0
    (next_follows read names workers (c.loop-start.number + 1) st c.args.script.now start c.line_length.result due first before c.loop-start-test.true c.line_length.ensures (c.loop-start.invariant.follows read right))
    (subst (λ ns. Makes (turn_of read ns workers (line_of ns line) st) st c.read_and_run.new.self.standing before now (Err c.in_err-why.field-0.0)) c.loop-start.invariant.names
    (c.in_err-why.ensures.makes read (subst (λ ns. IsReading ns read) (sym c.loop-start.invariant.names) right))))

pub returns-in_err-why-clause-causes : goal.returns-in_err-why-clause-causes
returns-in_err-why-clause-causes g c =
    let there = c.law_one_reading.ensures.there c.loop-start.self.names in
    let p = err_from_is_err_and c.from_residual.result c.from_residual.ensures.1 in
    rw (p.1, p.2)
    (cause_made c.in_err-why.field-0.0 (sunk g.K.Sink.written g.K.Sink.faults g.K.Sink.calls c.args.out.now) (sunk g.K.Sink.written g.K.Sink.faults g.K.Sink.calls c.loop-start.out) (sunk g.K.Sink.written g.K.Sink.faults g.K.Sink.calls c.read_and_run.new.out) c.loop-start.invariant.faults (c.in_err-why.ensures.makes there.0 there.1).1)

pub returns-in-Some-clause-runs : goal.returns-in-Some-clause-runs
returns-in-Some-clause-runs g c = λ read right.
    let start = c.loop-start.start in
    let st = c.loop-start.self.standing in
    let names = c.args.self.now.names in
    let workers = c.args.workers.now.count in
    let line = take (start + c.line_length.result - start) (drop start c.args.script.now) in
    let due = script_from read names workers 1 c.args.self.now.standing (lines_of c.args.script.now) in
    let first = sunk g.K.Sink.written g.K.Sink.faults g.K.Sink.calls c.args.out.now in
    let before = sunk g.K.Sink.written g.K.Sink.faults g.K.Sink.calls c.loop-start.out in
    let now = sunk g.K.Sink.written g.K.Sink.faults g.K.Sink.calls c.read_and_run.new.out in
    refused read names workers (c.loop-start.number + 1) st c.read_and_run.new.self.standing line c.in-Some.why (lines_of (drop (start + c.line_length.result + 1) c.args.script.now)) due first before now (sunk g.K.Sink.written g.K.Sink.faults g.K.Sink.calls c.refuse_line.new.out) c.refuse_line.result
    (next_follows read names workers (c.loop-start.number + 1) st c.args.script.now start c.line_length.result due first before c.loop-start-test.true c.line_length.ensures (c.loop-start.invariant.follows read right))
    (subst (λ answer. Makes (turn_of read names workers (line_of names line) st) st c.read_and_run.new.self.standing before now (Ok answer)) c.in-Some.is
    (subst (λ ns. Makes (turn_of read ns workers (line_of ns line) st) st c.read_and_run.new.self.standing before now (Ok c.in_ok-why.field-0)) c.loop-start.invariant.names
    (c.in_ok-why.ensures.makes read (subst (λ ns. IsReading ns read) (sym c.loop-start.invariant.names) right))))
    c.refuse_line.ensures.writes c.refuse_line.ensures.status

pub returns-in-Some-clause-causes : goal.returns-in-Some-clause-causes
returns-in-Some-clause-causes g c =
    let there = c.law_one_reading.ensures.there c.loop-start.self.names in
    refusal_stops _ (sunk g.K.Sink.written g.K.Sink.faults g.K.Sink.calls c.args.out.now) (sunk g.K.Sink.written g.K.Sink.faults g.K.Sink.calls c.read_and_run.new.out) (sunk g.K.Sink.written g.K.Sink.faults g.K.Sink.calls c.refuse_line.new.out) c.refuse_line.result ((c.in_ok-why.ensures.makes there.0 there.1).0.faults ∙ c.loop-start.invariant.faults) c.refuse_line.ensures.writes

pub loop-start-preserved : goal.loop-start-preserved
loop-start-preserved g c =
    let start = c.loop-start.start in
    let st = c.loop-start.self.standing in
    let names = c.args.self.now.names in
    let workers = c.args.workers.now.count in
    let line = take (start + c.line_length.result - start) (drop start c.args.script.now) in
    let rest = lines_of (drop (start + c.line_length.result + 1) c.args.script.now) in
    let first = sunk g.K.Sink.written g.K.Sink.faults g.K.Sink.calls c.args.out.now in
    let before = sunk g.K.Sink.written g.K.Sink.faults g.K.Sink.calls c.loop-start.out in
    let now = sunk g.K.Sink.written g.K.Sink.faults g.K.Sink.calls c.read_and_run.new.out in
    let there = c.law_one_reading.ensures.there c.loop-start.self.names in
    let next : suc (c.loop-start.number + 1) ≡ c.loop-start.number + 1 + 1 = omega arith in
    let within = line_within c.args.script.now start c.loop-start-test.true in
    let is : c.line_length.result ≡ position_or_len (λ b. b == 10) (drop start c.args.script.now) = c.line_length.ensures ∙ ap (position_or_len (λ b. b == 10)) (slice_from c.args.script.now start) in
    let few = c.loop-start.invariant.few in
    record {
      follows = λ read right.
          let due = script_from read names workers 1 c.args.self.now.standing (lines_of c.args.script.now) in
          subst (λ number. Follows due (script_from read names workers number c.read_and_run.new.self.standing rest) first now) next
          (goes_on read names workers (c.loop-start.number + 1) st c.read_and_run.new.self.standing line rest due first before now
          (next_follows read names workers (c.loop-start.number + 1) st c.args.script.now start c.line_length.result due first before c.loop-start-test.true c.line_length.ensures (c.loop-start.invariant.follows read right))
          (subst (λ answer. Makes (turn_of read names workers (line_of names line) st) st c.read_and_run.new.self.standing before now (Ok answer)) c.in_default.is
          (subst (λ ns. Makes (turn_of read ns workers (line_of ns line) st) st c.read_and_run.new.self.standing before now (Ok c.in_ok-why.field-0)) c.loop-start.invariant.names
          (c.in_ok-why.ensures.makes read (subst (λ ns. IsReading ns read) (sym c.loop-start.invariant.names) right)))));
      names = c.in_ok-why.ensures.names ∙ c.loop-start.invariant.names;
      within = omega (arith, within, is);
      few = omega (arith, few);
      faults = (c.in_ok-why.ensures.makes there.0 there.1).0.faults ∙ c.loop-start.invariant.faults;
    }

pub returns-clause-runs : goal.returns-clause-runs
returns-clause-runs g c = λ read right.
    let names = c.args.self.now.names in
    let workers = c.args.workers.now.count in
    let due = script_from read names workers 1 c.args.self.now.standing (lines_of c.args.script.now) in
    let first = sunk g.K.Sink.written g.K.Sink.faults g.K.Sink.calls c.args.out.now in
    let now = sunk g.K.Sink.written g.K.Sink.faults g.K.Sink.calls c.loop-start.out in
    ended read names workers (c.loop-start.number + 1) c.loop-start.self.standing due first now
    (subst (λ lines. Follows due (script_from read names workers (c.loop-start.number + 1) c.loop-start.self.standing lines) first now) (no_line c.args.script.now c.loop-start.start c.loop-start-test.false) (c.loop-start.invariant.follows read right))
