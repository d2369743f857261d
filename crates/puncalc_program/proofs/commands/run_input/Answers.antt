use Rattle.std.proofs.Common.{◌≡◌, ◌≤◌, ◌⊎◌, inr, length, refl, codes, ap, arith}
use Rattle.puncalc_program.specs.declared.script.TheConstants.{SCRIPT_BYTES}
use Rattle.puncalc_program.specs.Refusals.{refusal_line}
use Rattle.puncalc_program.specs.Writing.{sunk}
use Rattle.puncalc_program.proofs.Ends.{script_told, script_unread, unread_status, unread_stops}
use Rattle.puncalc_program.proofs.commands.run_input.Goals as goal

pub returns-in-Ok-clause-answers : goal.returns-in-Ok-clause-answers
returns-in-Ok-clause-answers g c =
    let few : length c.in-Ok.script.items ≤ SCRIPT_BYTES = (let size = c.deref.ensures.len in let same = ap length c.deref.ensures.value in let within = c.in-Ok.ensures.within in omega (arith, size, same, within)) in
    script_told (g.S.Source.left c.args.input.now) c.in-Ok.script.items c.deref.result.now c.args.book.names c.args.workers.now.count c.args.book.book (sunk g.K.Sink.written g.K.Sink.faults g.K.Sink.calls c.args.out.now) (sunk g.K.Sink.written g.K.Sink.faults g.K.Sink.calls c.run_script.new.out) c.run_script.new.kept c.run_script.result
    c.in-Ok.ensures.all c.deref.ensures.value few c.run_script.ensures.answers

pub returns-in-Err-clause-answers : goal.returns-in-Err-clause-answers
returns-in-Err-clause-answers g c =
    script_unread (g.S.Source.left c.args.input.now) c.args.book.names c.args.workers.now.count c.args.book.book (sunk g.K.Sink.written g.K.Sink.faults g.K.Sink.calls c.args.out.now) (sunk g.K.Sink.written g.K.Sink.faults g.K.Sink.calls c.refuse_input.new.out) c.args.kept.now c.in-Err.fault c.refuse_input.result
    c.in-Err.ensures.cause c.refuse_input.ensures c.requires.kept

pub returns-in-Err-clause-ended : goal.returns-in-Err-clause-ended
returns-in-Err-clause-ended g c =
    unread_status (λ n. (n ≡ 0) ⊎ (n ≡ 4)) 4 (refusal_line (codes "script: E6")) (sunk g.K.Sink.written g.K.Sink.faults g.K.Sink.calls c.args.out.now) (sunk g.K.Sink.written g.K.Sink.faults g.K.Sink.calls c.refuse_input.new.out) c.in-Err.fault c.refuse_input.result c.refuse_input.ensures (inr refl)

pub returns-in-Err-clause-causes : goal.returns-in-Err-clause-causes
returns-in-Err-clause-causes g c =
    unread_stops 4 (refusal_line (codes "script: E6")) (sunk g.K.Sink.written g.K.Sink.faults g.K.Sink.calls c.args.out.now) (sunk g.K.Sink.written g.K.Sink.faults g.K.Sink.calls c.refuse_input.new.out) (g.S.Source.faults c.args.input.now) (g.S.Source.faults c.read_all.new.source) c.in-Err.fault c.refuse_input.result
    c.in-Err.ensures.counted c.refuse_input.ensures
