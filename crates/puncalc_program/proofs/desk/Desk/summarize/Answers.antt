use Rattle.std.proofs.Common.{◌≡◌, [], ◌∷◌, subst, ◌∙◌}
use Rattle.puncalc_program.specs.Demo.{summary_line}
use Rattle.puncalc_program.specs.Writing.{sunk, Writes}
use Rattle.puncalc_program.proofs.Demos.{summary_is}
use Rattle.puncalc_program.proofs.desk.Desk.summarize.Goals as goal

pub returns-clause-writes : goal.returns-clause-writes
returns-clause-writes g c =
    let st = c.args.self.now.standing in
    let text : c.as_bytes.result.now ≡ summary_line st =
    c.as_bytes.ensures.value ∙ c.in_ok-line.ensures ∙ summary_is c.args.workers.now.count st c.recalculate.new.self.standing c.in_ok-pending.pending c.in_ok-pending.ensures.count c.in_ok-pending.ensures.done in
    subst (λ p. Writes (p ∷ []) (sunk g.K.Sink.written g.K.Sink.faults g.K.Sink.calls c.args.out.now) (sunk g.K.Sink.written g.K.Sink.faults g.K.Sink.calls c.put.new.out) c.put.result) text c.put.ensures
