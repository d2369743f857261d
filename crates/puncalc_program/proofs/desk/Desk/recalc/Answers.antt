use Rattle.std.proofs.Common.{◌≡◌, [], ◌∷◌, length, codes, ap, ◌∙◌, subst}
use Rattle.puncalc_program.specs.Script.{count_line}
use Rattle.puncalc_program.specs.Writing.{sunk, WritesAll}
use Rattle.puncalc_program.proofs.desk.Desk.recalc.Goals as goal

pub returns-clause-makes : goal.returns-clause-makes
returns-clause-makes g c =
    let text : c.as_bytes.result.now ≡ count_line (codes "recalculated") (length c.args.self.now.standing.pending) =
    c.as_bytes.ensures.value ∙ c.in_ok-line.ensures ∙ ap (count_line (codes "recalculated")) c.in_ok-count.ensures.count in (
      subst (λ p. WritesAll (p ∷ []) (sunk g.K.Sink.written g.K.Sink.faults g.K.Sink.calls c.args.out.now) (sunk g.K.Sink.written g.K.Sink.faults g.K.Sink.calls c.put.new.out)) text c.in_ok-put.ensures,
      c.in_ok-count.ensures.done,
    )
