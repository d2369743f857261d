use Rattle.std.proofs.Common.{◌≡◌, [], ◌∷◌, string_bytes, ap, sym, subst, ◌∙◌}
use Rattle.std.specs.Prelude.{MatchOption}
use Rattle.std.proofs.lemmas.Result.{err_from_is_err_and}
use Rattle.trace_text.specs.TraceText.{trace_lines}
use Rattle.puncalc_program.specs.Writing.{sunk}
use Rattle.puncalc_program.proofs.Tracing.{cut_short, one_more, so_far}
use Rattle.puncalc_program.proofs.trace.write_steps.Goals as goal

pub returns-in_err-line : goal.returns-in_err-line
returns-in_err-line g c =
    let before = sunk g.K.Sink.written g.K.Sink.faults g.K.Sink.calls c.args.out.now in
    let now = sunk g.K.Sink.written g.K.Sink.faults g.K.Sink.calls c.loop-lines.out in
    let p = err_from_is_err_and c.from_residual-in_err-line.result c.from_residual-in_err-line.ensures.1 in
    rw (p.1, p.2) (so_far (trace_lines c.args.cells.now c.args.stopped.now c.args.steps.now) c.loop-lines.lines before now c.loop-lines.invariant, tt)

pub returns-in_err-put : goal.returns-in_err-put
returns-in_err-put g c =
    let before = sunk g.K.Sink.written g.K.Sink.faults g.K.Sink.calls c.args.out.now in
    let now = sunk g.K.Sink.written g.K.Sink.faults g.K.Sink.calls c.loop-lines.out in
    let next = sunk g.K.Sink.written g.K.Sink.faults g.K.Sink.calls c.put.new.out in
    let rest = c.next_line.new.self in
    let told : c.loop-lines.lines ≡ string_bytes c.in-Some.line ∷ rest =
    subst (λ o. MatchOption o ((c.loop-lines.lines ≡ []) × (rest ≡ [])) (λ line. c.loop-lines.lines ≡ string_bytes line ∷ rest)) c.in-Some.is c.in_ok-line.ensures.line in
    let p = err_from_is_err_and c.from_residual-in_err-put.result c.from_residual-in_err-put.ensures.1 in
    rw (p.1, p.2)
    (cut_short (trace_lines c.args.cells.now c.args.stopped.now c.args.steps.now) c.loop-lines.lines rest c.as_bytes.result.now before now next c.in_err-put.field-0.0 (told ∙ ap (λ t. t ∷ rest) (sym c.as_bytes.ensures.value)) c.loop-lines.invariant
    c.in_err-put.ensures.0 c.in_err-put.ensures.1)

pub loop-lines-preserved : goal.loop-lines-preserved
loop-lines-preserved g c =
    let before = sunk g.K.Sink.written g.K.Sink.faults g.K.Sink.calls c.args.out.now in
    let now = sunk g.K.Sink.written g.K.Sink.faults g.K.Sink.calls c.loop-lines.out in
    let next = sunk g.K.Sink.written g.K.Sink.faults g.K.Sink.calls c.put.new.out in
    let rest = c.next_line.new.self in
    let told : c.loop-lines.lines ≡ string_bytes c.in-Some.line ∷ rest =
    subst (λ o. MatchOption o ((c.loop-lines.lines ≡ []) × (rest ≡ [])) (λ line. c.loop-lines.lines ≡ string_bytes line ∷ rest)) c.in-Some.is c.in_ok-line.ensures.line in
    one_more (trace_lines c.args.cells.now c.args.stopped.now c.args.steps.now) c.loop-lines.lines rest c.as_bytes.result.now before now next (told ∙ ap (λ t. t ∷ rest) (sym c.as_bytes.ensures.value)) c.loop-lines.invariant c.in_ok-put.ensures
