use Rattle.std.proofs.Common.{◌≡◌, map, length, codes, ap, subst, ◌∙◌}
use Rattle.std.proofs.lemmas.Result.{err_from_is_err_and}
use Rattle.cycle_finder.specs.Loops.{loops}
use Rattle.puncalc_program.specs.Desks.{DeskSeen}
use Rattle.puncalc_program.specs.Script.{Standing, count_line, loop_row}
use Rattle.puncalc_program.specs.Writing.{sunk, WritesPart}
use Rattle.puncalc_program.proofs.Scripts.{cause_made}
use Rattle.puncalc_program.proofs.Written.{first_part, rest_part}
use Rattle.puncalc_program.proofs.desk.Desk.list_cycles.Goals as goal

pub returns-in_err-put-clause-makes : goal.returns-in_err-put-clause-makes
returns-in_err-put-clause-makes g c =
    let before = sunk g.K.Sink.written g.K.Sink.faults g.K.Sink.calls c.args.out.now in
    let now = sunk g.K.Sink.written g.K.Sink.faults g.K.Sink.calls c.put.new.out in
    let found = loops c.args.self.now.standing.book in
    let same : c.in_ok-found.found.items ≡ found =
    c.in_ok-found.ensures ∙ ap (λ w. loops w.book) c.book.ensures ∙ ap (λ (d : DeskSeen). loops d.standing.book) c.self.view_is ∙ ap (λ (st : Standing). loops st.book) c.in_ok-recalculate.ensures.done in
    let many : c.len.result ≡ length found = c.len.ensures ∙ c.in_ok-found.found.ok.0 ∙ ap length same in
    let p = err_from_is_err_and c.from_residual-in_err-put.result c.from_residual-in_err-put.ensures.1 in
    rw (p.1, p.2) (
      first_part (count_line (codes "cycles") (length found)) c.as_bytes.result.now (map (loop_row c.args.self.now.names) found) before now (c.as_bytes.ensures.value ∙ c.in_ok-line.ensures ∙ ap (count_line (codes "cycles")) many) c.in_err-put.ensures.0,
      c.in_err-put.ensures.1,
    )

pub returns-in_err-write_loops-clause-makes : goal.returns-in_err-write_loops-clause-makes
returns-in_err-write_loops-clause-makes g c =
    let before = sunk g.K.Sink.written g.K.Sink.faults g.K.Sink.calls c.args.out.now in
    let between = sunk g.K.Sink.written g.K.Sink.faults g.K.Sink.calls c.put.new.out in
    let now = sunk g.K.Sink.written g.K.Sink.faults g.K.Sink.calls c.write_loops.new.out in
    let found = loops c.args.self.now.standing.book in
    let same : c.in_ok-found.found.items ≡ found =
    c.in_ok-found.ensures ∙ ap (λ w. loops w.book) c.book.ensures ∙ ap (λ (d : DeskSeen). loops d.standing.book) c.self.view_is ∙ ap (λ (st : Standing). loops st.book) c.in_ok-recalculate.ensures.done in
    let many : c.len.result ≡ length found = c.len.ensures ∙ c.in_ok-found.found.ok.0 ∙ ap length same in
    let rows : map (loop_row c.recalculate.new.self.names) c.deref.result.now ≡ map (loop_row c.args.self.now.names) found =
    ap (map (loop_row c.recalculate.new.self.names)) (c.deref.ensures.value ∙ same) ∙ ap (λ names. map (loop_row names) found) c.in_ok-recalculate.ensures.names in
    let p = err_from_is_err_and c.from_residual-in_err-write_loops.result c.from_residual-in_err-write_loops.ensures.1 in
    rw (p.1, p.2) (
      rest_part (count_line (codes "cycles") (length found)) c.as_bytes.result.now (map (loop_row c.args.self.now.names) found) before between now (c.as_bytes.ensures.value ∙ c.in_ok-line.ensures ∙ ap (count_line (codes "cycles")) many) c.in_ok-put.ensures
          (subst (λ ps. WritesPart ps between now) rows c.in_err-write_loops.ensures.0),
      cause_made c.in_err-write_loops.field-0.0 before between now c.in_ok-put.ensures.faults c.in_err-write_loops.ensures.1,
    )
