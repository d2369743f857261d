use Rattle.std.proofs.Common.{length, ◌∙◌, arith}
use Rattle.std.proofs.lemmas.Int.{to_z-of_z}
use Rattle.std.proofs.lemmas.Result.{err_from_is_err_and}
use Rattle.cell_values.specs.Areas.{numbers_from}
use Rattle.cell_values.proofs.Walking.{length-numbers_from}
use Rattle.puncalc_program.specs.Script.{scenario_row}
use Rattle.puncalc_program.specs.Writing.{sunk}
use Rattle.puncalc_program.proofs.Scripts.{cause_made}
use Rattle.puncalc_program.proofs.Tabled.{counted_more, counted_part}
use Rattle.puncalc_program.proofs.Written.{elements_all, elements_part}
use Rattle.puncalc_program.proofs.desk.Desk.write_table.Goals as goal

pub returns-in_err-row : goal.returns-in_err-row
returns-in_err-row g c =
    let before = sunk g.K.Sink.written g.K.Sink.faults g.K.Sink.calls c.args.out.now in
    let now = sunk g.K.Sink.written g.K.Sink.faults g.K.Sink.calls c.loop-k.out in
    let p = err_from_is_err_and c.from_residual.result c.from_residual.ensures.1 in
    rw (p.1, p.2) (elements_part (scenario_row c.args.self.now.standing.book c.args.at c.args.low c.args.target) (numbers_from 0 (length c.args.shown.now)) c.loop-k.k before now (simp (to_z-of_z, c.ranges.low) at c.loop-k.invariant), tt)

pub returns-in_err-put : goal.returns-in_err-put
returns-in_err-put g c =
    let before = sunk g.K.Sink.written g.K.Sink.faults g.K.Sink.calls c.args.out.now in
    let now = sunk g.K.Sink.written g.K.Sink.faults g.K.Sink.calls c.loop-k.out in
    let next = sunk g.K.Sink.written g.K.Sink.faults g.K.Sink.calls c.put.new.out in
    let p = err_from_is_err_and c.from_residual-in_err-put.result c.from_residual-in_err-put.ensures.1 in
    rw (p.1, p.2) (
      counted_part (scenario_row c.args.self.now.standing.book c.args.at c.args.low c.args.target) (length c.args.shown.now) c.loop-k.k c.deref.result.now before now next c.loop-k-test.true
          (c.deref.ensures.value ∙ simp (to_z-of_z, c.ranges.low) at c.in_ok-row.ensures) (simp (to_z-of_z, c.ranges.low) at c.loop-k.invariant) c.in_err-put.ensures.0,
      cause_made c.in_err-put.field-0.0 before now next c.loop-k.invariant.faults c.in_err-put.ensures.1,
    )

pub loop-k-preserved : goal.loop-k-preserved
loop-k-preserved g c =
    let before = sunk g.K.Sink.written g.K.Sink.faults g.K.Sink.calls c.args.out.now in
    let now = sunk g.K.Sink.written g.K.Sink.faults g.K.Sink.calls c.loop-k.out in
    let next = sunk g.K.Sink.written g.K.Sink.faults g.K.Sink.calls c.put.new.out in
    counted_more _ (length c.args.shown.now) c.loop-k.k c.deref.result.now before now next c.loop-k-test.true
    (c.deref.ensures.value ∙ c.in_ok-row.ensures) c.loop-k.invariant c.in_ok-put.ensures

pub returns : goal.returns
returns g c =
    let before = sunk g.K.Sink.written g.K.Sink.faults g.K.Sink.calls c.args.out.now in
    let now = sunk g.K.Sink.written g.K.Sink.faults g.K.Sink.calls c.loop-k.out in
    let long = length-numbers_from 0 (length c.args.shown.now) in
    let over = c.loop-k-test.false in
    elements_all (scenario_row c.args.self.now.standing.book c.args.at c.args.low c.args.target) (numbers_from 0 (length c.args.shown.now)) c.loop-k.k before now (omega arith) (simp (to_z-of_z, c.ranges.low) at c.loop-k.invariant)
