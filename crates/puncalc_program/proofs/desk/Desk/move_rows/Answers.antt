use Rattle.std.proofs.Common.{sym, subst}
use Rattle.puncalc_program.specs.Desks.{Changes, DeskSeen, setup_kept}
use Rattle.puncalc_program.specs.Script.{rows_turn}
use Rattle.puncalc_program.proofs.Changing.{standing}
use Rattle.puncalc_program.proofs.Rowed.{rows_changes}
use Rattle.puncalc_program.proofs.desk.Desk.move_rows.Goals as goal

pub returns-clause-changes : goal.returns-clause-changes
returns-clause-changes c =
    let calc = c.self.inside.calc in
    let new = c.shift_rows.new.self in
    let last = setup_kept c.self.inside.kept in
    subst (λ (d : DeskSeen). Changes (rows_turn c.args.change d.standing) d.standing (standing new last) c.rows_answer.result) c.self.view_is
    (subst (λ r. Changes (rows_turn c.args.change (standing calc last)) (standing calc last) (standing new last) r) (sym c.rows_answer.ensures)
    (rows_changes calc new last c.args.change c.shift_rows.result c.shift_rows.ensures.ok c.shift_rows.ensures.pending c.shift_rows.ensures.fits c.shift_rows.ensures.fault))
