use Rattle.std.proofs.Common.{[], sym, subst}
use Rattle.formula_grammar.specs.Reading.{IsReading}
use Rattle.recalculation.specs.Edits.{IsEditOf}
use Rattle.workbook_core.specs.Books.{IsWorkbook}
use Rattle.puncalc_program.specs.Desks.{Changes, DeskSeen, edit_turn, setup_kept, shared_of}
use Rattle.puncalc_program.proofs.Changing.{edit_changes, shares_apart, standing}
use Rattle.puncalc_program.proofs.desk.Desk.change.Goals as goal

pub returns-clause-changes : goal.returns-clause-changes
returns-clause-changes c = λ read right.
    let calc = c.self.inside.calc in
    let new = c.edit-made.new.self in
    let last = setup_kept c.self.inside.kept in
    subst (λ (d : DeskSeen). Changes (edit_turn read d.names c.args.edit.now d.standing) d.standing (standing new last) c.edit_answer.result) c.self.view_is
    (subst (λ r. Changes (edit_turn read calc.shared.names c.args.edit.now (standing calc last)) (standing calc last) (standing new last) r) (sym c.edit_answer.ensures)
    (edit_changes calc new last c.args.edit.now c.edit-made.result (shares_apart calc.shared [] c.args.edit.now (subst (λ (d : DeskSeen). IsEditOf (shared_of d) c.args.edit.now) (sym c.self.view_is) c.requires)) (subst (λ w. IsWorkbook w) c.book.ensures c.tell_cells.ensures) (subst (λ w. IsWorkbook w) c.book-2.ensures c.tell_cells-2.ensures)
    c.edit-made.ensures.ok c.edit-made.ensures.pending c.edit-made.ensures.fault read (subst (λ (d : DeskSeen). IsReading d.names read) (sym c.self.view_is) right)))
