use Rattle.std.proofs.Common.{sym, ◌∙◌, subst}
use Rattle.std.proofs.lemmas.Int.{to_z-of_z}
use Rattle.workbook_core.specs.Books.{IsWorkbook}
use Rattle.what_if.proofs.Working.{number_shown, same_shown}
use Rattle.what_if.proofs.table.Table.apart.Goals as goal

pub returns-then-eq-clause-shown : goal.returns-then-eq-clause-shown
returns-then-eq-clause-shown c = simp (to_z-of_z, c.ranges.number) (number_shown c.args.self.now c.requires.table c.args.number (subst IsWorkbook c.book.ensures c.tell_cells.ensures) (sym c.eq.ensures ∙ c.if-eq.true))

pub returns-else-eq-clause-shown : goal.returns-else-eq-clause-shown
returns-else-eq-clause-shown c = same_shown c.args.self.now c.requires.table c.args.number c.shown.result (sym c.eq.ensures ∙ c.if-eq.false) c.requires.apart c.shown.ensures.shown
