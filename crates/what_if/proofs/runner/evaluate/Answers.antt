use Rattle.std.proofs.Common.{sym, ap, ◌∙◌, subst}
use Rattle.std.proofs.lemmas.Int.{to_z-of_z}
use Rattle.workbook_core.specs.Books.{IsWorkbook}
use Rattle.worker_machine.specs.Jobs.{shows}
use Rattle.demand_stack.specs.StackSeen.{StackSeen, at_first, pending_of}
use Rattle.what_if.proofs.Working.{again_formulas, cells_pending, cells_stored, number_low, some_cells, target_out, target_shows}
use Rattle.what_if.proofs.runner.evaluate.Goals as goal

pub apart-requires-clause-apart : goal.apart-requires-clause-apart
apart-requires-clause-apart c = target_out c.args.table.now c.requires.table c.args.stack.now c.requires.idle (sym c.number_of.ensures.number ∙ c.in_default.is)

pub restart-requires-clause-pending : goal.restart-requires-clause-pending
restart-requires-clause-pending c =
    let made = simp (to_z-of_z, c.ranges.number) at c.book_with.ensures in
    rw (made, c.requires.idle.cells) (cells_pending c.args.table.now c.requires.table c.args.number (some_cells c.args.table.now c.requires.table c.args.stack.now c.in-Some.cell c.requires.idle (sym c.number_of.ensures.number ∙ c.in-Some.is)))

pub restart-requires-clause-stored : goal.restart-requires-clause-stored
restart-requires-clause-stored c =
    let made = simp (to_z-of_z, c.ranges.number) at c.book_with.ensures in
    rw (made, c.requires.idle.cells) (cells_stored c.args.table.now c.requires.table c.results.result.now.entries c.args.number (subst IsWorkbook c.book.ensures c.tell_cells.ensures) c.results.ensures)

pub restart-requires-clause-formulas : goal.restart-requires-clause-formulas
restart-requires-clause-formulas c =
    let made = simp (to_z-of_z, c.ranges.number) at c.book_with.ensures in
    rw made (again_formulas c.args.table.now c.requires.table c.args.stack.now c.args.number c.requires.idle)

pub evaluate-requires-clause-there : goal.evaluate-requires-clause-there
evaluate-requires-clause-there c = rw c.restart.ensures (number_low c.args.table.now c.requires.table c.args.stack.now c.in-Some.cell (sym c.number_of.ensures.number ∙ c.in-Some.is))

pub returns-clause-shown : goal.returns-clause-shown
returns-clause-shown c =
    let made = simp (to_z-of_z, c.ranges.number) at c.book_with.ensures in
    let again = c.restart.ensures ∙ ap (λ w. at_first w c.args.stack.now.cells c.args.stack.now.first) made in
    c.evaluate.ensures.shown ∙ ap (λ (s : StackSeen). shows (pending_of s) c.in-Some.cell) again
    ∙ target_shows c.args.table.now c.requires.table c.args.stack.now c.args.number c.in-Some.cell (sym c.number_of.ensures.number ∙ c.in-Some.is)
