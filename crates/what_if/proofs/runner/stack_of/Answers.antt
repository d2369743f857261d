use Rattle.std.proofs.Common.{length, sym, ap, ◌∙◌, subst, rules, SFits, arith}
use Rattle.std.proofs.lemmas.Int.{to_z-of_z}
use Rattle.std.specs.Int.{w128}
use Rattle.workbook_core.specs.Books.{IsWorkbook}
use Rattle.demand_stack.specs.StackSeen.{at_first}
use Rattle.what_if.specs.Tables.{IsIdle}
use Rattle.what_if.proofs.Working.{cells_pending, cells_stored, first_idle}
use Rattle.what_if.proofs.runner.stack_of.Goals as goal

pub new-requires-clause-pending : goal.new-requires-clause-pending
new-requires-clause-pending c =
    let fits : SFits w128 c.args.table.now.low = search rules in
    let made = simp (to_z-of_z, fits) at c.book_with.ensures in
    rw made (cells_pending c.args.table.now c.requires c.args.table.now.low (λ e. let long = ap length e in let told = c.is_empty.ensures in let test = c.if-is_empty.false in grind (arith, long, told, test)))

pub new-requires-clause-stored : goal.new-requires-clause-stored
new-requires-clause-stored c =
    let fits : SFits w128 c.args.table.now.low = search rules in
    let made = simp (to_z-of_z, fits) at c.book_with.ensures in
    rw made (cells_stored c.args.table.now c.requires c.results.result.now.entries c.args.table.now.low (subst IsWorkbook c.book.ensures c.tell_cells.ensures) c.results.ensures)

pub returns : goal.returns
returns c =
    let fits : SFits w128 c.args.table.now.low = search rules in
    let made = simp (to_z-of_z, fits) at c.book_with.ensures in
    subst (IsIdle c.args.table.now) (sym (c.in_ok-stack.ensures ∙ ap (λ w. at_first w c.args.table.now.cells.now 0) made)) (first_idle c.args.table.now c.requires c.args.table.now.low 0)
