use Rattle.std.proofs.Common.{Some, [], subst}
use Rattle.workbook_core.specs.Books.{IsNextCell, IsLastCell}
use Rattle.workbook_core.specs.Held.{cells_in}
use Rattle.workbook_core.proofs.Ends.{next_is, last_is}
use Rattle.workbook_core.proofs.cells.CellMap.next_after.Goals as goal

pub returns-in-Some-clause-some : goal.returns-in-Some-clause-some
returns-in-Some-clause-some c = subst (λ es. IsNextCell (cells_in [] es) (Some c.args.at) c.in-Some.next.now) c.self.view_is
    (next_is c.self.inside.by_row c.args.at c.range.result c.next.new.self (c.in-Some.next.now, c.in-Some.field-0-1.now) (c.range.ensures.in_range tt) c.in-Some.ensures.steps)

pub returns-in-None-clause-none : goal.returns-in-None-clause-none
returns-in-None-clause-none c = subst (λ es. IsLastCell (cells_in [] es) (Some c.args.at)) c.self.view_is
    (last_is c.self.inside.by_row c.args.at c.range.result (c.range.ensures.in_range tt) c.in-None.ensures.steps.0)
