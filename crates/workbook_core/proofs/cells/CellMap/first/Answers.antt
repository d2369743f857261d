use Rattle.std.proofs.Common.{None, [], subst}
use Rattle.workbook_core.specs.Books.{IsNextCell}
use Rattle.workbook_core.specs.Held.{cells_in}
use Rattle.workbook_core.proofs.Ends.{first_is}
use Rattle.workbook_core.proofs.cells.CellMap.first.Goals as goal

pub returns-in-Some-clause-some : goal.returns-in-Some-clause-some
returns-in-Some-clause-some c = subst (λ es. IsNextCell (cells_in [] es) None c.in-Some.first.now) c.self.view_is
    (first_is c.self.inside.by_row c.in-Some.first.now c.in-Some.field-0-1.now c.in-Some.ensures.value c.in-Some.ensures.least)
