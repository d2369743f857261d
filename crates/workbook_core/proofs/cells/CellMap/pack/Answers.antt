use Rattle.workbook_core.proofs.Packed.{indexed_packed}
use Rattle.workbook_core.proofs.cells.CellMap.pack.Goals as goal

pub invariant_of-self : goal.invariant_of-self
invariant_of-self c = indexed_packed c.self.inside.by_row.entries c.in_ok-by_row.by_row.entries c.self.inside.by_column.keys c.in_ok-by_column.by_column.keys c.in_ok-by_row.ensures c.in_ok-by_column.ensures c.self.invariant
