use Rattle.workbook_core.proofs.Parted.{kept_apart}
use Rattle.workbook_core.proofs.workbook.Workbook.swap_cells.Goals as goal

pub exchange-requires : goal.exchange-requires
exchange-requires c = kept_apart c.self.inside.cells c.self.inside.texts c.self.inside.sheets c.self.inside.pool c.self.invariant
