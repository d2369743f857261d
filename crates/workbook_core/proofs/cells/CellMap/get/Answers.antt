use Rattle.std.proofs.Common.{◌∙◌, ap}
use Rattle.cell_values.specs.Order.{entry_at}
use Rattle.cell_values.proofs.Order.{lookup_is}
use Rattle.workbook_core.proofs.cells.CellMap.get.Goals as goal

pub returns : goal.returns
returns c = c.copied.ensures ∙ c.get.ensures.value ∙ lookup_is c.self.inside.by_row.entries c.args.at ∙ ap (λ es. entry_at es c.args.at) c.self.view_is
