use Rattle.std.proofs.Common.{◌≡◌, option_map, subst, ap, sym, ◌∙◌}
use Rattle.cell_values.specs.Order.{entry_at}
use Rattle.workbook_core.specs.Held.{content_in}
use Rattle.workbook_core.proofs.Lookups.{held_cells}
use Rattle.workbook_core.proofs.workbook.Workbook.content.Goals as goal

pub returns-clause-content : goal.returns-clause-content
returns-clause-content c = subst (λ w. option_map (content_in w.pool) c.get.result ≡ entry_at w.book.cells c.args.at) c.self.view_is
    (ap (option_map (content_in c.self.inside.pool)) c.get.ensures ∙ sym (held_cells c.self.inside.pool c.self.inside.cells c.args.at))
