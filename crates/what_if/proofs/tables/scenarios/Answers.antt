use Rattle.std.proofs.Common.{subst}
use Rattle.std.proofs.lemmas.Int.{to_z-of_z}
use Rattle.std.proofs.lemmas.List.Elements.{All-map, All-same}
use Rattle.cell_values.specs.Areas.{numbers_from}
use Rattle.cell_values.specs.Values.{IsShownOf}
use Rattle.workbook_core.specs.Books.{IsWorkbook}
use Rattle.what_if.specs.Scenarios.{scenario}
use Rattle.what_if.proofs.Working.{text_shown}
use Rattle.what_if.proofs.tables.scenarios.Goals as goal

pub returns-clause-texts : goal.returns-clause-texts
returns-clause-texts g c =
    let w = c.args.calc.now.shared in
    All-same (IsShownOf w.book.texts) c.fill.new.shown.items _ (simp (to_z-of_z, c.ranges.low) at c.fill.ensures)
    (All-map (IsShownOf w.book.texts) (scenario w.book c.args.at c.args.low c.args.target) (numbers_from 0 c.args.count)
    (λ k n m. text_shown w c.args.at _ (subst IsWorkbook c.book.ensures c.tell_cells.ensures) c.args.target))
