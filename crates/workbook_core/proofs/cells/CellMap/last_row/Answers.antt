use Rattle.std.proofs.Common.{[], subst, sym}
use Rattle.std.specs.Range.{range_inclusive_start, range_inclusive_end}
use Rattle.workbook_core.specs.Books.{IsLastRow, IsEmptySheet}
use Rattle.workbook_core.specs.Held.{cells_in, AreOnSheets}
use Rattle.workbook_core.proofs.Ends.{corner, between_rows, last_row_is, no_row_is}
use Rattle.workbook_core.proofs.cells.CellMap.last_row.Goals as goal

pub returns-in-Some-clause-some : goal.returns-in-Some-clause-some
returns-in-Some-clause-some c = subst (λ es. IsLastRow (cells_in [] es) c.args.sheet c.in-Some.at.now.row) c.self.view_is
    (last_row_is c.self.inside.by_row c.args.sheet c.range.result c.next_back.new.self (c.in-Some.at.now, c.in-Some.field-0-1.now) (subst AreOnSheets (sym c.self.view_is) c.requires)
    (between_rows c.self.inside.by_row c.range.result (range_inclusive_start c.new.result) (range_inclusive_end c.new.result) (corner c.args.sheet 0 0) (corner c.args.sheet 65536 256) c.new.ensures.start c.new.ensures.end (c.range.ensures.in_range c.new.ensures.exhausted))
    c.in-Some.ensures.steps)

pub returns-in-None-clause-none : goal.returns-in-None-clause-none
returns-in-None-clause-none c = subst (λ es. IsEmptySheet (cells_in [] es) c.args.sheet) c.self.view_is
    (no_row_is c.self.inside.by_row c.args.sheet c.range.result (subst AreOnSheets (sym c.self.view_is) c.requires)
    (between_rows c.self.inside.by_row c.range.result (range_inclusive_start c.new.result) (range_inclusive_end c.new.result) (corner c.args.sheet 0 0) (corner c.args.sheet 65536 256) c.new.ensures.start c.new.ensures.end (c.range.ensures.in_range c.new.ensures.exhausted))
    c.in-None.ensures.steps.0)
