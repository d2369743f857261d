use Rattle.std.proofs.Common.{[], subst, sym}
use Rattle.std.specs.Range.{range_inclusive_start, range_inclusive_end}
use Rattle.workbook_core.specs.Books.{IsLastColumn, IsEmptySheet}
use Rattle.workbook_core.specs.Held.{cells_in, AreOnSheets}
use Rattle.workbook_core.proofs.Ends.{column_corner, between_columns, last_column_is, no_column_is}
use Rattle.workbook_core.proofs.cells.CellMap.last_column.Goals as goal

pub returns-in-Some-clause-some : goal.returns-in-Some-clause-some
returns-in-Some-clause-some c = subst (λ es. IsLastColumn (cells_in [] es) c.args.sheet c.in-Some.at.now.col) c.self.view_is
    (last_column_is c.self.inside.by_row.entries c.self.inside.by_column c.args.sheet c.range.result c.next_back.new.self c.in-Some.at.now c.self.invariant (subst AreOnSheets (sym c.self.view_is) c.requires)
    (between_columns c.self.inside.by_column c.range.result (range_inclusive_start c.new.result) (range_inclusive_end c.new.result) (column_corner c.args.sheet 0 0) (column_corner c.args.sheet 256 65536) c.new.ensures.start c.new.ensures.end (c.range.ensures.in_range c.new.ensures.exhausted))
    c.in-Some.ensures.steps)

pub returns-in-None-clause-none : goal.returns-in-None-clause-none
returns-in-None-clause-none c = subst (λ es. IsEmptySheet (cells_in [] es) c.args.sheet) c.self.view_is
    (no_column_is c.self.inside.by_row.entries c.self.inside.by_column c.args.sheet c.range.result c.self.invariant (subst AreOnSheets (sym c.self.view_is) c.requires)
    (between_columns c.self.inside.by_column c.range.result (range_inclusive_start c.new.result) (range_inclusive_end c.new.result) (column_corner c.args.sheet 0 0) (column_corner c.args.sheet 256 65536) c.new.ensures.start c.new.ensures.end (c.range.ensures.in_range c.new.ensures.exhausted))
    c.in-None.ensures.steps.0)
