use Rattle.std.proofs.Common.{sym, subst, ◌∙◌}
use Rattle.workbook_core.specs.Books.{IsWorkbook}
use Rattle.puncalc_program.proofs.Extents.{extent_wide}
use Rattle.puncalc_program.proofs.desk.Desk.write_sheet.Goals as goal

pub write_rows-requires-clause-some : goal.write_rows-requires-clause-some
write_rows-requires-clause-some g c =
    extent_wide c.book-2.result.now c.args.sheet (c.in-Some.rows, c.in-Some.columns) (subst (λ w. IsWorkbook w) (c.book.ensures ∙ sym c.book-2.ensures) c.tell_cells.ensures) (sym c.in-Some.is ∙ c.extent.ensures)
