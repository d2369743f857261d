use Rattle.std.proofs.Common.{map, sym, ap, subst, ◌∙◌}
use Rattle.std.proofs.lemmas.Result.{IfErr-weaker, on_ok_weaker}
use Rattle.cell_values.specs.Areas.{numbers_from}
use Rattle.book_save.specs.Rows.{IsSaveFault, first_long, first_long_at, places, saved_row}
use Rattle.book_save.proofs.Extents.{extent_none, extent_some, last_wide}
use Rattle.book_save.proofs.Rowwise.{last_is, last_utf8, none_short, none_utf8}
use Rattle.book_save.proofs.saving.save_sheet.Goals as goal

pub rows_to-requires-clause-rows : goal.rows_to-requires-clause-rows
rows_to-requires-clause-rows c = (extent_some (c.in-Some.rows, c.in-Some.columns) c.args.sheet c.args.book.now.book.cells (sym c.in-Some.is ∙ c.extent.ensures)).rows_are

pub rows_to-requires-clause-columns : goal.rows_to-requires-clause-columns
rows_to-requires-clause-columns c = (extent_some (c.in-Some.rows, c.in-Some.columns) c.args.sheet c.args.book.now.book.cells (sym c.in-Some.is ∙ c.extent.ensures)).columns_are

pub rows_to-requires-clause-some : goal.rows_to-requires-clause-some
rows_to-requires-clause-some c =
    last_wide c.args.book.now c.args.sheet (c.in-Some.rows, c.in-Some.columns) c.tell_cells.ensures
    (extent_some (c.in-Some.rows, c.in-Some.columns) c.args.sheet c.args.book.now.book.cells (sym c.in-Some.is ∙ c.extent.ensures))

pub returns-in-Some-clause-rows : goal.returns-in-Some-clause-rows
returns-in-Some-clause-rows c = c.rows_to.ensures.rows

pub returns-in-Some-clause-utf8 : goal.returns-in-Some-clause-utf8
returns-in-Some-clause-utf8 c =
    let l = extent_some (c.in-Some.rows, c.in-Some.columns) c.args.sheet c.args.book.now.book.cells (sym c.in-Some.is ∙ c.extent.ensures) in
    on_ok_weaker c.rows_to.result (λ all. last_utf8 c.args.book.now c.args.sheet (c.in-Some.rows, c.in-Some.columns) c.tell_cells.ensures l all) c.rows_to.ensures.utf8

pub returns-in-Some-clause-short : goal.returns-in-Some-clause-short
returns-in-Some-clause-short c =
    let l = extent_some (c.in-Some.rows, c.in-Some.columns) c.args.sheet c.args.book.now.book.cells (sym c.in-Some.is ∙ c.extent.ensures) in
    on_ok_weaker c.rows_to.result (λ none. sym (last_is c.args.book.now c.args.sheet (c.in-Some.rows, c.in-Some.columns) c.tell_cells.ensures l) ∙ none) c.rows_to.ensures.short

pub returns-in-Some-clause-fault : goal.returns-in-Some-clause-fault
returns-in-Some-clause-fault c =
    let l = extent_some (c.in-Some.rows, c.in-Some.columns) c.args.sheet c.args.book.now.book.cells (sym c.in-Some.is ∙ c.extent.ensures) in
    let names = c.args.book.now.names in
    let book = c.args.book.now.book in
    IfErr-weaker c.rows_to.result (IsSaveFault (first_long_at names book (places c.args.sheet c.in-Some.columns c.in-Some.rows))) (IsSaveFault (first_long names book c.args.sheet))
    (λ fault told. subst (λ o. IsSaveFault o fault) (last_is c.args.book.now c.args.sheet (c.in-Some.rows, c.in-Some.columns) c.tell_cells.ensures l) told) c.rows_to.ensures.fault

pub returns-in-Some-clause-workbook : goal.returns-in-Some-clause-workbook
returns-in-Some-clause-workbook c = c.tell_cells.ensures

pub returns-in-None-clause-rows : goal.returns-in-None-clause-rows
returns-in-None-clause-rows c =
    c.no_rows.ensures ∙ sym (ap (λ n. map (saved_row c.args.book.now.names c.args.book.now.book c.args.sheet) (numbers_from 1 n)) (extent_none c.args.sheet c.args.book.now.book.cells (sym c.in-None.is ∙ c.extent.ensures)))

pub returns-in-None-clause-utf8 : goal.returns-in-None-clause-utf8
returns-in-None-clause-utf8 c = none_utf8 c.args.book.now c.args.sheet c.tell_cells.ensures (extent_none c.args.sheet c.args.book.now.book.cells (sym c.in-None.is ∙ c.extent.ensures))

pub returns-in-None-clause-short : goal.returns-in-None-clause-short
returns-in-None-clause-short c = none_short c.args.book.now c.args.sheet c.tell_cells.ensures (extent_none c.args.sheet c.args.book.now.book.cells (sym c.in-None.is ∙ c.extent.ensures))

pub returns-in-None-clause-workbook : goal.returns-in-None-clause-workbook
returns-in-None-clause-workbook c = c.tell_cells.ensures
