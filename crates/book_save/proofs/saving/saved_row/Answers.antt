use Rattle.std.proofs.lemmas.Result.{err_from_is_err_and}
use Rattle.book_save.specs.Rows.{row_places}
use Rattle.book_save.proofs.Rowwise.{row_is, row_utf8, some_fields}
use Rattle.book_save.proofs.saving.saved_row.Goals as goal

pub returns-in_err-fields-clause-row : goal.returns-in_err-fields-clause-row
returns-in_err-fields-clause-row c = let p = err_from_is_err_and c.from_residual.result c.from_residual.ensures.1 in rw p.1 tt

pub returns-in_err-fields-clause-utf8 : goal.returns-in_err-fields-clause-utf8
returns-in_err-fields-clause-utf8 c = let p = err_from_is_err_and c.from_residual.result c.from_residual.ensures.1 in rw p.1 tt

pub returns-in_err-fields-clause-short : goal.returns-in_err-fields-clause-short
returns-in_err-fields-clause-short c = let p = err_from_is_err_and c.from_residual.result c.from_residual.ensures.1 in rw p.1 tt

pub returns-in_err-fields-clause-fault : goal.returns-in_err-fields-clause-fault
returns-in_err-fields-clause-fault c = let p = err_from_is_err_and c.from_residual.result c.from_residual.ensures.1 in rw (p.1, p.2) c.in_err-fields.ensures.fault

pub write_row-requires : goal.write_row-requires
write_row-requires c =
    some_fields c.args.book.now.names c.args.book.now.book c.args.sheet c.args.columns c.args.row c.deref.result.now c.in_ok-fields.fields.items c.deref.ensures.value c.in_ok-fields.ensures.fields c.requires.some

pub returns-in_err-write_row-clause-row : goal.returns-in_err-write_row-clause-row
returns-in_err-write_row-clause-row c = let p = err_from_is_err_and c.from_residual-in_err-write_row.result c.from_residual-in_err-write_row.ensures.1 in rw p.1 tt

pub returns-in_err-write_row-clause-utf8 : goal.returns-in_err-write_row-clause-utf8
returns-in_err-write_row-clause-utf8 c = let p = err_from_is_err_and c.from_residual-in_err-write_row.result c.from_residual-in_err-write_row.ensures.1 in rw p.1 tt

pub returns-in_err-write_row-clause-short : goal.returns-in_err-write_row-clause-short
returns-in_err-write_row-clause-short c = let p = err_from_is_err_and c.from_residual-in_err-write_row.result c.from_residual-in_err-write_row.ensures.1 in rw p.1 tt

pub returns-in_err-write_row-clause-fault : goal.returns-in_err-write_row-clause-fault
returns-in_err-write_row-clause-fault c = let p = err_from_is_err_and c.from_residual-in_err-write_row.result c.from_residual-in_err-write_row.ensures.1 in rw (p.1, p.2) tt

pub returns-clause-row : goal.returns-clause-row
returns-clause-row c =
    row_is c.args.book.now.names c.args.book.now.book c.args.sheet c.args.columns c.args.row c.deref.result.now c.in_ok-fields.fields.items _ c.in_ok-write_row.ensures c.deref.ensures.value c.in_ok-fields.ensures.fields c.requires.columns

pub returns-clause-utf8 : goal.returns-clause-utf8
returns-clause-utf8 c = row_utf8 c.args.book.now.names c.args.book.now.book c.in_ok-fields.fields.items (row_places c.args.sheet c.args.columns c.args.row) c.in_ok-fields.ensures.fields

pub returns-clause-short : goal.returns-clause-short
returns-clause-short c = c.in_ok-fields.ensures.short
