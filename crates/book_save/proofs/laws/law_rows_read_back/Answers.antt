use Rattle.book_save.proofs.RowsBack.{fields_read_back, rows_read_back}
use Rattle.book_save.proofs.laws.law_rows_read_back.Goals as goal

pub returns-clause-records : goal.returns-clause-records
returns-clause-records c = rows_read_back

pub returns-clause-fields : goal.returns-clause-fields
returns-clause-fields c = fields_read_back
