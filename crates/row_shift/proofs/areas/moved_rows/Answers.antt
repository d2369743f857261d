use Rattle.row_shift.proofs.Ends.{rows_told}
use Rattle.row_shift.proofs.areas.moved_rows.Goals as goal

pub returns : goal.returns
returns c = rows_told c.args.change c.args.area c.rows_on.result c.requires.area c.rows_on.ensures
