use Rattle.row_shift.proofs.Books.{moved_are_cells}
use Rattle.row_shift.proofs.law_moved_cells_are_cells.Goals as goal

pub returns : goal.returns
returns c = moved_are_cells
