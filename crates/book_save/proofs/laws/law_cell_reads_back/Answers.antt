use Rattle.book_save.proofs.CellsBack.{cell_reads_back}
use Rattle.book_save.proofs.laws.law_cell_reads_back.Goals as goal

pub returns : goal.returns
returns c = cell_reads_back
