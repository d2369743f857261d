use Rattle.book_save.proofs.CellsBack.{saved_reads_back}
use Rattle.book_save.proofs.laws.law_sheet_reads_back.Goals as goal

pub returns : goal.returns
returns c = saved_reads_back
