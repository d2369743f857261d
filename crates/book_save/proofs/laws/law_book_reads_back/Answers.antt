use Rattle.book_save.proofs.BookBack.{book_reads_back}
use Rattle.book_save.proofs.laws.law_book_reads_back.Goals as goal

pub returns : goal.returns
returns c = book_reads_back
