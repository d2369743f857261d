use Rattle.book_save.proofs.FieldsBack.{text_reads_back}
use Rattle.book_save.proofs.laws.law_text_reads_back.Goals as goal

pub returns : goal.returns
returns c = text_reads_back
