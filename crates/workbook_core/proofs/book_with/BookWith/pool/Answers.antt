use Rattle.std.proofs.Common.{ap, ◌∙◌}
use Rattle.workbook_core.specs.Books.{SharedBook}
use Rattle.workbook_core.proofs.WithNumber.{same_pool_with}
use Rattle.workbook_core.proofs.book_with.BookWith.pool.Goals as goal

pub returns : goal.returns
returns c = c.pool.ensures ∙ same_pool_with c.self.inside.book.now c.self.inside.number ∙ ap (λ (w : SharedBook). w.pool) c.self.view_is
