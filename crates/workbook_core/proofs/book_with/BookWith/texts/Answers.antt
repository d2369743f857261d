use Rattle.std.proofs.Common.{All, subst, ap, ◌∙◌}
use Rattle.std.specs.Str.{IsUtf8}
use Rattle.workbook_core.specs.Books.{SharedBook}
use Rattle.workbook_core.specs.WithNumber.{AreAskable}
use Rattle.workbook_core.proofs.WithNumber.{askable_told, same_texts_with}
use Rattle.workbook_core.proofs.book_with.BookWith.texts.Goals as goal

pub returns-clause-texts : goal.returns-clause-texts
returns-clause-texts c = c.texts.ensures.texts ∙ same_texts_with c.self.inside.book.now c.self.inside.number ∙ ap (λ (w : SharedBook). w.book.texts) c.self.view_is

pub returns-clause-utf8 : goal.returns-clause-utf8
returns-clause-utf8 c = subst (All IsUtf8) (same_texts_with c.self.inside.book.now c.self.inside.number ∙ ap (λ (w : SharedBook). w.book.texts) c.self.view_is) c.texts.ensures.utf8

pub returns-clause-askable : goal.returns-clause-askable
returns-clause-askable c = subst AreAskable c.self.view_is (askable_told c.self.inside.book.now c.self.inside.number c.count-count.ensures.workbook)
