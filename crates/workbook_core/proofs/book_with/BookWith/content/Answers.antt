use Rattle.std.proofs.Common.{◌≡◌, option_map, subst, sym, IfSome}
use Rattle.cell_values.specs.Order.{entry_at}
use Rattle.workbook_core.specs.Held.{content_in, IsHeldOf}
use Rattle.workbook_core.specs.Books.{SharedBook}
use Rattle.workbook_core.specs.WithNumber.{AreAskable, shared_with}
use Rattle.workbook_core.proofs.WithNumber.{content_told, id_told, askable_told}
use Rattle.workbook_core.proofs.book_with.BookWith.content.Goals as goal

pub returns-clause-content : goal.returns-clause-content
returns-clause-content c =
    let v = shared_with c.self.inside.book.now c.self.inside.number in
    subst (λ (w : SharedBook). option_map (content_in w.pool) c.content_with.result ≡ entry_at w.book.cells c.args.at) c.self.view_is
    (subst (λ o. option_map (content_in v.pool) o ≡ entry_at v.book.cells c.args.at) (sym c.content_with.ensures) (content_told c.self.inside.book.now c.self.inside.number c.args.at c.content.result c.content.ensures.workbook c.content.ensures.content))

pub returns-clause-id : goal.returns-clause-id
returns-clause-id c =
    let v = shared_with c.self.inside.book.now c.self.inside.number in
    subst (λ (w : SharedBook). IfSome c.content_with.result (IsHeldOf w.pool)) c.self.view_is
    (subst (λ o. IfSome o (IsHeldOf v.pool)) (sym c.content_with.ensures) (id_told c.self.inside.book.now c.self.inside.number c.args.at c.content.result c.content.ensures.id))

pub returns-clause-askable : goal.returns-clause-askable
returns-clause-askable c = subst AreAskable c.self.view_is (askable_told c.self.inside.book.now c.self.inside.number c.content.ensures.workbook)
