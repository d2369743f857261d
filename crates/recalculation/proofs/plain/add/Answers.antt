use Rattle.std.proofs.Common.{◌≡◌, Some, option_map, sym, ap, ◌∙◌, subst}
use Rattle.cell_values.specs.Order.{addresses, entry_at, IsAfterAll}
use Rattle.demand_spec.specs.Listed.{content_of, AreCellsOf}
use Rattle.demand_spec.proofs.Small.{cells_push}
use Rattle.recalculation.proofs.PlainBooks.{after_last}
use Rattle.recalculation.proofs.plain.add.Goals as goal

pub push-requires-clause-on_sheet : goal.push-requires-clause-on_sheet
push-requires-clause-on_sheet g c =
    (c.known.ensures.cells c.args.at (content_of c.in-Some.cell) (sym c.in_ok-cell.ensures ∙ ap (option_map content_of) c.in-Some.is)).on_sheet

pub returns-in_ok-push-clause-last : goal.returns-in_ok-push-clause-last
returns-in_ok-push-clause-last g c = λ a before after.
    subst (λ cells. IsAfterAll a (addresses cells)) (sym c.in_ok-push.ensures.ok) (after_last a c.args.plain.now (c.args.at, content_of c.in-Some.cell) after before)

pub returns-in_ok-push-clause-texts : goal.returns-in_ok-push-clause-texts
returns-in_ok-push-clause-texts g c =
    subst (λ cells. AreCellsOf c.args.book.now.book.texts cells) (sym c.in_ok-push.ensures.ok)
    (cells_push c.args.book.now.book.texts c.args.plain.now (c.args.at, content_of c.in-Some.cell) c.requires.texts
    (c.known.ensures.cells c.args.at (content_of c.in-Some.cell) (sym c.in_ok-cell.ensures ∙ ap (option_map content_of) c.in-Some.is)).texts)
