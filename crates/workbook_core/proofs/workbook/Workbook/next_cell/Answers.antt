use Rattle.std.proofs.Common.{◌≡◌, [], subst}
use Rattle.std.proofs.lemmas.Option.{IfSome_then}
use Rattle.workbook_core.specs.Books.{next_in}
use Rattle.workbook_core.specs.Held.{cells_in}
use Rattle.workbook_core.proofs.Firsts.{next_is_first}
use Rattle.workbook_core.proofs.Told.{next_same, last_same, if_none_then}
use Rattle.workbook_core.proofs.workbook.Workbook.next_cell.Goals as goal

pub returns : goal.returns
returns c = subst (λ w. c.next.result ≡ next_in w.book.cells c.args.after) c.self.view_is
    (next_is_first (cells_in c.self.inside.pool c.self.inside.cells) c.self.invariant.workbook.order c.args.after c.next.result
    (IfSome_then c.next.result c.next.ensures.some (λ a h. next_same [] c.self.inside.pool c.self.inside.cells c.args.after a h))
    (if_none_then c.next.result c.next.ensures.none (λ h. last_same [] c.self.inside.pool c.self.inside.cells c.args.after h)))
