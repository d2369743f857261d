use Rattle.std.proofs.Common.{◌≡◌, is_some, subst, ap, ◌∙◌}
use Rattle.demand_spec.specs.Book.{formula_at}
use Rattle.workbook_core.specs.Held.{holds_formula}
use Rattle.workbook_core.proofs.Puts.{formula_told}
use Rattle.workbook_core.proofs.workbook.WorkbookBookView.has_formula.Goals as goal

pub returns : goal.returns
returns c = subst (λ w. c.holds_formula.result ≡ is_some (formula_at w.book c.args.at)) c.self.view_is
    (c.holds_formula.ensures ∙ ap holds_formula c.get.ensures ∙ formula_told c.self.inside.pool c.self.inside.cells c.self.inside.texts c.args.at)
