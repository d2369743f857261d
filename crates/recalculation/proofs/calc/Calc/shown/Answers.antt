use Rattle.std.proofs.Common.{◌≡◌, unwrap_or, ◌∙◌, ap, sym, subst}
use Rattle.cell_values.specs.declared.values.Shown.{Shown}
use Rattle.cell_values.specs.Values.{IsShownOf}
use Rattle.demand_spec.specs.Book.{own, own_of}
use Rattle.workbook_core.specs.Books.{IsWorkbook}
use Rattle.recalculation.specs.Calculations.{Calculation}
use Rattle.recalculation.proofs.Seen.{stored_or_own, shown_text}
use Rattle.recalculation.proofs.calc.Calc.shown.Goals as goal

-- what the cell shows is the stored result or its own value
pub returns-clause-shown : goal.returns-clause-shown
unfolding own
returns-clause-shown c =
    let own_is : c.own_value-own.result ≡ own c.args.self.now.shared.book c.args.at =
    c.own_value-own.ensures c.self.inside.book.pool ∙ ap own_of c.content.ensures.content ∙ ap (λ (k : Calculation). own k.shared.book c.args.at) c.self.view_is in
    c.unwrap_or.ensures ∙ (λ i. unwrap_or (c.stored.ensures i) (Shown.Val (own_is i)))
    ∙ stored_or_own c.args.self.now.shared.book c.args.self.now.pending c.args.at c.requires

pub returns-clause-text : goal.returns-clause-text
returns-clause-text c =
    let book : IsWorkbook c.args.self.now.shared = subst (λ (k : Calculation). IsWorkbook k.shared) c.self.view_is c.content.ensures.workbook in
    subst (IsShownOf c.args.self.now.shared.book.texts) (sym (returns-clause-shown c)) (shown_text c.args.self.now.shared c.args.at book)
