use Rattle.std.proofs.Common.{Some, sym, ap, ◌∙◌, subst}
use Rattle.formula_trees.specs.Expr.{expr_of}
use Rattle.demand_spec.specs.Book.{Content}
use Rattle.demand_spec.specs.Listed.{content_of, IsFormulaOf}
use Rattle.demand_spec.specs.Stage.{Sight}
use Rattle.demand_spec.proofs.Texts.{content_text}
use Rattle.demand_spec.proofs.context.Stage.ask_cell.Goals as goal

pub ask-requires : goal.ask-requires
ask-requires c = subst (λ (s : Sight). IsFormulaOf s.texts (expr_of c.in-Some-Formula.tree)) c.self.view_is (content_text c.self.inside.texts.now c.self.inside.book.now c.args.at c.self.invariant.cells_of (Content.Formula (expr_of c.in-Some-Formula.tree)) (sym c.in-Some-Formula.ensures ∙ ap (λ x. Some (content_of x)) c.in-Some-Formula.field-0-is))
