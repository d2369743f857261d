use Rattle.std.proofs.Common.{◌≡◌, Some, sym, ap, ◌∙◌}
use Rattle.formula_trees.specs.Expr.{Expr}
use Rattle.demand_spec.specs.Book.{formula_at}
use Rattle.cycle_finder.specs.Search.{own_in, value_of, values_in}
use Rattle.cycle_finder.proofs.Recalls.{own_found, own_text, formula_there, value_found, value_missing, value_text}
use Rattle.cycle_finder.proofs.recalled.Recalled.seen.Goals as goal

pub returns-in-Some-clause-found : goal.returns-in-Some-clause-found
returns-in-Some-clause-found c = rw (← c.self.view_is) (own_found c.self.inside.book.now.book (values_in c.self.inside.results.now.entries) c.args.at _ c.in-Some.value c.content.ensures.content (sym c.in-Some.is ∙ c.own_value.ensures c.self.inside.book.now.pool))

pub returns-in-Some-clause-texts : goal.returns-in-Some-clause-texts
returns-in-Some-clause-texts c =
    let own : Some c.in-Some.value ≡ own_in _ = sym c.in-Some.is ∙ c.own_value.ensures c.self.inside.book.now.pool in
    rw (← c.self.view_is) (own_text c.self.inside.book.now.book.texts _ c.in-Some.value (λ y e. (c.content.ensures.workbook.cells c.args.at y (sym c.content.ensures.content ∙ e)).texts) own)

pub returns-in-Some-value_of-clause-found : goal.returns-in-Some-value_of-clause-found
returns-in-Some-value_of-clause-found c =
    let f : (t : Expr) × (formula_at c.self.inside.book.now.book c.args.at ≡ Some t) = formula_there c.self.inside.book.now.book c.args.at _ c.content.ensures.content (sym c.in-None.is ∙ c.own_value.ensures c.self.inside.book.now.pool) in
    rw (← c.self.view_is) (value_found c.self.inside.book.now.book (values_in c.self.inside.results.now.entries) c.args.at f.0 c.in-Some-value_of.value f.1 (sym c.in-Some-value_of.is ∙ c.value_of.ensures ∙ ap value_of c.result_of.ensures))

pub returns-in-Some-value_of-clause-texts : goal.returns-in-Some-value_of-clause-texts
returns-in-Some-value_of-clause-texts c =
    let f : (t : Expr) × (formula_at c.self.inside.book.now.book c.args.at ≡ Some t) = formula_there c.self.inside.book.now.book c.args.at _ c.content.ensures.content (sym c.in-None.is ∙ c.own_value.ensures c.self.inside.book.now.pool) in
    rw (← c.self.view_is) (value_text c.self.inside.book.now c.self.inside.results.now.entries c.args.at f.0 c.in-Some-value_of.value c.content.ensures.workbook c.self.invariant f.1 (sym c.in-Some-value_of.is ∙ c.value_of.ensures ∙ ap value_of c.result_of.ensures))

pub returns-in-None-value_of-clause-found : goal.returns-in-None-value_of-clause-found
returns-in-None-value_of-clause-found c =
    let f : (t : Expr) × (formula_at c.self.inside.book.now.book c.args.at ≡ Some t) = formula_there c.self.inside.book.now.book c.args.at _ c.content.ensures.content (sym c.in-None.is ∙ c.own_value.ensures c.self.inside.book.now.pool) in
    rw (← c.self.view_is) (value_missing c.self.inside.book.now.book (values_in c.self.inside.results.now.entries) c.args.at f.0 f.1 (sym c.in-None-value_of.is ∙ c.value_of.ensures ∙ ap value_of c.result_of.ensures))
