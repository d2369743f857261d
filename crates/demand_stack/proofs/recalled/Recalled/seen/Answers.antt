use Rattle.std.proofs.Common.{◌≡◌, Some, sym, ◌∙◌}
use Rattle.demand_spec.specs.declared.Asked.TheVariants.{Val}
use Rattle.demand_spec.specs.Book.{look, formula_at}
use Rattle.formula_trees.specs.Expr.{Expr}
use Rattle.formula_eval.specs.declared.machine.Look.{Look}
use Rattle.worker_machine.specs.Evaluation.{values}
use Rattle.demand_stack.specs.Recall.{cells_in, known_of}
use Rattle.demand_stack.proofs.Recalls.{own_found, formula_there, value_found, value_missing, seen_meant}
use Rattle.demand_stack.proofs.recalled.Recalled.seen.Goals as goal

pub value_at-requires : goal.value_at-requires
value_at-requires c = rw (← c.self.view_is) (formula_there c.self.inside.book.now.book c.args.at _ c.content.ensures.content (sym c.in-None.is ∙ c.own_value.ensures c.self.inside.book.now.pool))

pub returns-in-Some-clause-found : goal.returns-in-Some-clause-found
returns-in-Some-clause-found c = rw (← c.self.view_is) (own_found c.self.inside.book.now.book (values (cells_in c.self.inside.book.now c.self.inside.cells.now) (known_of c.self.inside.notes.now)) c.args.at _ c.in-Some.value c.content.ensures.content (sym c.in-Some.is ∙ c.own_value.ensures c.self.inside.book.now.pool))

pub returns-in-Some-clause-texts : goal.returns-in-Some-clause-texts
returns-in-Some-clause-texts c =
    let e : Val c.in-Some.value ≡ look c.self.inside.book.now.book (values (cells_in c.self.inside.book.now c.self.inside.cells.now) (known_of c.self.inside.notes.now)) c.args.at = own_found c.self.inside.book.now.book (values (cells_in c.self.inside.book.now c.self.inside.cells.now) (known_of c.self.inside.notes.now)) c.args.at _ c.in-Some.value c.content.ensures.content (sym c.in-Some.is ∙ c.own_value.ensures c.self.inside.book.now.pool) in
    rw (← c.self.view_is) (seen_meant c.self.inside.book.now c.self.inside.cells.now (known_of c.self.inside.notes.now) c.self.inside.stored.now.entries c.args.at (Look.Val c.in-Some.value) c.content.ensures.askable c.self.invariant e)

pub returns-in-Some-value_at-clause-found : goal.returns-in-Some-value_at-clause-found
returns-in-Some-value_at-clause-found c =
    let f : (t : Expr) × (formula_at c.self.inside.book.now.book c.args.at ≡ Some t) = formula_there c.self.inside.book.now.book c.args.at _ c.content.ensures.content (sym c.in-None.is ∙ c.own_value.ensures c.self.inside.book.now.pool) in
    let v = rw (← c.self.view_is) at c.value_at.ensures in
    rw (← c.self.view_is) (value_found c.self.inside.book.now.book (values (cells_in c.self.inside.book.now c.self.inside.cells.now) (known_of c.self.inside.notes.now)) c.args.at f.0 c.in-Some-value_at.value f.1 (sym c.in-Some-value_at.is ∙ v))

pub returns-in-Some-value_at-clause-texts : goal.returns-in-Some-value_at-clause-texts
returns-in-Some-value_at-clause-texts c =
    let f : (t : Expr) × (formula_at c.self.inside.book.now.book c.args.at ≡ Some t) = formula_there c.self.inside.book.now.book c.args.at _ c.content.ensures.content (sym c.in-None.is ∙ c.own_value.ensures c.self.inside.book.now.pool) in
    let v = rw (← c.self.view_is) at c.value_at.ensures in
    let e : Val c.in-Some-value_at.value ≡ look c.self.inside.book.now.book (values (cells_in c.self.inside.book.now c.self.inside.cells.now) (known_of c.self.inside.notes.now)) c.args.at = value_found c.self.inside.book.now.book (values (cells_in c.self.inside.book.now c.self.inside.cells.now) (known_of c.self.inside.notes.now)) c.args.at f.0 c.in-Some-value_at.value f.1 (sym c.in-Some-value_at.is ∙ v) in
    rw (← c.self.view_is) (seen_meant c.self.inside.book.now c.self.inside.cells.now (known_of c.self.inside.notes.now) c.self.inside.stored.now.entries c.args.at (Look.Val c.in-Some-value_at.value) c.content.ensures.askable c.self.invariant e)

pub returns-in-None-value_at-clause-found : goal.returns-in-None-value_at-clause-found
returns-in-None-value_at-clause-found c =
    let f : (t : Expr) × (formula_at c.self.inside.book.now.book c.args.at ≡ Some t) = formula_there c.self.inside.book.now.book c.args.at _ c.content.ensures.content (sym c.in-None.is ∙ c.own_value.ensures c.self.inside.book.now.pool) in
    let v = rw (← c.self.view_is) at c.value_at.ensures in
    rw (← c.self.view_is) (value_missing c.self.inside.book.now.book (values (cells_in c.self.inside.book.now c.self.inside.cells.now) (known_of c.self.inside.notes.now)) c.args.at f.0 f.1 (sym c.in-None-value_at.is ∙ v))
