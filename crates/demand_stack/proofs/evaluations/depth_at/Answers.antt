use Rattle.std.proofs.Common.{◌≡◌, Some, None, sym, ap, ◌∙◌, arith}
use Rattle.demand_spec.specs.Book.{formula_at}
use Rattle.shared_expressions.specs.Trees.{depth, tree_at}
use Rattle.demand_stack.proofs.Begins.{tree_is, no_tree, formula_found, formula_cell}
use Rattle.demand_stack.proofs.Opened.{depth_few}
use Rattle.demand_stack.proofs.evaluations.depth_at.Goals as goal

pub returns-in-Some-clause-depth : goal.returns-in-Some-clause-depth
returns-in-Some-clause-depth c =
    let f : formula_at c.args.book.now.book c.args.at ≡ Some (tree_at c.args.book.now.pool c.in-Some.id) = formula_found c.args.book.now.book c.args.at _ _ c.content.ensures.content (c.in-Some.ensures c.args.book.now.pool) in
    c.depth.ensures ∙ ap (λ p. depth (tree_at p c.in-Some.id)) c.pool.ensures ∙ sym (ap depth (tree_is c.args.book.now.book c.args.at _ f))

pub returns-in-Some-clause-few : goal.returns-in-Some-clause-few
returns-in-Some-clause-few c =
    let f : formula_at c.args.book.now.book c.args.at ≡ Some (tree_at c.args.book.now.pool c.in-Some.id) = formula_found c.args.book.now.book c.args.at _ _ c.content.ensures.content (c.in-Some.ensures c.args.book.now.pool) in
    let small = (formula_cell c.args.book.now c.args.at _ c.content.ensures.askable f).sound.small in
    let few = depth_few (tree_at c.args.book.now.pool c.in-Some.id) in
    let same : c.depth.result ≡ depth (tree_at c.args.book.now.pool c.in-Some.id) = c.depth.ensures ∙ ap (λ p. depth (tree_at p c.in-Some.id)) c.pool.ensures in
    omega arith

pub returns-in-None-clause-depth : goal.returns-in-None-clause-depth
returns-in-None-clause-depth c =
    let f : formula_at c.args.book.now.book c.args.at ≡ None = formula_found c.args.book.now.book c.args.at _ _ c.content.ensures.content (c.in-None.ensures c.args.book.now.pool) in
    sym (ap depth (no_tree c.args.book.now.book c.args.at f))
