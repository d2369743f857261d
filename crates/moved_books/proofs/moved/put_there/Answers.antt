use Rattle.std.proofs.Common.{Some, ap, ◌∙◌}
use Rattle.formula_trees.specs.Expr.{expr_of}
use Rattle.moved_books.proofs.Fitting.{held_formula, tree_sound}
use Rattle.moved_books.proofs.moved.put_there.Goals as goal

pub moved_tree-requires-clause-on_sheet : goal.moved_tree-requires-clause-on_sheet
moved_tree-requires-clause-on_sheet c = (held_formula c.args.book.now c.args.at c.in-Some-Formula.id c.content.result c.content.ensures.workbook c.content.ensures.content (c.in-Some-Formula.is ∙ ap Some c.in-Some-Formula.field-0-is)).on_sheet

pub moved_tree-requires-clause-sound : goal.moved_tree-requires-clause-sound
moved_tree-requires-clause-sound c =
    let cell = held_formula c.args.book.now c.args.at c.in-Some-Formula.id c.content.result c.content.ensures.workbook c.content.ensures.content (c.in-Some-Formula.is ∙ ap Some c.in-Some-Formula.field-0-is) in
    tree_sound c.args.book.now c.args.at c.in-Some-Formula.id c.pool.result.now (expr_of c.in_ok-tree-in-Some-Formula.tree) cell c.pool.ensures c.in_ok-tree-in-Some-Formula.ensures
