use Rattle.formula_trees.specs.Expr.{expr_of}
use Rattle.row_shift.proofs.Formulas.{sound_copy}
use Rattle.row_shift.proofs.trees.moved_tree.Goals as goal

pub returns-clause-sound : goal.returns-clause-sound
returns-clause-sound t = sound_copy t.args.change t.args.at t.args.to (expr_of t.args.tree.now) t.map_tree.result t.requires.change t.requires.place t.requires.sound t.map_tree.ensures
