use Rattle.formula_trees.specs.Expr.{expr_of}
use Rattle.formula_trees.proofs.Shifts.{sound_copy}
use Rattle.formula_trees.proofs.shift.shift.Goals as goal

pub returns-clause-sound : goal.returns-clause-sound
returns-clause-sound t = sound_copy t.args.from t.args.to (expr_of t.args.tree.now) t.map_tree.result t.requires t.map_tree.ensures
