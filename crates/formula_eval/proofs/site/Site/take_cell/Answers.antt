use Rattle.shared_expressions.specs.Trees.{tree_at}
use Rattle.formula_eval.proofs.Ranges.{fold_given, cell_goes}
use Rattle.formula_eval.proofs.site.Site.take_cell.Goals as goal

pub returns-in-Ok-clause-goes : goal.returns-in-Ok-clause-goes
returns-in-Ok-clause-goes c = cell_goes c.args.self.now.pool.now c.args.self.now.texts.now c.args.self.now.at c.args.call.id c.in-Some.kind c.args.k c.args.n c.args.total c.in-Ok.taken c.args.v c.args.frames.now.frames c.cells_on.result c.cells_on.new.frames.frames (fold_given (tree_at c.args.self.now.pool.now c.args.call.id) c.args.call.fun c.in-Some.kind c.requires.call c.in-Some.ensures) c.in-Ok.ensures (c.cells_on.ensures.goes)
