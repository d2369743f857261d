use Rattle.std.proofs.Common.{◌<◌, sym, ◌∙◌, arith}
use Rattle.shared_expressions.specs.Trees.{tree_at}
use Rattle.formula_eval.proofs.Searches.{range_is, lookup_few, lookup_goes}
use Rattle.formula_eval.proofs.site.Site.take_lookup_cell.Goals as goal

pub overflow_add-n : goal.overflow_add-n
overflow_add-n c = (let few : c.args.n < 65536 = lookup_few c.args.self.now.at (tree_at c.args.self.now.pool.now c.args.call.id) c.args.call.fun c.in-Cells.area c.args.m c.args.n c.requires.call c.in-Cells.ensures.within c.in-Cells.ensures.same c.requires.line in omega arith)

pub returns-else-is_found-clause-goes : goal.returns-else-is_found-clause-goes
returns-else-is_found-clause-goes c = lookup_goes c.args.self.now.pool.now c.args.self.now.texts.now c.args.self.now.at c.args.call.id c.args.call.fun c.in-Cells.area c.args.key c.args.v c.args.m c.args.n c.args.frames.now.frames c.lookup_on.result c.lookup_on.new.frames.frames c.requires.call (sym c.is_lookup.ensures ∙ c.if-is_lookup.true) (range_is c.args.self.now.at (tree_at c.args.self.now.pool.now c.args.call.id) c.args.call.fun c.in-Cells.area c.requires.call c.in-Cells.ensures.same) (sym c.is_found.ensures ∙ c.if-is_found.false) (c.lookup_on.ensures.goes)
