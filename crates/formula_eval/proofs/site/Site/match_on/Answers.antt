use Rattle.std.proofs.Common.{ap, ◌∙◌}
use Rattle.shared_expressions.specs.declared.nodes.Node.{Node}
use Rattle.formula_eval.proofs.Searches.{match_goes}
use Rattle.formula_eval.proofs.site.Site.match_on.Goals as goal

pub returns-in-Cells-clause-goes : goal.returns-in-Cells-clause-goes
returns-in-Cells-clause-goes c = match_goes c.args.self.now.pool.now c.args.self.now.texts.now c.args.self.now.at c.args.call.id c.args.v c.args.frames.now.frames c.in-Cells.field-0 c.search_on.result c.search_on.new.frames.frames (c.requires.call ∙ ap Node.Call c.requires.found) c.requires.key.1 c.in-Cells.ensures.same (c.search_on.ensures.goes)
