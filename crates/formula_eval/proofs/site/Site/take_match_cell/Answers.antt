use Rattle.std.proofs.Common.{sym, ap, ◌∙◌}
use Rattle.shared_expressions.specs.declared.nodes.Node.{Node}
use Rattle.formula_eval.proofs.Searches.{search_goes}
use Rattle.formula_eval.proofs.site.Site.take_match_cell.Goals as goal

pub returns-else-is_found-clause-goes : goal.returns-else-is_found-clause-goes
returns-else-is_found-clause-goes c = search_goes c.args.self.now.pool.now c.args.self.now.texts.now c.args.self.now.at c.args.call.id c.args.key c.args.n c.args.v c.args.frames.now.frames c.search_on.result c.search_on.new.frames.frames (c.requires.call ∙ ap Node.Call c.in-Match.is) (sym c.is_found.ensures ∙ c.if-is_found.false) (c.search_on.ensures.goes)
