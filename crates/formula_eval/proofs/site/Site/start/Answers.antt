use Rattle.formula_eval.proofs.Begins.{start_unary, start_binary}
use Rattle.formula_eval.proofs.site.Site.start.Goals as goal

pub returns-in-Unary-clause-starts : goal.returns-in-Unary-clause-starts
returns-in-Unary-clause-starts c = start_unary c.args.self.now.pool.now c.args.self.now.texts.now c.args.self.now.at c.args.id _ _ _ _ c.in-Unary.ensures c.wait_for.ensures.waits

pub returns-in-Binary-clause-starts : goal.returns-in-Binary-clause-starts
returns-in-Binary-clause-starts c = start_binary c.args.self.now.pool.now c.args.self.now.texts.now c.args.self.now.at c.args.id _ _ _ _ c.in-Binary.ensures c.wait_for-in-Binary.ensures.waits
