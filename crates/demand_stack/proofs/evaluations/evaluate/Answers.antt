use Rattle.demand_stack.specs.Recall.{look_in}
use Rattle.demand_stack.proofs.Begins.{resumed}
use Rattle.demand_stack.proofs.evaluations.evaluate.Goals as goal

pub returns-then-begun-clause-answered : goal.returns-then-begun-clause-answered
returns-then-begun-clause-answered c base h = resumed c.args.book.now c.pool.result.now c.texts.result.now (look_in c.args.known.now) c.args.at c.args.begun c.args.frames.now.frames base c.resume.result c.resume.new.frames.frames c.pool.ensures c.texts.ensures.texts c.resume.ensures.open c.if-begun.true h
