use Rattle.demand_spec.specs.Book.{look}
use Rattle.formula_eval.proofs.Turns.{taken_up, marked_not}
use Rattle.formula_eval.proofs.machine.resume.Goals as goal

pub returns-in-None-clause-open : goal.returns-in-None-clause-open
returns-in-None-clause-open g c limit at q x base s = absurd (marked_not c.args.frames.now.frames at x s.frames s.top c.in-None.ensures.none.1)

pub returns-in-Some-clause-open : goal.returns-in-Some-clause-open
returns-in-Some-clause-open g c limit at q x base s = taken_up c.args.pool.now c.args.texts.now (look (g.K.Known.book c.args.known.now) (g.K.Known.values c.args.known.now)) limit at q x c.args.frames.now.frames base c.in-Some.at c.in-Some.need c.reopen.new.self.frames c.run.result c.run.new.frames.frames c.in-Some.ensures.some s c.run.ensures.comes.answer
