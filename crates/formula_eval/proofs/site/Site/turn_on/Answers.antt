use Rattle.std.proofs.Common.{◌<◌, length, ap, ◌∙◌, arith}
use Rattle.shared_expressions.specs.Trees.{tree_at, child_of}
use Rattle.formula_eval.proofs.Ranges.{few_arguments, turn_done, turn_argument}
use Rattle.formula_eval.proofs.site.Site.turn_on.Goals as goal

pub overflow_add-k : goal.overflow_add-k
overflow_add-k c = (let h : c.args.k < 512 = few_arguments c.args.frames.now.room (length c.args.frames.now.frames) c.args.k (tree_at c.args.self.now.pool.now c.args.id) (tree_at c.args.self.now.pool.now c.in-Some.child) (c.in-Some.ensures ∙ ap (λ z. child_of z (tree_at c.args.self.now.pool.now c.args.id)) c.from.ensures) c.requires.holds in omega arith)

pub returns-in-None-clause-goes : goal.returns-in-None-clause-goes
returns-in-None-clause-goes c = turn_done c.args.self.now.pool.now c.args.self.now.texts.now c.args.self.now.at c.args.id c.args.going c.args.k c.args.frames.now.frames c.requires.call (c.in-None.ensures ∙ ap (λ z. child_of z (tree_at c.args.self.now.pool.now c.args.id)) c.from.ensures)

pub returns-in-Some-clause-goes : goal.returns-in-Some-clause-goes
returns-in-Some-clause-goes c = turn_argument c.args.self.now.pool.now c.args.self.now.texts.now c.args.self.now.at c.args.id c.args.going c.args.k c.args.frames.now.frames c.in-Some.child c.push.new.self.frames c.requires.call (c.in-Some.ensures ∙ ap (λ z. child_of z (tree_at c.args.self.now.pool.now c.args.id)) c.from.ensures) c.push.ensures.frames
