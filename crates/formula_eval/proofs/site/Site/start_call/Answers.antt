use Rattle.std.proofs.Common.{subst}
use Rattle.shared_expressions.specs.Trees.{tree_at, child_of}
use Rattle.formula_eval.specs.declared.work.Work.TheVariants.{First}
use Rattle.formula_eval.specs.Machine.{Waits}
use Rattle.formula_eval.proofs.Ranges.{turn_given, fold_given, start_turn, start_fold}
use Rattle.formula_eval.proofs.Begins.{start_first}
use Rattle.formula_eval.proofs.site.Site.start_call.Goals as goal

pub returns-in-Some-clause-starts : goal.returns-in-Some-clause-starts
returns-in-Some-clause-starts c = start_turn c.args.self.now.pool.now c.args.self.now.texts.now c.args.self.now.at c.args.call.id c.in-Some.going c.args.frames.now.frames c.turn_on.result c.turn_on.new.frames.frames (turn_given (tree_at c.args.self.now.pool.now c.args.call.id) c.args.call.fun c.in-Some.going c.requires.call c.in-Some.ensures) (c.turn_on.ensures.goes)

pub returns-in-Some-fold_of-clause-starts : goal.returns-in-Some-fold_of-clause-starts
returns-in-Some-fold_of-clause-starts c = start_fold c.args.self.now.pool.now c.args.self.now.texts.now c.args.self.now.at c.args.call.id c.in-Some-fold_of.kind c.args.frames.now.frames c.fold_on.result c.fold_on.new.frames.frames (fold_given (tree_at c.args.self.now.pool.now c.args.call.id) c.args.call.fun c.in-Some-fold_of.kind c.requires.call c.in-Some-fold_of.ensures) (c.fold_on.ensures.goes)

pub returns-in-None-fold_of-clause-starts : goal.returns-in-None-fold_of-clause-starts
returns-in-None-fold_of-clause-starts c = start_first c.args.self.now.pool.now c.args.self.now.texts.now c.args.self.now.at c.args.call.id c.args.call.fun c.args.frames.now.frames c.wait_for.result c.wait_for.new.frames.frames c.requires.call c.requires.holds.covered c.in-None.ensures c.in-None-fold_of.ensures
    (subst (λ z. Waits c.args.self.now.pool.now c.args.call.id First (child_of z (tree_at c.args.self.now.pool.now c.args.call.id)) c.args.frames.now.frames c.wait_for.result c.wait_for.new.frames.frames) c.first_number.ensures c.wait_for.ensures.waits)
