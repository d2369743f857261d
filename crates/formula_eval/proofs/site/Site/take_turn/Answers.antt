use Rattle.std.proofs.Common.{Ok, sym, ap, ◌∙◌}
use Rattle.shared_expressions.specs.Trees.{tree_at}
use Rattle.formula_eval.proofs.Ranges.{turn_given, turn_goes, same_truth}
use Rattle.formula_eval.proofs.site.Site.take_turn.Goals as goal

pub returns-then-b-going-clause-goes : goal.returns-then-b-going-clause-goes
returns-then-b-going-clause-goes c = turn_goes c.args.self.now.pool.now c.args.self.now.texts.now c.args.self.now.at c.args.call.id c.in-Some.going c.args.k c.args.v c.args.frames.now.frames c.turn_on.result c.turn_on.new.frames.frames (turn_given (tree_at c.args.self.now.pool.now c.args.call.id) c.args.call.fun c.in-Some.going c.requires.call c.in-Some.ensures) (ap Ok (sym (same_truth c.in-Ok.b c.in-Some.going c.if-b-going.true)) ∙ c.in-Ok.ensures) (c.turn_on.ensures.goes)
