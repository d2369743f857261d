use Rattle.std.proofs.Common.{below_more, ◌≤◌, length, sym, ◌∙◌, arith}
use Rattle.parallel_evaluation.proofs.Stopped.{all_stopped}
use Rattle.parallel_evaluation.proofs.ordered.first_running.Goals as goal

pub loop-by-preserved : goal.loop-by-preserved
loop-by-preserved c = below_more _ _ c.loop-by.invariant (sym c.contains.ensures.value ∙ c.if-not-contains.false)

pub unreachable-requires : goal.unreachable-requires
unreachable-requires c =
    let most : c.args.workers ≤ length c.args.stopped.now = all_stopped c.args.workers c.args.stopped.now (λ k low. c.loop-by.invariant k (omega arith)) in omega arith
