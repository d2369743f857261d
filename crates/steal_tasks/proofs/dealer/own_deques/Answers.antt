use Rattle.std.proofs.Common.{◌≤◌, ◌<◌, sym, subst, arith}
use Rattle.steal_tasks.specs.Dealing.{part_start}
use Rattle.steal_tasks.proofs.Parts.{start_rises}
use Rattle.steal_tasks.proofs.Rounds.{filled_more}
use Rattle.steal_tasks.proofs.dealer.own_deques.Goals as goal

pub with_numbers-requires : goal.with_numbers-requires
with_numbers-requires c =
    let some : 0 < c.args.workers = omega arith in
    let rises = start_rises c.args.count c.args.workers c.loop-worker.worker some in
    subst (λ a. a ≤ c.first_of_part-end.result) (sym c.first_of_part-start.ensures.start) (subst (λ b. part_start c.args.count c.args.workers c.loop-worker.worker ≤ b) (sym c.first_of_part-end.ensures.start) rises)

pub loop-worker-preserved : goal.loop-worker-preserved
loop-worker-preserved c =
    filled_more c.args.count c.args.workers c.loop-worker.worker c.loop-worker.deques.items c.push.new.self.items c.in_ok-deque.deque c.first_of_part-start.result c.first_of_part-end.result c.loop-worker.invariant c.in_ok-push.ensures.items c.in_ok-deque.ensures c.first_of_part-start.ensures.start c.first_of_part-end.ensures.start
