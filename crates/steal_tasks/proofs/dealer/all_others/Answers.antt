use Rattle.steal_tasks.proofs.Rounds.{all_more}
use Rattle.steal_tasks.proofs.dealer.all_others.Goals as goal

pub loop-worker-preserved : goal.loop-worker-preserved
loop-worker-preserved c =
    all_more (λ os. os.items) c.args.deques.now c.loop-worker.deques c.others_of.new.deques c.loop-worker.all.items c.push.new.self.items c.in_ok-others.others c.loop-worker.worker
    c.loop-worker.invariant c.in_ok-push.ensures.items c.in_ok-others.ensures.same c.in_ok-others.ensures.alone c.in_ok-others.ensures.others
