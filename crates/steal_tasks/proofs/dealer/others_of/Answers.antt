use Rattle.std.proofs.Common.{◌≤◌, ◌<◌, ◌+◌, ◌%◌, refl, length, arith}
use Rattle.steal_tasks.proofs.Rounds.{others_more}
use Rattle.steal_tasks.proofs.dealer.others_of.Goals as goal

pub loop-step-preserved : goal.loop-step-preserved
loop-step-preserved c =
    let old = c.args.deques.now in
    let step = c.loop-step.step in
    let some : 1 ≤ step = omega arith in
    let below : step < length old = omega arith in
    let there : (c.args.worker + step) % length old < length old = omega arith in
    others_more old c.loop-step.deques c.args.worker step ((c.args.worker + step) % length old) c.index-deques-next.result c.lend.new.self c.loop-step.others.items c.push.new.self.items c.in_ok-other.other some below
    c.loop-step.invariant refl there c.lend.ensures.own c.in_ok-other.ensures.other c.in_ok-push.ensures.items
