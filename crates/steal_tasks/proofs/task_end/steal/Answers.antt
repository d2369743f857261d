use Rattle.std.proofs.Common.{◌<◌, length, arith}
use Rattle.steal_tasks.proofs.Taking.{missed_more, stolen_at}
use Rattle.steal_tasks.proofs.task_end.steal.Goals as goal

pub returns-in-Some : goal.returns-in-Some
returns-in-Some c =
    let there : c.loop-other.other-index < length c.loop-other.others = omega (arith, c.loop-other-test.true, c.loop-other.auto.others) in
    stolen_at
    c.in-Some.number
    c.args.others.now
    c.loop-other.others
    c.loop-other.other-index
    c.other-item.result
    c.steal.new.self
    there
    c.loop-other.invariant.0
    c.loop-other.invariant.1
    c.in-Some.ensures.0
    c.in-Some.ensures.1

pub loop-other-preserved : goal.loop-other-preserved
loop-other-preserved c =
    let there : c.loop-other.other-index < length c.loop-other.others = omega (arith, c.loop-other-test.true, c.loop-other.auto.others) in
    missed_more
    c.args.others.now
    c.loop-other.others
    c.loop-other.other-index
    c.other-item.result
    c.steal.new.self
    there
    c.loop-other.invariant.0
    c.loop-other.invariant.1
    c.in_default.ensures
