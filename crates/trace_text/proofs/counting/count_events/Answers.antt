use Rattle.std.proofs.Common.{arith, ◌≤◌}
use Rattle.trace_text.proofs.Counted.{counted_few, counted_more}
use Rattle.trace_text.proofs.counting.count_events.Goals as goal

pub overflow_add-index_mut : goal.overflow_add-index_mut
overflow_add-index_mut c =
    let few : c.index_mut.result.now ≤ c.loop-i.i = counted_few _ c.args.events.now _ _ _ (omega arith) c.index_mut.ensures.value c.loop-i.invariant in omega arith

pub loop-i-preserved : goal.loop-i-preserved
loop-i-preserved c = counted_more _ _ _ _ _ c.loop-i-test.true c.index_mut.ensures.value c.loop-i.invariant
