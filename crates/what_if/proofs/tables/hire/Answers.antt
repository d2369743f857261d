use Rattle.std.proofs.Common.{arith}
use Rattle.std.proofs.lemmas.List.Elements.{All-push, All-same}
use Rattle.what_if.specs.Tables.{CanRun}
use Rattle.what_if.proofs.tables.hire.Goals as goal

pub loop-alloc-preserved : goal.loop-alloc-preserved
loop-alloc-preserved c =
    let inv = c.loop-alloc.invariant in record {
      ready = All-same (CanRun c.args.table.now) c.push_reserved.new.self.items _ c.push_reserved.ensures.items (All-push (CanRun c.args.table.now) c.loop-alloc.all.items c.in_ok-new.field-0 inv.ready c.in_ok-new.ensures);
      few = (let test = c.loop-alloc-test.true in let count = c.len.ensures in let long = c.push_reserved.ensures.len in omega arith);
      room = (let z = inv.room in let k = c.push_reserved.ensures.capacity in omega arith);
    }
