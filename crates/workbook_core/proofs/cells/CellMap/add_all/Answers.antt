use Rattle.std.proofs.Common.{Some, None, subst, get_or, arith, take, is_some}
use Rattle.cell_values.specs.Order.{entry_at}
use Rattle.workbook_core.specs.Copies.{SetsAll}
use Rattle.workbook_core.proofs.Copied.{sets_more, undone, one_at_most}
use Rattle.workbook_core.proofs.cells.CellMap.add_all.Goals as goal

pub returns-in-Err-clause-err : goal.returns-in-Err-clause-err
returns-in-Err-clause-err c = undone c.args.addresses.now c.loop-i.i (Some c.args.content) c.args.self.now c.loop-i.self c.remove_all.new.self c.requires.order c.requires.empty c.loop-i.invariant.added
    (subst (λ es. SetsAll (take c.loop-i.i c.args.addresses.now) None es c.remove_all.new.self) c.in-Err.ensures.err c.remove_all.ensures.removed)

pub loop-i-preserved : goal.loop-i-preserved
loop-i-preserved c = record {
  added = sets_more c.args.addresses.now c.loop-i.i (record { sheet = 0; row = 0; col = 0 }) (Some c.args.content) c.args.self.now c.loop-i.self c.set.new.self c.loop-i-test.true c.loop-i.invariant.added c.in_default.ensures.ok;
  len = omega (arith, c.in_default.ensures.len, c.loop-i.invariant.len, one_at_most (is_some (entry_at c.loop-i.self (get_or c.args.addresses.now c.loop-i.i (record { sheet = 0; row = 0; col = 0 })))));
}
