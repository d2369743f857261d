use Rattle.std.proofs.Common.{arith}
use Rattle.cycle_finder.proofs.Told.{marks_more}
use Rattle.cycle_finder.proofs.tests.mark_ring.Goals as goal

pub loop-cell-preserved : goal.loop-cell-preserved
loop-cell-preserved g c = marks_more c.args.ring.now c.loop-cell.cell-index _ c.args.shown c.args.told.now.entries c.loop-cell.told.entries c.tell.new.told.entries (omega arith) c.loop-cell.invariant c.tell.ensures.absent c.tell.ensures.told
