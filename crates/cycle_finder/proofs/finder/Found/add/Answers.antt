use Rattle.std.proofs.Common.{arith}
use Rattle.cycle_finder.proofs.Adding.{has_inserted, has_more}
use Rattle.cycle_finder.proofs.finder.Found.add.Goals as goal

pub loop-cell-preserved : goal.loop-cell-preserved
loop-cell-preserved c = record {
  loops = c.loop-cell.invariant.loops;
  seen = has_more c.cells-cell-items.result.now c.loop-cell.cell-index _ (omega arith) c.args.self.now.seen.keys c.loop-cell.self.seen.keys c.insert.new.self.keys c.loop-cell.invariant.seen (has_inserted _ c.loop-cell.self.seen.keys c.insert.new.self.keys c.in_ok-insert.ensures.updates.0);
}
