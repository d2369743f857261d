use Rattle.recalculation.proofs.Searched.{reached_listed}
use Rattle.recalculation.proofs.shift.standing.Goals as goal

pub returns-clause-stale : goal.returns-clause-stale
returns-clause-stale c = reached_listed c.args.book.now.book c.in_ok-support.support c.args.from.now c.new-stale.result c.spread.new.self c.in_ok-support.ensures c.new-stale.ensures c.ordered.ensures c.in_ok-spread.ensures.cells
