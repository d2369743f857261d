use Rattle.cell_values.proofs.Order.{in_order}
use Rattle.support_graph.proofs.search.Search.found.Goals as goal

pub returns-in_err-push-clause-in_order : goal.returns-in_err-push-clause-in_order
returns-in_err-push-clause-in_order c = in_order c.args.self.now.seen.keys c.into_iter-cell-iterator.ensures.into_iter_gives.4

pub returns-clause-in_order : goal.returns-clause-in_order
returns-clause-in_order c = in_order c.args.self.now.seen.keys c.into_iter-cell-iterator.ensures.into_iter_gives.4
