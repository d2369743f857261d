use Rattle.support_graph.proofs.Lists.{before_found, before_missed}
use Rattle.support_graph.proofs.sorted.first_from.Goals as goal

pub returns-in-Ok-clause-before : goal.returns-in-Ok-clause-before
returns-in-Ok-clause-before c = before_found c.args.cells.now c.args.cell c.in-Ok.place c.requires c.in-Ok.ensures.bound c.in-Ok.ensures.ok

pub returns-in-Err-clause-before : goal.returns-in-Err-clause-before
returns-in-Err-clause-before c = before_missed c.args.cells.now c.args.cell c.in-Err.place c.requires c.in-Err.ensures.position
