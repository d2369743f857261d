use Rattle.cycle_finder.proofs.Told.{told_after}
use Rattle.cycle_finder.proofs.tests.tell.Goals as goal

pub returns-clause-told : goal.returns-clause-told
returns-clause-told g c = told_after c.args.told.now c.insert-added.new.self c.args.cell c.args.shown (rw c.expect.ensures at c.insert-added.ensures.updates)
