use Rattle.cycle_finder.proofs.Told.{shown_right}
use Rattle.cycle_finder.proofs.tests.asked.Goals as goal

pub ask_over-requires-clause-shown : goal.ask_over-requires-clause-shown
ask_over-requires-clause-shown g c = shown_right c.args.book.now.book c.args.told.now.entries c.requires
