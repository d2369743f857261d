use Rattle.std.proofs.Common.{ap, ◌∙◌}
use Rattle.demand_spec.specs.Book.{cell_needed}
use Rattle.cycle_finder.proofs.Recalls.{all_shown, need_recalled}
use Rattle.cycle_finder.proofs.walker.Walker.need.Goals as goal

pub ask_over-requires-clause-shown : goal.ask_over-requires-clause-shown
ask_over-requires-clause-shown c = all_shown c.self.inside.book.now.book c.self.inside.results.now.entries c.self.invariant.holds

pub returns-clause-need : goal.returns-clause-need
returns-clause-need c = rw (← c.self.view_is) (c.lacking.ensures ∙ ap cell_needed c.ask_over.ensures.asked ∙ need_recalled c.self.inside.book.now.book c.self.inside.results.now.entries c.args.cell c.self.invariant.holds)
