use Rattle.std.proofs.Common.{◌∙◌}
use Rattle.demand_stack.proofs.Beside.{shown_is}
use Rattle.demand_stack.proofs.notes.Notes.shown.Goals as goal

pub returns : goal.returns
returns c = c.get.ensures ∙ shown_is c.self.inside.results c.self.inside.marks.items c.args.self.now c.args.i c.self.invariant c.self.view_is
