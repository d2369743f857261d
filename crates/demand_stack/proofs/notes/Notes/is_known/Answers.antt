use Rattle.std.proofs.Common.{is_some, ap, ◌∙◌}
use Rattle.demand_stack.proofs.Beside.{shown_is}
use Rattle.demand_stack.proofs.notes.Notes.is_known.Goals as goal

pub returns : goal.returns
returns c = c.is_known.ensures ∙ ap is_some (shown_is c.self.inside.results c.self.inside.marks.items c.args.self.now c.args.i c.self.invariant c.self.view_is)
