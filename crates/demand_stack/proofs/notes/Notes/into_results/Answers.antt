use Rattle.std.proofs.Common.{sym, ap, ◌∙◌}
use Rattle.demand_stack.specs.Recall.{known_of}
use Rattle.demand_stack.proofs.Beside.{known_noted}
use Rattle.demand_stack.proofs.notes.Notes.into_results.Goals as goal

pub returns : goal.returns
returns c = sym (known_noted c.self.inside.results c.self.inside.marks.items c.self.invariant) ∙ ap known_of c.self.view_is
