use Rattle.std.proofs.Common.{false, refl}
use Rattle.demand_stack.proofs.Beside.{low, marks_view}
use Rattle.demand_stack.proofs.notes.Notes.set_on_stack.Goals as goal

pub index_mut-requires : goal.index_mut-requires
index_mut-requires c = rw c.self.inside.marks.ok.0 (low c.self.inside.results c.self.inside.marks.items c.args.self.now c.args.i c.self.invariant c.self.view_is c.requires)

pub returns : goal.returns
returns c = marks_view c.self.inside.results c.self.inside.marks.items c.args.self.now c.args.i c.args.on_stack c.args.on_stack false c.self.invariant c.self.view_is refl
