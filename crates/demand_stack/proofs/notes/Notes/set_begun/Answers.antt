use Rattle.demand_stack.proofs.Beside.{low, on_stack_is, marks_view}
use Rattle.demand_stack.proofs.notes.Notes.set_begun.Goals as goal

pub index-requires : goal.index-requires
index-requires c = rw c.self.inside.marks.ok.0 (low c.self.inside.results c.self.inside.marks.items c.args.self.now c.args.i c.self.invariant c.self.view_is c.requires)

pub index_mut-requires : goal.index_mut-requires
index_mut-requires c = rw c.self.inside.marks.ok.0 (low c.self.inside.results c.self.inside.marks.items c.args.self.now c.args.i c.self.invariant c.self.view_is c.requires)

pub returns : goal.returns
returns c = marks_view c.self.inside.results c.self.inside.marks.items c.args.self.now c.args.i c.index.result.now.on_stack _ c.args.begun c.self.invariant c.self.view_is (on_stack_is c.self.inside.results c.self.inside.marks.items c.args.self.now c.args.i c.index.result.now c.self.invariant c.self.view_is (low c.self.inside.results c.self.inside.marks.items c.args.self.now c.args.i c.self.invariant c.self.view_is c.requires) c.index.ensures)
