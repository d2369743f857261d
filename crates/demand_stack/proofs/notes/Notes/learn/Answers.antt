use Rattle.std.proofs.Common.{Some, ◌∙◌}
use Rattle.demand_stack.proofs.Beside.{low, low_results, shown_is, on_stack_is, result_view}
use Rattle.demand_stack.proofs.notes.Notes.learn.Goals as goal

pub index-requires : goal.index-requires
index-requires c = rw c.self.inside.marks.ok.0 (low c.self.inside.results c.self.inside.marks.items c.args.self.now c.args.i c.self.invariant c.self.view_is c.requires.there)

pub index_mut-requires : goal.index_mut-requires
index_mut-requires c = rw c.self.inside.marks.ok.0 (low c.self.inside.results c.self.inside.marks.items c.args.self.now c.args.i c.self.invariant c.self.view_is c.requires.there)

pub learn-requires-clause-there : goal.learn-requires-clause-there
learn-requires-clause-there c = low_results c.self.inside.results c.self.inside.marks.items c.args.self.now c.args.i c.self.invariant c.self.view_is c.requires.there

pub learn-requires-clause-unknown : goal.learn-requires-clause-unknown
learn-requires-clause-unknown c = shown_is c.self.inside.results c.self.inside.marks.items c.args.self.now c.args.i c.self.invariant c.self.view_is ∙ c.requires.unknown

pub returns : goal.returns
returns c = result_view c.self.inside.results c.learn.new.self c.self.inside.marks.items c.args.self.now c.args.i (Some c.args.shown) c.index.result.now.on_stack _ c.self.invariant c.self.view_is c.learn.ensures (on_stack_is c.self.inside.results c.self.inside.marks.items c.args.self.now c.args.i c.index.result.now c.self.invariant c.self.view_is (low c.self.inside.results c.self.inside.marks.items c.args.self.now c.args.i c.self.invariant c.self.view_is c.requires.there) c.index.ensures)
