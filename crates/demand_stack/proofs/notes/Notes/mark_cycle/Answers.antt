use Rattle.std.proofs.Common.{Some}
use Rattle.cell_values.specs.declared.values.Shown.{Shown}
use Rattle.demand_stack.proofs.Beside.{low, low_results, on_stack_is, result_view}
use Rattle.demand_stack.proofs.notes.Notes.mark_cycle.Goals as goal

pub index-requires : goal.index-requires
index-requires c = rw c.self.inside.marks.ok.0 (low c.self.inside.results c.self.inside.marks.items c.args.self.now c.args.i c.self.invariant c.self.view_is c.requires)

pub index_mut-requires : goal.index_mut-requires
index_mut-requires c = rw c.self.inside.marks.ok.0 (low c.self.inside.results c.self.inside.marks.items c.args.self.now c.args.i c.self.invariant c.self.view_is c.requires)

pub mark_cycle-requires : goal.mark_cycle-requires
mark_cycle-requires c = low_results c.self.inside.results c.self.inside.marks.items c.args.self.now c.args.i c.self.invariant c.self.view_is c.requires

pub returns : goal.returns
returns c = result_view c.self.inside.results c.mark_cycle.new.self c.self.inside.marks.items c.args.self.now c.args.i (Some (Shown.Cycle c.args.length_of_cycle)) c.index.result.now.on_stack _ c.self.invariant c.self.view_is c.mark_cycle.ensures (on_stack_is c.self.inside.results c.self.inside.marks.items c.args.self.now c.args.i c.index.result.now c.self.invariant c.self.view_is (low c.self.inside.results c.self.inside.marks.items c.args.self.now c.args.i c.self.invariant c.self.view_is c.requires) c.index.ensures)
