use Rattle.std.proofs.Common.{arith, ap, ◌∙◌}
use Rattle.formula_eval.specs.Stacks.{Stack}
use Rattle.demand_stack.proofs.Steps.{starts_kept, starts_view}
use Rattle.demand_stack.proofs.stack.DemandStack.new.Goals as goal

pub invariant_of-result : goal.invariant_of-result
invariant_of-result c = starts_kept c.args.book c.args.cells.now c.args.stored.now.entries c.args.first c.in_ok-stack.stack.items c.in_ok-notes.notes c.in_ok-frames.frames _ c.requires.pending c.requires.stored c.requires.first c.in_ok-stack.ensures.items c.in_ok-notes.ensures (let e = ap (λ (f : Stack). f.room) c.in_ok-frames.ensures ∙ c.room_for.ensures in omega arith) (ap (λ (f : Stack). f.frames) c.in_ok-frames.ensures) c.in_ok-stack.ensures.capacity

pub returns : goal.returns
returns c = starts_view c.args.book c.args.cells.now c.args.first c.in_ok-stack.stack.items c.in_ok-notes.notes c.in_ok-stack.ensures.items c.in_ok-notes.ensures
