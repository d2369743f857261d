use Rattle.std.proofs.Common.{rules, ap}
use Rattle.demand_stack.specs.declared.notes.Note.{Note}
use Rattle.demand_stack.proofs.Beside.{on_stack_is, begun_is, none_noted}
use Rattle.demand_stack.proofs.notes.Notes.marks.Goals as goal

pub returns-then-i-len-clause-on_stack : goal.returns-then-i-len-clause-on_stack
returns-then-i-len-clause-on_stack c = on_stack_is c.self.inside.results c.self.inside.marks.items c.args.self.now c.args.i c.index.result.now c.self.invariant c.self.view_is (search rules) c.index.ensures

pub returns-then-i-len-clause-begun : goal.returns-then-i-len-clause-begun
returns-then-i-len-clause-begun c = begun_is c.self.inside.results c.self.inside.marks.items c.args.self.now c.args.i c.index.result.now c.self.invariant c.self.view_is (search rules) c.index.ensures

pub returns-else-i-len-clause-on_stack : goal.returns-else-i-len-clause-on_stack
returns-else-i-len-clause-on_stack c = ap (λ (z : Note). z.on_stack) (none_noted c.self.inside.results c.self.inside.marks.items c.args.self.now c.args.i c.self.invariant c.self.view_is (search rules))

pub returns-else-i-len-clause-begun : goal.returns-else-i-len-clause-begun
returns-else-i-len-clause-begun c = ap (λ (z : Note). z.begun) (none_noted c.self.inside.results c.self.inside.marks.items c.args.self.now c.args.i c.self.invariant c.self.view_is (search rules))
