use Rattle.std.proofs.Common.{◌<◌, Some, None, length, sym, ◌∙◌, arith}
use Rattle.demand_stack.specs.Recall.{cells_in}
use Rattle.demand_stack.proofs.Recalls.{number_low, number_is}
use Rattle.demand_stack.proofs.stack.DemandStack.number_of.Goals as goal

pub overflow_cast-result : goal.overflow_cast-result
overflow_cast-result c =
    let s = c.self.inside in
    let low : c.in-Some.i < length s.cells.now = number_low (cells_in s.book s.cells.now) c.args.at c.in-Some.i (sym c.in-Some.is ∙ c.number_in.ensures) in
    let few = c.self.invariant.pending.not_too_many in
    omega arith

pub returns-in-Some-clause-number : goal.returns-in-Some-clause-number
returns-in-Some-clause-number c = rw (← c.self.view_is) (number_is (cells_in c.self.inside.book c.self.inside.cells.now) c.args.at (Some c.in-Some.i) (sym c.in-Some.is ∙ c.number_in.ensures))

pub returns-in-None-clause-number : goal.returns-in-None-clause-number
returns-in-None-clause-number c = rw (← c.self.view_is) (number_is (cells_in c.self.inside.book c.self.inside.cells.now) c.args.at None (sym c.in-None.is ∙ c.number_in.ensures))
