use Rattle.std.proofs.Common.{sym, subst}
use Rattle.demand_stack.specs.StackSeen.{AreStored}
use Rattle.parallel_evaluation.proofs.tests.steps_of.Goals as goal

pub evaluate_in_order-requires-clause-stored : goal.evaluate_in_order-requires-clause-stored
evaluate_in_order-requires-clause-stored g c =
    let stored = c.new-stored.result.entries in
    subst (λ cells. AreStored (record { book = c.in_ok-book.book.book; cells = cells }) stored) (sym c.deref.ensures.value) (c.in_ok-cells.ensures.others stored)
