use Rattle.std.proofs.Common.{◌≡◌, sym, ◌∙◌, subst, []}
use Rattle.demand_stack.specs.StackSeen.{StackSeen}
use Rattle.demand_stack.proofs.Driving.{first_low}
use Rattle.demand_stack.proofs.tests.run.Goals as goal

pub evaluate-shown-requires-clause-idle : goal.evaluate-shown-requires-clause-idle
evaluate-shown-requires-clause-idle c = subst (λ (s : StackSeen). s.stack ≡ []) (sym c.first_unknown.ensures.same) c.loop.invariant.idle

pub evaluate-shown-requires-clause-there : goal.evaluate-shown-requires-clause-there
evaluate-shown-requires-clause-there c = rw c.first_unknown.ensures.same (first_low c.loop.stack c.in-Some.cell c.count-count.ensures.sees (sym c.first_unknown.ensures.first ∙ c.in-Some.is))
