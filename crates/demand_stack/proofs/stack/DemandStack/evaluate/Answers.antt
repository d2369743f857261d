use Rattle.std.proofs.Common.{◌≡◌, true, refl, sym, ap, ◌∙◌, subst, None, length, arith}
use Rattle.demand_stack.specs.Alone.{SameCells, is_met}
use Rattle.demand_stack.proofs.Stepped.{then_same, met_first, known_over, known_shows}
use Rattle.demand_stack.proofs.Driving.{link_empty, no_top, off_empty}
use Rattle.demand_stack.proofs.stack.DemandStack.evaluate.Goals as goal

pub push-requires-clause-new : goal.push-requires-clause-new
push-requires-clause-new c = off_empty c.args.self.now c.args.cell c.requires.idle

pub push-requires-clause-linked : goal.push-requires-clause-linked
push-requires-clause-linked c = link_empty c.args.self.now c.args.cell c.requires.idle

pub returns-in-Some-clause-shown : goal.returns-in-Some-clause-shown
returns-in-Some-clause-shown c = known_shows c.args.self.now c.args.self.now c.args.cell c.in-Some.shown (record { shared = refl; cells = refl; first = refl }) c.known.ensures.sees (sym c.in-Some.is ∙ c.known.ensures.known)

pub loop-top-init : goal.loop-top-init
loop-top-init c = record {
  same = subst (SameCells c.args.self.now) (sym c.push.ensures) (record { shared = refl; cells = refl; first = refl });
  met = subst (λ s. is_met s c.args.cell ≡ true) (sym c.push.ensures) (met_first c.args.self.now c.args.cell None);
}

pub loop-top-preserved : goal.loop-top-preserved
loop-top-preserved c = record {
  same = then_same c.args.self.now c.loop-top.self c.work.new.self c.loop-top.invariant.same c.work.ensures.same;
  met = c.work.ensures.met c.args.cell (let e = ap length c.loop-top.invariant.same.cells in let l = c.requires.there in omega arith) c.loop-top.invariant.met;
}

pub loop-top-smaller : goal.loop-top-smaller
loop-top-smaller c = c.work.ensures.fewer

pub unreachable-requires : goal.unreachable-requires
unreachable-requires c = known_over c.loop-top.self c.args.cell (sym c.top.ensures.top ∙ c.in_default-top.is) c.loop-top.invariant.met (sym c.known-2.ensures.known ∙ c.in-None.is)

pub returns-clause-shown : goal.returns-clause-shown
returns-clause-shown c = known_shows c.args.self.now c.loop-top.self c.args.cell c.in-Some-known.shown c.loop-top.invariant.same c.known-2.ensures.sees (sym c.in-Some-known.is ∙ c.known-2.ensures.known)

pub returns-clause-over : goal.returns-clause-over
returns-clause-over c = record { same = c.loop-top.invariant.same; empty = no_top c.loop-top.self (sym c.top.ensures.top ∙ c.in_default-top.is) }
