use Rattle.std.proofs.Common.{◌++◌, ◌+◌, ◌-◌, sym, ap, ◌∙◌, arith}
use Rattle.cycle_finder.specs.Loops.{trail}
use Rattle.cycle_finder.proofs.Adding.{trail_more, trail_ends, trail_stops}
use Rattle.cycle_finder.proofs.walker.Walker.trail.Goals as goal
use Rattle.cycle_finder.proofs.walker.Walker.trail.Goals.{else-loop-test, then-loop-test+in_default}

pub loop-preserved : goal.loop-preserved
loop-preserved c = record {
  cells =
      (λ i. c.in_ok-push.ensures.items i ++ trail (c.need-next.ensures.book i) (c.args.steps - (c.loop.counter + 1)) (c.need-next.ensures.need i))
      ∙ trail_more c.loop.self c.loop.cells.items c.args.steps c.loop.counter c.in-Some.cell (omega arith)
      ∙ ap (λ o. c.loop.cells.items ++ trail c.loop.self (c.args.steps - c.loop.counter) o) (sym c.in-Some.is)
      ∙ c.loop.invariant.cells;
  book = c.need-next.ensures.book ∙ c.loop.invariant.book;
}

pub returns-clause-trail : goal.returns-clause-trail
returns-clause-trail c = elim c.loop-test.branch [
  | else-loop-test w ↦ sym (trail_ends c.loop.self c.loop.cells.items c.args.steps c.loop.counter c.loop.next (omega arith)) ∙ c.loop.invariant.cells
  | then-loop-test+in_default w ↦
      sym (trail_stops c.loop.self c.loop.cells.items (c.args.steps - c.loop.counter))
      ∙ ap (λ o. c.loop.cells.items ++ trail c.loop.self (c.args.steps - c.loop.counter) o) (sym w.in_default.is)
      ∙ c.loop.invariant.cells
]
