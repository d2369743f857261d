use Rattle.std.proofs.Common.{◌≡◌, ◌+◌, ◌-◌, ◌++◌, ◌∷◌, [], ◌∙◌, true, ap, arith}
use Rattle.std.specs.List.{range_with_len}
use Rattle.steal_tasks.specs.declared.share.Share.{Share}
use Rattle.steal_tasks.specs.Sharing.{share}
use Rattle.steal_tasks.proofs.Parts.{range_more}
use Rattle.steal_tasks.proofs.Sharing.{begins, deals}
use Rattle.steal_tasks.proofs.deque.filled.Goals as goal

pub fifo_as-requires : goal.fifo_as-requires
fifo_as-requires c = begins

pub push_as-requires-clause-pushes : goal.push_as-requires-clause-pushes
push_as-requires-clause-pushes c = deals _ _ _ (ap (λ v. v.alone) c.loop-number.invariant.3)

pub loop-number-preserved : goal.loop-number-preserved
loop-number-preserved c =
    let before = c.loop-number.invariant in
    let pushed = c.in-Ok.ensures in
    let n = c.loop-number.number - c.args.start in
    let one_more : n + 1 ≡ c.loop-number.number + 1 - c.args.start = omega (arith, c.loop-number.auto.number) in
    let at : c.args.start + n ≡ c.loop-number.number = omega (arith, c.loop-number.auto.number) in (
      pushed.same.1 ∙ before.0,
      pushed.rule.1 ∙ ap (λ k. k + 1) before.1 ∙ one_more,
      omega (arith, before.2, pushed.same.3),
      pushed.rule.0
          ∙ ap (λ (v : Share). share v.alone (v.dealt ++ c.loop-number.number ∷ []) v.taken) before.3
          ∙ ap (λ l. share true l []) (range_more c.args.start n c.loop-number.number at ∙ ap (range_with_len c.args.start) one_more),
    )
