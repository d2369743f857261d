use Rattle.std.proofs.Common.{length, sym, ◌∙◌, subst}
use Rattle.claim_core.specs.Passes.{SeesAllDone}
use Rattle.worker_machine.specs.Evaluation.{KnowsAll}
use Rattle.speculative_eval.specs.Hinted.{hints_with}
use Rattle.speculative_eval.specs.Machines.{IsChosen, IsKept, job_of}
use Rattle.speculative_eval.proofs.Keeping.{chosen_is, ends_with_all, settled_kept}
use Rattle.speculative_eval.proofs.steps.step_parts.Goals as goal

pub make_step-requires-clause-kept : goal.make_step-requires-clause-kept
make_step-requires-clause-kept g c κs out = subst (IsKept c.args.pass.now) (sym c.choose.ensures.same) (settled_kept c.args.pass.now c.args.machine.now c.settle-next.new.self c.requires.kept c.settle-next.ensures.state c.settle-next.ensures.task)

pub make_step-requires-clause-chosen : goal.make_step-requires-clause-chosen
make_step-requires-clause-chosen g c κs out =
    let m = c.settle-next.new.self in
    let kept : IsKept c.args.pass.now m = settled_kept c.args.pass.now c.args.machine.now m c.requires.kept c.settle-next.ensures.state c.settle-next.ensures.task in
    let old = hints_with (g.H.Hints.left c.args.hints.now) (g.H.Hints.last c.args.hints.now) (g.H.Hints.over c.args.hints.now) in
    let after = c.hint_for-hint.new.hints in
    let new = hints_with (g.H.Hints.left after) (g.H.Hints.last after) (g.H.Hints.over after) in
    subst (λ k. IsChosen k c.in-Some.action) (sym c.choose.ensures.same)
    (chosen_is c.args.pass.now m c.settle-next.result old new c.hint_for-hint.result c.in-Some.action kept c.settle-next.ensures.next c.settle-next.ensures.fits c.hint_for-hint.ensures.taken c.hint_for-hint.ensures.hint (sym c.choose.ensures.action ∙ c.in-Some.is))

pub returns-in-None-clause-kept : goal.returns-in-None-clause-kept
returns-in-None-clause-kept g c = subst (IsKept c.args.pass.now) (sym c.choose.ensures.same) (settled_kept c.args.pass.now c.args.machine.now c.settle-next.new.self c.requires.kept c.settle-next.ensures.state c.settle-next.ensures.task)

pub returns-in-None-clause-ends : goal.returns-in-None-clause-ends
returns-in-None-clause-ends g c =
    let m = c.settle-next.new.self in
    let kept : IsKept c.args.pass.now m = settled_kept c.args.pass.now c.args.machine.now m c.requires.kept c.settle-next.ensures.state c.settle-next.ensures.task in
    subst (λ k. KnowsAll (job_of k).pending k.demands.known × SeesAllDone (length k.demands.cells) c.args.pass.now.view) (sym c.choose.ensures.same)
    (ends_with_all c.args.pass.now m c.settle-next.result c.hint_for-hint.result kept c.settle-next.ensures.settled c.settle-next.ensures.next (sym c.choose.ensures.action ∙ c.in-None.is))
