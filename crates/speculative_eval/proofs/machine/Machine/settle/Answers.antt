use Rattle.std.proofs.Common.{◌≡◌, ◌<◌, ap, sym, ◌∙◌, subst}
use Rattle.worker_machine.specs.States.{top_result}
use Rattle.worker_machine.specs.Machine.{changes_left, next, settle}
use Rattle.worker_machine.specs.Runs.{IsSettled}
use Rattle.worker_machine.proofs.Settle.{settle_stays}
use Rattle.speculative_eval.specs.Performs.{FitsTag}
use Rattle.speculative_eval.specs.Machines.{IsCalled, SameTask, job_of, state_of}
use Rattle.speculative_eval.proofs.Keeping.{changed_less, changed_settles, changed_works, same_then}
use Rattle.speculative_eval.proofs.machine.Machine.settle.Goals as goal

pub loop-change-smaller : goal.loop-change-smaller
loop-change-smaller c =
    let m = c.loop-change.self in
    let n = c.next_step.new.self in
    let called : IsCalled n c.in-Alter.change = subst (λ k. IsCalled k c.in-Alter.change) (sym c.next_step.ensures.same) (record { working = c.loop-change.invariant.working; called = sym c.next_step.ensures.step ∙ c.in-Alter.is }) in
    subst (λ k. changes_left (state_of c.alter.new.self) < changes_left (state_of k)) c.next_step.ensures.same (changed_less n c.alter.new.self c.in-Alter.change called c.alter.ensures.state)

pub loop-change-preserved : goal.loop-change-preserved
loop-change-preserved c =
    let n = c.next_step.new.self in
    let called : IsCalled n c.in-Alter.change = subst (λ k. IsCalled k c.in-Alter.change) (sym c.next_step.ensures.same) (record { working = c.loop-change.invariant.working; called = sym c.next_step.ensures.step ∙ c.in-Alter.is }) in
    record {
      working = changed_works n c.alter.new.self c.in-Alter.change called c.alter.ensures.state c.alter.ensures.task;
      task = same_then _ n c.alter.new.self (subst (SameTask _) (sym c.next_step.ensures.same) c.loop-change.invariant.task) c.alter.ensures.task;
      settles = changed_settles n c.alter.new.self c.in-Alter.change called c.alter.ensures.state c.alter.ensures.task ∙ ap (λ k. settle (job_of k) (state_of k)) c.next_step.ensures.same ∙ c.loop-change.invariant.settles;
    }

pub returns-in_default : goal.returns-in_default
returns-in_default c =
    let m = c.loop-change.self in
    let same : c.next_step.new.self ≡ m = c.next_step.ensures.same in
    let settled : IsSettled (job_of m) (state_of m) = λ x e. c.in_default.not-Alter x (c.next_step.ensures.step ∙ e) in
    record {
      state = ap state_of same ∙ sym (settle_stays (job_of m) (state_of m) settled) ∙ c.loop-change.invariant.settles;
      task = subst (SameTask c.args.self.now) (sym same) c.loop-change.invariant.task;
      next = c.next_step.ensures.step ∙ ap (λ k. next (job_of k) (state_of k)) (sym same);
      fits = subst (λ k. FitsTag c.next_step.result (top_result k.demands.known k.demands.stack)) (sym same) c.next_step.ensures.fits;
      settled = subst (λ k. IsSettled (job_of k) (state_of k)) (sym same) settled;
    }
