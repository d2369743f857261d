-- What holds of a worker between its steps, over whole runs.
use Rattle.std.proofs.Common.{◌≡◌, ℕ, length, sym, Option, Some, None}
use Rattle.claim_core.specs.declared.event.Event.{Event}
use Rattle.claim_core.specs.declared.view.View.{View}
use Rattle.claim_core.specs.Steps.{grown}
use Rattle.claim_core.specs.Passes.{SeesAllDone}
use Rattle.worker_machine.specs.declared.action.Action.{Action}
use Rattle.worker_machine.specs.declared.action.Change.{Change}
use Rattle.worker_machine.specs.declared.action.Next.TheVariants.{Alter}
use Rattle.worker_machine.specs.Jobs.{Job, IsJob}
use Rattle.worker_machine.specs.Evaluation.{KnowsAll}
use Rattle.worker_machine.specs.States.{State, held_number}
use Rattle.worker_machine.specs.Machine.{action, after_change, next, settle}
use Rattle.worker_machine.specs.RoundSteps.{IsViewOf, IsAllowed, IsHint}
use Rattle.worker_machine.specs.Invariant.{IsWorker}
use Rattle.worker_machine.specs.Runs.{IsRun, at_start, further, IsSettled, ResultsRight, StepsAllowed, EndsWithAll, FewSteps, WorkerBegins, ChangesKeep, StepsKeep, SettlesInTurn}
use Rattle.worker_machine.proofs.Settle.{settle_keeps, settle_ends, settle_step, settle_stays}
use Rattle.worker_machine.proofs.Changing.{change_keeps, right_within}
use Rattle.worker_machine.proofs.Stepping.{why_step, step_right, start_right}
use Rattle.worker_machine.proofs.Ending.{ends_with_all}
use Rattle.worker_machine.proofs.Bound.{settle_bounded, step_bounded, start_bounded, few_events}
use Rattle.worker_machine.proofs.Writing.{change_writes, step_writes, step_allowed}

pub work_begins : WorkerBegins
work_begins j job v f = record { job = job; view = f.view; state = start_right j v; writes = f.holds_none; bounded = start_bounded j v f }

pub change_works : (j : Job) (v : View) (s : State) (c : Change) → next j s ≡ Alter c → IsWorker j v s → IsWorker j v (after_change s c)
change_works j v s c e h = record { job = h.job; view = h.view; state = change_keeps j v h.job s c e h.state; writes = change_writes j v s c e h.writes; bounded = settle_bounded j v s c e h.bounded }

pub settle_works : (j : Job) (v : View) (s : State) → IsWorker j v s → IsWorker j v (settle j s)
settle_works j v s h = settle_keeps j (IsWorker j v) (change_works j v) s h

pub works_settled : (j : Job) (v : View) (s : State) → IsWorker j v s → IsSettled j (settle j s)
works_settled j v s h = settle_ends j s (right_within j v s h.state)

pub changes_keep : ChangesKeep
changes_keep j v s h = ((λ c e. change_works j v s c e h), settle_works j v s h, works_settled j v s h)

view_stays : (j : Job) (v : View) (e : Event) → IsViewOf j v → IsViewOf j (grown e v)
view_stays j v e h = record { of_round = h.of_round; number = h.number }

pub steps_keep : StepsKeep
steps_keep j v s e h st = record {
  job = h.job;
  view = view_stays j v e h.view;
  state = step_right j v s h.job h.view h.state e st;
  writes = step_writes j v s e h.state.evaluation.knows.sized h.writes st;
  bounded = step_bounded j v s e h.state.evaluation.knows.sized st h.bounded;
}

pub settles_in_turn : SettlesInTurn
settles_in_turn j v s h = ((λ c e. sym (settle_step j s c (right_within j v s h.state) e)), settle_stays j s)

-- what it gives, in a settled state

pub worker_allowed : (j : Job) (v : View) (s : State) → IsWorker j v s → (hint : Option ℕ) → IsHint j s hint → (a : Action) → action j s hint ≡ Some a → IsAllowed j v (held_number s.held) a
worker_allowed j v s h hint new a called = step_allowed j v s a h.state h.writes (why_step j s hint a h.state.evaluation.knows.sized new called)

pub worker_ends : (j : Job) (v : View) (s : State) → IsWorker j v s → IsSettled j s → (hint : Option ℕ) → action j s hint ≡ None → KnowsAll j.pending s.known × SeesAllDone (length j.pending.cells) v
worker_ends j v s h settled hint e = ends_with_all j v s hint h.state settled e

-- a run keeps it

pub run_works : (j : Job) → IsJob j → (v : View) (s : State) → IsRun j v s → IsWorker j v s
run_works j job v s (at_start w f) = work_begins j job v f
run_works j job v s (further w t e r st) = steps_keep j w (settle j t) e (settle_works j w t (run_works j job w t r)) st

pub results_right : ResultsRight
results_right j job v s r = (let h = run_works j job v s r in (h.state.evaluation.knows.right, (settle_works j v s h).state.evaluation.knows.right))

pub steps_allowed : StepsAllowed
steps_allowed j job v s r = worker_allowed j v (settle j s) (settle_works j v s (run_works j job v s r))

pub end_knows_all : EndsWithAll
end_knows_all j job v s r =
    let h = run_works j job v s r in
    worker_ends j v (settle j s) (settle_works j v s h) (works_settled j v s h)

pub few_steps : FewSteps
few_steps j job v s r = few_events j v s (run_works j job v s r).bounded
