-- Workers, as clauses see them.
use Rattle.std.specs.Prelude.{◌≡◌, Bool, Option}
use Rattle.claim_core.specs.Passes.{RoundSeen, PassSeen, Belongs, IsPassOf}
use Rattle.worker_machine.specs.declared.action.Action.{Action}
use Rattle.worker_machine.specs.Jobs.{Job, round_of}
use Rattle.worker_machine.specs.States.{State, start}
use Rattle.worker_machine.specs.Machine.{next, settle, action}
use Rattle.speculative_eval.specs.declared.machine.Machine.{Machine}
use Rattle.speculative_eval.specs.Hinted.{HintsSeen, asks, hint_of}
use Rattle.speculative_eval.specs.Hinted as hinted
use Rattle.speculative_eval.specs.Machines.{job_of, state_of}

-- what a worker works on, its pass, its state and its hints
pub record WorkerSeen : Type 0 where
  pub job : Job
  pub pass : PassSeen
  pub state : State
  pub hints : HintsSeen

-- a worker of these parts
abbrev pub worker_with : PassSeen → Machine → HintsSeen → WorkerSeen
worker_with p m h = record { job = job_of m; pass = p; state = state_of m; hints = h }

-- the worker is one of the round
abbrev pub BelongsTo : RoundSeen → WorkerSeen → Type 0
BelongsTo r w = Belongs r w.pass × (round_of w.job ≡ r.setup)

-- it is one of the round, and may step
abbrev pub IsWorkerOf : RoundSeen → WorkerSeen → Type 0
IsWorkerOf r w = IsPassOf r w.pass × (round_of w.job ≡ r.setup)

-- what a pass works on in the round
abbrev pub job_in : RoundSeen → PassSeen → Job
job_in r p = record { pending = record { book = r.setup.book; cells = r.setup.cells }; worker = p.worker; workers = r.setup.workers }

-- a worker that has done nothing
abbrev pub begun : RoundSeen → PassSeen → HintsSeen → WorkerSeen
begun r p h = record { job = job_in r p; pass = p; state = start (job_in r p); hints = h }

-- its state before its next step
abbrev pub settled : WorkerSeen → State
settled w = settle w.job w.state

-- whether its next step takes hints
abbrev pub asks_hints : WorkerSeen → Bool
asks_hints w = asks (next w.job (settled w)) w.hints

-- its next step, where its hints are these after it: none where it is finished
abbrev pub step_action : WorkerSeen → HintsSeen → Option Action
step_action w h = action w.job (settled w) (hint_of (asks_hints w) h)

-- its next step takes hints where it asks for them, and no others
abbrev pub TakesHints : WorkerSeen → HintsSeen → Type 0
TakesHints w h = hinted.TakesHints (settled w).known (asks_hints w) w.hints h
