-- Workers that step in a given order, and the board that tells how far they are.
use Rattle.std.specs.Prelude.{◌≡◌, ◌≢◌, ℕ, ◌<◌, true, false, List, length, map}
use mathlib.Core.Option.{some}
use lib.ListN.{get_elem?}
use Rattle.claim_core.specs.declared.view.RoundWords.{RoundWords}
use Rattle.claim_core.specs.Rule.{Setup, or_none}
use Rattle.claim_core.specs.Passes.{RoundSeen}
use Rattle.worker_machine.specs.States.{State}
use Rattle.worker_machine.specs.Found.{event_then}
use Rattle.speculative_eval.specs.declared.step.Step.{Step}
use Rattle.speculative_eval.specs.declared.step.Step.TheVariants.{Did, Finished}
use Rattle.speculative_eval.specs.Workers.{WorkerSeen, BelongsTo}
use Rattle.speculative_eval.specs.Steps.{HasAll, HasFewEvents, event_in}
use Rattle.parallel_evaluation.specs.declared.trace.Traced.{Traced}
use Rattle.parallel_evaluation.specs.Order.{Board, job_of, action_at, turned, is_stopped}

-- the worker k of the round, which takes no hints
pub record IsWorkerAt (r : RoundSeen) (k : ℕ) (w : WorkerSeen) : Type 0 where
  pub belongs : BelongsTo r w
  pub job : w.job ≡ job_of r.setup k
  pub no_hints : w.hints.over ≡ true
  pub few : HasFewEvents w

-- the workers of the round, by their numbers
abbrev pub AreWorkers : RoundSeen → List WorkerSeen → Type 0
AreWorkers r ws = (k : ℕ) (x : WorkerSeen) → get_elem? ws k ≡ some x → IsWorkerAt r k x

-- the state of a worker
abbrev pub state_of : WorkerSeen → State
state_of w = w.state

-- how far these workers are, after these events and with these words
abbrev pub board : List Traced → RoundWords → List WorkerSeen → Board
board events words ws = record { events = events; words = words; states = map state_of ws }

-- how many steps a worker has made
abbrev pub steps_of : WorkerSeen → ℕ
steps_of w = length w.pass.view.events

-- how many the worker k has made
abbrev pub steps_at : List WorkerSeen → ℕ → ℕ
steps_at ws k = or_none steps_of (get_elem? ws k)

-- a turn of the worker w, with this answer: the board behind it is that of plain data, and it tells the event
pub record IsTurnOn (r : Setup) (w : ℕ) (x : Step) (b after : Board) : Type 0 where
  pub event : event_in x ≡ event_then b.words (action_at r b w)
  pub board : after ≡ turned r w b

-- the worker k knows every cell, and has seen every cell done
abbrev pub HasEndedAt : List WorkerSeen → ℕ → Type 0
HasEndedAt ws k = (x : WorkerSeen) → get_elem? ws k ≡ some x → HasAll x

-- a worker that finished has
abbrev pub EndsAt : Step → List WorkerSeen → ℕ → Type 0
EndsAt (Did e) ws k = Unit {0}
EndsAt Finished ws k = HasEndedAt ws k

-- so has each worker below n that is not stopped
abbrev pub HaveEnded : List ℕ → List WorkerSeen → ℕ → Type 0
HaveEnded stopped ws n = (k : ℕ) → k < n → is_stopped stopped k ≡ false → HasEndedAt ws k

-- all workers but one are as they were
abbrev pub OthersStay : ℕ → List WorkerSeen → List WorkerSeen → Type 0
OthersStay w old new = (k : ℕ) → k ≢ w → get_elem? new k ≡ get_elem? old k
