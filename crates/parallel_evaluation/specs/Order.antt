-- A run of the workers of a round in a given order, on plain data.
use Rattle.std.specs.Prelude.{ℕ, zero, suc, ◌+◌, ◌*◌, Bool, cond, ◌==◌, Option, Some, None, List, [], ◌∷◌, ◌++◌, replicate, length, get_or, set}
use Rattle.std.specs.List.{list_any}
use Rattle.cell_values.specs.declared.address.Addr.{Addr}
use Rattle.demand_spec.specs.Book.{Book}
use Rattle.claim_core.specs.declared.event.Event.{Event}
use Rattle.claim_core.specs.declared.view.RoundWords.{RoundWords}
use Rattle.claim_core.specs.Rule.{Setup}
use Rattle.claim_core.specs.Table.{first_words}
use Rattle.worker_machine.specs.declared.action.Action.{Action}
use Rattle.worker_machine.specs.Jobs.{Job}
use Rattle.worker_machine.specs.States.{State, start}
use Rattle.worker_machine.specs.Machine.{settle, action}
use Rattle.worker_machine.specs.Found.{event_then, words_then, state_then}
use Rattle.parallel_evaluation.specs.declared.trace.Traced.{Traced}

-- the work of the worker w of the round
abbrev pub job_of : Setup → ℕ → Job
job_of r w = record { pending = record { book = r.book; cells = r.cells }; worker = w; workers = r.workers }

-- a run so far: its events, the words as they stand, and the state in which each worker's last step left it
pub record Board : Type 0 where
  pub events : List Traced
  pub words : RoundWords
  pub states : List State

-- before the first step: all words are those of a round that was just opened, and no worker has done anything
abbrev pub opening : Setup → Board
opening r = record { events = []; words = first_words r; states = replicate r.workers (start (job_of r 0)) }

-- the state of the worker w
abbrev pub state_at : Setup → Board → ℕ → State
state_at r b w = get_or b.states w (start (job_of r w))

-- the event of the worker w, if there is one
abbrev pub traced : ℕ → Option Event → List Traced
traced w None = []
traced w (Some e) = record { worker = w; event = e } ∷ []

-- what an action of a worker makes of the board, where the worker has settled to s: it finds what the words say. A finished worker has none
abbrev pub with_action : Job → State → Option Action → Board → Board
with_action j s a b = record {
  events = b.events ++ traced j.worker (event_then b.words a);
  words = words_then j.worker b.words a;
  states = set b.states j.worker (state_then j b.words s a);
}

-- the state of the worker w, settled
abbrev pub settled_at : Setup → Board → ℕ → State
settled_at r b w = settle (job_of r w) (state_at r b w)

-- the next action of the worker w
abbrev pub action_at : Setup → Board → ℕ → Option Action
action_at r b w = action (job_of r w) (settled_at r b w) None

-- one turn of the worker w
abbrev pub turned : Setup → ℕ → Board → Board
turned r w b = with_action (job_of r w) (settled_at r b w) (action_at r b w) b

-- a turn of each worker that the list names
abbrev pub run : Setup → List ℕ → Board → Board
run r [] b = b
run r (w ∷ ws) b = run r ws (turned r w b)

-- on, if there was an action
abbrev pub unless_finished : Option Action → (Board → Board) → Board → Board
unless_finished None again b = b
unless_finished (Some a) again b = again b

-- turns of the worker w until it is finished, n at most
abbrev pub to_end : Setup → ℕ → ℕ → Board → Board
to_end r w zero b = b
to_end r w (suc n) b = unless_finished (action_at r b w) (to_end r w n) (turned r w b)

-- as many as a worker over m cells can need, with the one that finds it finished
abbrev pub most_turns : ℕ → ℕ
most_turns m = 16 * m + 17

-- the worker w is one of those that are stopped
abbrev pub is_stopped : List ℕ → ℕ → Bool
is_stopped stopped w = list_any (λ k. k == w) stopped

-- the worker w to its end, unless it is stopped
abbrev pub ended : Setup → List ℕ → ℕ → Board → Board
ended r stopped w b = cond (is_stopped stopped w) b (to_end r w (most_turns (length r.cells)) b)

-- so n workers, one after the other, from w on
abbrev pub all_ended : Setup → List ℕ → ℕ → ℕ → Board → Board
all_ended r stopped zero w b = b
all_ended r stopped (suc n) w b = all_ended r stopped n (suc w) (ended r stopped w b)

-- a whole run: a turn of each worker that the order names, and then each that is not stopped to its end, worker 0 first
abbrev pub whole_run : Setup → List ℕ → List ℕ → Board
whole_run r order stopped = all_ended r stopped r.workers 0 (run r order (opening r))

-- the events of a whole run over pending cells; there are none where nothing is pending
unfoldable pub run_order : Book → List Addr → ℕ → List ℕ → List ℕ → List Traced
run_order b [] workers order stopped = []
run_order b (c ∷ cells) workers order stopped = (whole_run (record { book = b; cells = c ∷ cells; workers = workers }) order stopped).events
