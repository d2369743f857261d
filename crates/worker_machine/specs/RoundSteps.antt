-- A worker's view of the round, what each step asks of the round, and what it is told.
use Rattle.std.specs.Prelude.{◌≡◌, ℕ, ◌+◌, ◌<◌, Option, None, Some, [], ◌∷◌, length, IfSome}
use Rattle.cell_words.specs.declared.TheConstants.{WORDS}
use Rattle.cell_words.specs.declared.cell_word.CellWord.{CellWord}
use Rattle.cell_words.specs.Records.{IsShown, record_words, tag_of, value_of}
use Rattle.claim_core.specs.declared.event.Event.{Event}
use Rattle.claim_core.specs.declared.view.View.{View}
use Rattle.claim_core.specs.Rule.{setup_of, shown_at, Seen, SeenDone, InRound, AnswerInRound}
use Rattle.claim_core.specs.Steps.{HasSpelt, rec_of}
use Rattle.worker_machine.specs.declared.action.Action.{Action}
use Rattle.worker_machine.specs.Jobs.{Job, round_of, shows}
use Rattle.worker_machine.specs.States.{State, known_at, top_result}
use Rattle.worker_machine.specs.Machine.{action}

-- the view is this worker's, in this round
pub record IsViewOf (j : Job) (v : View) : Type 0 where
  pub of_round : setup_of v ≡ round_of j
  pub number : v.numbers ≡ j.worker ∷ []

-- the view of a worker that has done nothing
pub record IsFreshView (j : Job) (v : View) : Type 0 where
  pub view : IsViewOf j v
  pub no_events : v.events ≡ []
  pub holds_none : v.held ≡ []

-- the claimer that a publish names
abbrev pub claimer_in : Action → ℕ
claimer_in (Action.Publish i r c) = c
claimer_in (Action.Look i) = 0
claimer_in (Action.Claim i) = 0
claimer_in Action.TakeRecord = 0
claimer_in (Action.StoreValue r k w) = 0
claimer_in (Action.StoreTag r w) = 0
claimer_in (Action.LoadTag r) = 0
claimer_in (Action.LoadValue r k) = 0

-- the action that an event was made by; of a publish, the one that names this claimer
abbrev pub action_of : ℕ → Event → Action
action_of c (Event.Look i w) = Action.Look i
action_of c (Event.Claim i a) = Action.Claim i
action_of c (Event.TakeRecord r) = Action.TakeRecord
action_of c (Event.StoreValue r k w) = Action.StoreValue r k w
action_of c (Event.StoreTag r w) = Action.StoreTag r w
action_of c (Event.Publish i r a) = Action.Publish i r c
action_of c (Event.LoadTag r t) = Action.LoadTag r
action_of c (Event.LoadValue r k w) = Action.LoadValue r k

-- the event is what came of this action
abbrev pub IsEvent : Action → Event → Type 0
IsEvent a e = a ≡ action_of (claimer_in a) e

-- what the round asks of a step, where the worker holds this record
abbrev pub IsAllowed : Job → View → Option ℕ → Action → Type 0
IsAllowed j v held (Action.Look i) = i < length j.pending.cells
IsAllowed j v held (Action.Claim i) = i < length j.pending.cells
IsAllowed j v held Action.TakeRecord = (held ≡ None) × (v.held ≡ [])
IsAllowed j v held (Action.StoreValue r k w) = (held ≡ Some r) × (rec_of v.held ≡ r) × (k < WORDS)
IsAllowed j v held (Action.StoreTag r w) = (held ≡ Some r) × (rec_of v.held ≡ r)
IsAllowed j v held (Action.Publish i r c) = (held ≡ Some r) × (rec_of v.held ≡ r) × (i < length j.pending.cells) × (c < j.workers) × Seen v i (CellWord.Claimed c) × HasSpelt (shows j.pending i) v
IsAllowed j v held (Action.LoadTag r) = r < length j.pending.cells + j.workers
IsAllowed j v held (Action.LoadValue r k) = (r < length j.pending.cells + j.workers) × (k < WORDS)

-- what is known of a step's event: a word's numbers are the round's, the record of a cell that was seen done spells what the book shows there, and a tag word is that of a result of the program
abbrev pub IsTold : View → State → Event → Type 0
IsTold v s (Event.Look i w) = InRound v w
IsTold v s (Event.Claim i a) = AnswerInRound v a
IsTold v s (Event.TakeRecord r) = Unit {0}
IsTold v s (Event.StoreValue r k w) = Unit {0}
IsTold v s (Event.StoreTag r w) = IfSome (top_result s.known s.stack) IsShown
IsTold v s (Event.Publish i r a) = Unit {0}
IsTold v s (Event.LoadTag r t) = (i : ℕ) → SeenDone v i r → (t ≡ tag_of (shown_at v i)) × IsShown (shown_at v i)
IsTold v s (Event.LoadValue r k w) = (i : ℕ) → SeenDone v i r → k < record_words (shown_at v i) → (w ≡ value_of (shown_at v i) k) × IsShown (shown_at v i)

-- a hint names a cell that is not known
abbrev pub IsHint : Job → State → Option ℕ → Type 0
IsHint j s None = Unit {0}
IsHint j s (Some i) = (i < length j.pending.cells) × (known_at s i ≡ None)

-- a step of a settled state: its action, and what came of it
pub record IsStep (j : Job) (v : View) (s : State) (e : Event) : Type 0 where
  pub hint : Option ℕ
  pub new : IsHint j s hint
  pub act : Action
  pub called : action j s hint ≡ Some act
  pub made : IsEvent act e
  pub told : IsTold v s e
