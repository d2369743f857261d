-- What an action comes to on words that are told, as a worker's steps do in a given order.
use Rattle.std.specs.Prelude.{ℕ, slice_index, Option, Some, None}
use Rattle.claim_core.specs.declared.event.Event.{Event}
use Rattle.claim_core.specs.declared.view.RoundWords.{RoundWords}
use Rattle.claim_core.specs.Rule.{cell_in}
use Rattle.claim_core.specs.Steps.{claim_answer, publish_answer, words_after}
use Rattle.claim_core.specs.Words.{value_place}
use Rattle.worker_machine.specs.declared.action.Action.{Action}
use Rattle.worker_machine.specs.declared.pace.Kind.{Kind}
use Rattle.worker_machine.specs.Jobs.{Job}
use Rattle.worker_machine.specs.States.{State}
use Rattle.worker_machine.specs.Machine.{after}

-- the event that the action comes to on these words
abbrev pub found : RoundWords → Action → Event
found r (Action.Look i) = Event.Look i (cell_in r i)
found r (Action.Claim i) = Event.Claim i (claim_answer (cell_in r i))
found r Action.TakeRecord = Event.TakeRecord r.counter
found r (Action.StoreValue n k w) = Event.StoreValue n k w
found r (Action.StoreTag n w) = Event.StoreTag n w
found r (Action.Publish i n c) = Event.Publish i n (publish_answer (cell_in r i))
found r (Action.LoadTag n) = Event.LoadTag n (slice_index r.tags n)
found r (Action.LoadValue n k) = Event.LoadValue n k (slice_index r.values (value_place n k))

-- the event of a worker's turn, none where it has no action
abbrev pub event_then : RoundWords → Option Action → Option Event
event_then r None = None
event_then r (Some a) = Some (found r a)

-- the words after a turn of the worker w
abbrev pub words_then : ℕ → RoundWords → Option Action → RoundWords
words_then w r None = r
words_then w r (Some a) = words_after w (found r a) r

-- the state of the worker after its turn
abbrev pub state_then : Job → RoundWords → State → Option Action → State
state_then j r s None = s
state_then j r s (Some a) = after j s (found r a)

-- the kind of an action
abbrev pub kind_of : Action → Kind
kind_of (Action.Look i) = Kind.Look
kind_of (Action.Claim i) = Kind.Claim
kind_of Action.TakeRecord = Kind.TakeRecord
kind_of (Action.StoreValue r k w) = Kind.StoreValue
kind_of (Action.StoreTag r w) = Kind.StoreTag
kind_of (Action.Publish i r c) = Kind.Publish
kind_of (Action.LoadTag r) = Kind.LoadTag
kind_of (Action.LoadValue r k) = Kind.LoadValue
