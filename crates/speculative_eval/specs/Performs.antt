-- What a step of the round asks, and what follows for the pass.
use Rattle.std.specs.Prelude.{◌≡◌, ℕ, ◌+◌, ◌<◌, Option, Some, length, IfSome, IsSome, IsNone}
use Rattle.cell_values.specs.declared.values.Shown.{Shown}
use Rattle.cell_words.specs.declared.TheConstants.{WORDS}
use Rattle.cell_words.specs.declared.cell_word.CellWord.{CellWord}
use Rattle.cell_words.specs.Records.{IsShown}
use Rattle.claim_core.specs.declared.event.Event.{Event}
use Rattle.claim_core.specs.Rule.{Seen, shown_in}
use Rattle.claim_core.specs.Steps.{HasSpelt, rec_of, taken_after}
use Rattle.claim_core.specs.Passes.{RoundSeen, PassSeen}
use Rattle.worker_machine.specs.declared.action.Action.{Action}
use Rattle.worker_machine.specs.declared.action.Next.{Next}
use Rattle.worker_machine.specs.declared.action.Next.TheVariants.{Alter, Do, Rest}

-- where the action stores a tag, what is shown fits its words
abbrev pub TagFits : Action → Option Shown → Type 0
TagFits (Action.StoreTag r w) o = IfSome o IsShown
TagFits (Action.Look i) o = Unit {0}
TagFits (Action.Claim i) o = Unit {0}
TagFits Action.TakeRecord o = Unit {0}
TagFits (Action.StoreValue r k w) o = Unit {0}
TagFits (Action.Publish i r c) o = Unit {0}
TagFits (Action.LoadTag r) o = Unit {0}
TagFits (Action.LoadValue r k) o = Unit {0}

-- the same of the action that the state calls for
abbrev pub FitsTag : Next → Option Shown → Type 0
FitsTag (Do a) o = TagFits a o
FitsTag (Alter c) o = Unit {0}
FitsTag Rest o = Unit {0}

-- the round allows the step
abbrev pub CanDo : RoundSeen → PassSeen → Action → Type 0
CanDo r p (Action.Look i) = i < length r.setup.cells
CanDo r p (Action.Claim i) = i < length r.setup.cells
CanDo r p Action.TakeRecord = IsNone p.taken
CanDo r p (Action.StoreValue n k w) = IsSome p.taken × (rec_of p.view.held ≡ n) × (k < WORDS)
CanDo r p (Action.StoreTag n w) = IsSome p.taken × (rec_of p.view.held ≡ n)
CanDo r p (Action.Publish i n c) = IsSome p.taken × (rec_of p.view.held ≡ n) × (i < length r.setup.cells) × (c < r.setup.workers) × Seen p.view i (CellWord.Claimed c) × HasSpelt (shown_in r.setup i) p.view
CanDo r p (Action.LoadTag n) = n < length r.setup.cells + r.setup.workers
CanDo r p (Action.LoadValue n k) = (n < length r.setup.cells + r.setup.workers) × (k < WORDS)

-- the record that a pass holds after the event
abbrev pub taken_by : Event → Option ℕ → Option ℕ
taken_by (Event.Look i w) taken = taken
taken_by (Event.Claim i a) taken = taken
taken_by (Event.TakeRecord r) taken = Some r
taken_by (Event.StoreValue r k w) taken = taken
taken_by (Event.StoreTag r w) taken = taken
taken_by (Event.Publish i r a) taken = taken_after a taken
taken_by (Event.LoadTag r t) taken = taken
taken_by (Event.LoadValue r k w) taken = taken
