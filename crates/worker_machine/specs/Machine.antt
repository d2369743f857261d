-- The worker's machine: what its state calls for, what changes without a step, and what follows from what a step found.
use Rattle.std.specs.Prelude.{ℕ, zero, suc, ◌+◌, ◌*◌, ◌/◌, true, false, cond, ltb, eqb, Option, Some, None, List, [], ◌∷◌, ◌++◌, length, set}
use Rattle.std.specs.Option.{option_or}
use Rattle.cell_values.specs.declared.values.Shown.{Shown}
use Rattle.cell_words.specs.declared.cell_word.CellWord.{CellWord}
use Rattle.cell_words.specs.Records.{record_words, tag_words, tag_of, value_of, filled, shown_read}
use Rattle.demand_spec.specs.declared.Asked.{Asked}
use Rattle.demand_spec.specs.declared.Asked.TheVariants.{Val, Needs}
use Rattle.demand_spec.specs.Book.{ask_cell}
use Rattle.claim_core.specs.declared.event.Claim.{Claim}
use Rattle.claim_core.specs.declared.event.Publish.{Publish}
use Rattle.claim_core.specs.declared.event.Event.{Event}
use Rattle.worker_machine.specs.declared.action.Action.{Action}
use Rattle.worker_machine.specs.declared.action.Change.{Change}
use Rattle.worker_machine.specs.declared.action.Change.TheVariants.{Take, Learn, Close}
use Rattle.worker_machine.specs.declared.action.Next.{Next}
use Rattle.worker_machine.specs.declared.action.Next.TheVariants.{Alter, Do, Rest}
use Rattle.worker_machine.specs.declared.state.Entry.{Entry}
use Rattle.worker_machine.specs.declared.state.Store.{Store}
use Rattle.worker_machine.specs.Jobs.{Job, cell_at, cell_number}
use Rattle.worker_machine.specs.Evaluation.{values, first_from, cells_of, has, pop, learn_top, part_to, mark_cycle}
use Rattle.worker_machine.specs.States.{Phase, Free, Claiming, ReadingTag, ReadingValue, State, known_at}

-- What the state calls for

-- a needed cell that is not known: on the stack it closes a cycle, else it is the next to look at
abbrev pub next_unknown : State → ℕ → Next
next_unknown s i = cond (has i (cells_of s.stack)) (Alter (Close i)) (Do (Action.Look i))

-- a needed cell that is pending: where it is known, it is known by a mark
abbrev pub next_pending : State → ℕ → Option Shown → Next
next_pending s i (Some r) = Alter (Learn Shown.ToCycle)
next_pending s i None = next_unknown s i

-- a needed cell: where it is not pending, it shows a mark
abbrev pub next_needed : State → Option ℕ → Next
next_needed s None = Alter (Learn Shown.ToCycle)
next_needed s (Some i) = next_pending s i (known_at s i)

-- what the formula of the top cell gives; each pending cell has a formula, so it never gives none
abbrev pub next_answered : Job → State → Option Asked → Next
next_answered j s (Some (Val v)) = Alter (Learn (Shown.Val v))
next_answered j s (Some (Needs x)) = next_needed s (cell_number j.pending x)
next_answered j s None = Alter (Learn Shown.ToCycle)

-- the result of the top cell goes into a record: the record is taken, the value words and the tag word are stored, the cell is published
abbrev pub next_store : ℕ → ℕ → Shown → Option Store → Next
next_store i c r None = Do Action.TakeRecord
next_store i c r (Some h) =
    cond (ltb h.stored (record_words r)) (Do (Action.StoreValue h.rec h.stored (value_of r h.stored)))
    (cond h.tagged (Do (Action.Publish i h.rec c)) (Do (Action.StoreTag h.rec (tag_of r))))

-- the top cell is known: it is taken off, or its claimer is owed
abbrev pub next_known : State → ℕ → Shown → Option ℕ → Next
next_known s i r None = Alter Take
next_known s i r (Some c) = next_store i c r s.held

-- the top cell is known, or it is asked
abbrev pub next_top : Job → State → Entry → Option Shown → Next
next_top j s f (Some r) = next_known s f.cell r f.owed
next_top j s f None = next_answered j s (ask_cell j.pending.book (values j.pending s.known) (cell_at j.pending f.cell))

-- the stack has a top, or it is empty
abbrev pub next_free : Job → State → List Entry → Next
next_free j s [] = Rest
next_free j s (f ∷ rest) = next_top j s f (known_at s f.cell)

-- a phase is brought to its end first
abbrev pub next_in : Job → State → Phase → Next
next_in j s (Claiming i) = Do (Action.Claim i)
next_in j s (ReadingTag i r) = Do (Action.LoadTag r)
next_in j s (ReadingValue i r t words) = Do (Action.LoadValue r (length words))
next_in j s Free = next_free j s s.stack

-- what the state calls for
unfoldable pub next : Job → State → Next
next j s = next_in j s s.phase

-- What changes without a step

-- the state after a change
abbrev pub after_change : State → Change → State
after_change s Take = record s { stack = pop s.stack }
after_change s (Learn r) = record s { known = learn_top s.stack r s.known }
after_change s (Close i) = record s { known = mark_cycle (part_to i (cells_of s.stack)) s.known }

-- how many cells are not known
abbrev pub unknown_in : List (Option Shown) → ℕ
unknown_in [] = 0
unknown_in (Some r ∷ rest) = unknown_in rest
unknown_in (None ∷ rest) = suc (unknown_in rest)

-- more changes than this can't come
abbrev pub changes_left : State → ℕ
changes_left s = unknown_in s.known + length s.stack

-- a change, and then on from there
abbrev pub settle_by : (State → State) → State → Next → State
settle_by again s (Alter c) = again (after_change s c)
settle_by again s (Do a) = s
settle_by again s Rest = s

-- up to n changes
abbrev pub settle_for : Job → ℕ → State → State
settle_for j zero = λ s. s
settle_for j (suc n) = λ s. settle_by (settle_for j n) s (next j s)

-- the state after all changes before a step
unfoldable pub settle : Job → State → State
settle j s = settle_for j (changes_left s) s

-- The step

-- where this worker begins: the workers' first cells are spread evenly
unfoldable pub begins_at : Job → ℕ
begins_at j = j.worker * length j.pending.cells / j.workers

-- a look at the cell, if there is one
abbrev pub look_at_cell : Option ℕ → Option Action
look_at_cell (Some i) = Some (Action.Look i)
look_at_cell None = None

-- where the stack is empty, the hint is looked at, if there is one, and else the first cell that is not known
abbrev pub action_from : Job → State → Option ℕ → Next → Option Action
action_from j s hint (Alter c) = None
action_from j s hint (Do a) = Some a
action_from j s hint Rest = look_at_cell (option_or hint (first_from s.known (begins_at j)))

-- the step of a settled state, none where the worker is finished
abbrev pub action : Job → State → Option ℕ → Option Action
action j s hint = action_from j s hint (next j s)

-- What follows from what a step found

-- the cell i is put on the stack
abbrev pub push_cell : ℕ → Option ℕ → State → State
push_cell i owed s = record s { stack = record { cell = i; owed = owed } ∷ s.stack; phase = Free }

-- the cell i is known
abbrev pub learn_cell : ℕ → Shown → State → State
learn_cell i r s = record s { known = set s.known i (Some r); phase = Free }

-- a cell's word: a stale cell is claimed, a claimed one is put on the stack, and of a done one the record is read
abbrev pub after_word : State → ℕ → CellWord → State
after_word s i CellWord.Stale = record s { phase = Claiming i }
after_word s i (CellWord.Claimed c) = push_cell i (Some c) s
after_word s i (CellWord.Done p c r) = record s { phase = ReadingTag i r }

-- a claim that was won is owed to the worker itself
abbrev pub after_claim : Job → State → ℕ → Claim → State
after_claim j s i Claim.Won = push_cell i (Some j.worker) s
after_claim j s i (Claim.Found w) = after_word s i w

-- a tag: a mark of a cell that leads into a cycle is believed, a cell of a cycle is walked again, and of a value the words are read
abbrev pub after_tag : State → ℕ → ℕ → ℕ → State
after_tag s i r t = cond (eqb t 7) (learn_cell i Shown.ToCycle s) (cond (eqb t 6) (push_cell i None s) (record s { phase = ReadingValue i r t [] }))

-- the tag of the record that is read
abbrev pub after_load_tag : State → ℕ → Phase → State
after_load_tag s t (ReadingTag i r) = after_tag s i r t
after_load_tag s t Free = s
after_load_tag s t (Claiming i) = s
after_load_tag s t (ReadingValue i r u words) = s

-- a record that was read tells the cell's result; were it none, the cell would be evaluated
abbrev pub after_record : State → ℕ → Option Shown → State
after_record s i (Some r) = learn_cell i r s
after_record s i None = push_cell i None s

-- the value words that were read: as many as the tag says, or more are to be read
abbrev pub after_value : State → ℕ → ℕ → ℕ → List ℕ → State
after_value s i r t words = cond (ltb (length words) (tag_words t)) (record s { phase = ReadingValue i r t words }) (after_record s i (shown_read t (filled words)))

-- the next value word of the record that is read
abbrev pub after_load_value : State → ℕ → Phase → State
after_load_value s w (ReadingValue i r t words) = after_value s i r t (words ++ w ∷ [])
after_load_value s w Free = s
after_load_value s w (Claiming i) = s
after_load_value s w (ReadingTag i r) = s

-- one value word more is stored
abbrev pub with_word : Option Store → Option Store
with_word (Some h) = Some (record h { stored = suc h.stored })
with_word None = None

-- the tag word is stored
abbrev pub with_tag : Option Store → Option Store
with_tag (Some h) = Some (record h { tagged = true })
with_tag None = None

-- a record in which nothing is stored for the top cell
abbrev pub fresh_store : ℕ → Store
fresh_store r = record { rec = r; stored = 0; tagged = false }

-- a record is given away by a publish that won, and kept by one that lost
abbrev pub store_after : Publish → ℕ → Option Store
store_after Publish.Won r = None
store_after (Publish.Lost p c k) r = Some (fresh_store r)

-- the state after an event
abbrev pub after : Job → State → Event → State
after j s (Event.Look i w) = after_word s i w
after j s (Event.Claim i a) = after_claim j s i a
after j s (Event.TakeRecord r) = record s { held = Some (fresh_store r) }
after j s (Event.StoreValue r k w) = record s { held = with_word s.held }
after j s (Event.StoreTag r w) = record s { held = with_tag s.held }
after j s (Event.Publish i r a) = record s { stack = pop s.stack; held = store_after a r }
after j s (Event.LoadTag r t) = after_load_tag s t s.phase
after j s (Event.LoadValue r k w) = after_load_value s w s.phase
