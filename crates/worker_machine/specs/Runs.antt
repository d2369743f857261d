-- A worker's run, and what is proved of every run, whatever the other workers do.
use Rattle.std.specs.Prelude.{◌≡◌, ℕ, ◌+◌, ◌*◌, ◌<◌, ◌≤◌, Option, Some, None, List, [], length}
use Rattle.cell_words.specs.declared.TheConstants.{WORDS}
use Rattle.claim_core.specs.declared.event.Event.{Event}
use Rattle.claim_core.specs.declared.view.View.{View}
use Rattle.claim_core.specs.Steps.{grown}
use Rattle.claim_core.specs.Passes.{SeesAllDone}
use Rattle.worker_machine.specs.declared.action.Action.{Action}
use Rattle.worker_machine.specs.declared.action.Change.{Change}
use Rattle.worker_machine.specs.declared.action.Next.TheVariants.{Alter}
use Rattle.worker_machine.specs.Jobs.{Job, IsJob}
use Rattle.worker_machine.specs.Evaluation.{AllRight, KnowsAll}
use Rattle.worker_machine.specs.States.{State, Phase, Free, Claiming, ReadingTag, ReadingValue, start, held_number}
use Rattle.worker_machine.specs.Machine.{next, after_change, settle, action, after}
use Rattle.worker_machine.specs.RoundSteps.{IsFreshView, IsAllowed, IsHint, IsStep}
use Rattle.worker_machine.specs.Invariant.{IsWorker}

-- the states and views that a worker comes to: from its start on, it settles and makes a step, and again
pub data IsRun (j : Job) : View → State → Type 0 where
  at_start : (v : View) → IsFreshView j v → IsRun j v (start j)
  further : (v : View) (s : State) (e : Event) → IsRun j v s → IsStep j v (settle j s) e → IsRun j (grown e v) (after j (settle j s) e)

-- nothing changes before a step
abbrev pub IsSettled : Job → State → Type 0
IsSettled j s = (c : Change) → next j s ≡ Alter c → ⊥

-- each result that a worker knows is what the book shows, before and after it settles
abbrev pub ResultsRight : Type 0
ResultsRight = (j : Job) → IsJob j → (v : View) (s : State) → IsRun j v s → AllRight j.pending s.known × AllRight j.pending (settle j s).known

-- each step is one that the round allows
abbrev pub StepsAllowed : Type 0
StepsAllowed = (j : Job) → IsJob j → (v : View) (s : State) → IsRun j v s → (hint : Option ℕ) → IsHint j (settle j s) hint → (a : Action) → action j (settle j s) hint ≡ Some a → IsAllowed j v (held_number (settle j s).held) a

-- a worker that has no step left knows every cell, and has seen every cell done
abbrev pub EndsWithAll : Type 0
EndsWithAll = (j : Job) → IsJob j → (v : View) (s : State) → IsRun j v s → (hint : Option ℕ) → action j (settle j s) hint ≡ None → KnowsAll j.pending (settle j s).known × SeesAllDone (length j.pending.cells) v

-- a worker makes few steps
abbrev pub FewSteps : Type 0
FewSteps = (j : Job) → IsJob j → (v : View) (s : State) → IsRun j v s → length v.events ≤ 16 * length j.pending.cells + 16

-- what holds between two steps holds at the start
abbrev pub WorkerBegins : Type 0
WorkerBegins = (j : Job) → IsJob j → (v : View) → IsFreshView j v → IsWorker j v (start j)

-- each change keeps it, and so does settling, after which nothing changes
abbrev pub ChangesKeep : Type 0
ChangesKeep = (j : Job) (v : View) (s : State) → IsWorker j v s → ((c : Change) → next j s ≡ Alter c → IsWorker j v (after_change s c)) × IsWorker j v (settle j s) × IsSettled j (settle j s)

-- 1 where a cell is looked at
abbrev pub looked_at : Phase → ℕ
looked_at Free = 0
looked_at (Claiming i) = 1
looked_at (ReadingTag i r) = 1
looked_at (ReadingValue i r t words) = 1

-- the value words that were read
abbrev pub words_of : Phase → List ℕ
words_of Free = []
words_of (Claiming i) = []
words_of (ReadingTag i r) = []
words_of (ReadingValue i r t words) = words

-- the stack and the cell that is looked at are no more than the cells, and fewer value words were read than a record has
abbrev pub StaysSmall : Type 0
StaysSmall = (j : Job) (v : View) (s : State) → IsWorker j v s → (length s.stack + looked_at s.phase ≤ length j.pending.cells) × (length (words_of s.phase) < WORDS)

-- to settle is to change once and settle then, until nothing changes
abbrev pub SettlesInTurn : Type 0
SettlesInTurn = (j : Job) (v : View) (s : State) → IsWorker j v s → ((c : Change) → next j s ≡ Alter c → settle j s ≡ settle j (after_change s c)) × (IsSettled j s → settle j s ≡ s)

-- each step keeps it
abbrev pub StepsKeep : Type 0
StepsKeep = (j : Job) (v : View) (s : State) (e : Event) → IsWorker j v s → IsStep j v s e → IsWorker j (grown e v) (after j s e)
