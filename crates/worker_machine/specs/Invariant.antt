-- What holds of a worker between any two of its steps.
use Rattle.std.specs.Prelude.{◌≡◌, ℕ, ◌+◌, ◌*◌, ◌<◌, ◌≤◌, ◌⊎◌, true, false, Option, Some, None, List, [], ◌∷◌, length, get_or}
use Rattle.cell_values.specs.declared.values.Value.{Value}
use Rattle.cell_values.specs.declared.values.Shown.{Shown}
use Rattle.cell_words.specs.declared.TheConstants.{WORDS}
use Rattle.cell_words.specs.declared.cell_word.CellWord.{CellWord}
use Rattle.cell_words.specs.Records.{IsShown, tag_of, tag_words, value_of}
use Rattle.claim_core.specs.declared.view.Held.{Held}
use Rattle.claim_core.specs.declared.view.View.{View}
use Rattle.claim_core.specs.Rule.{Seen, SeenDone}
use Rattle.claim_core.specs.HeldRecords.{held_value}
use Rattle.worker_machine.specs.declared.state.Entry.{Entry}
use Rattle.worker_machine.specs.declared.state.Store.{Store}
use Rattle.worker_machine.specs.Jobs.{Job, IsJob, shows}
use Rattle.worker_machine.specs.Evaluation.{Among, IsEvaluation, cells_of}
use Rattle.worker_machine.specs.States.{Phase, Free, Claiming, ReadingTag, ReadingValue, State, known_at}
use Rattle.worker_machine.specs.RoundSteps.{IsViewOf}
use Rattle.worker_machine.specs.Left.{left}

-- the cell that is looked at, and then those of the stack
abbrev pub open_cells : Phase → List ℕ → List ℕ
open_cells Free cs = cs
open_cells (Claiming i) cs = i ∷ cs
open_cells (ReadingTag i r) cs = i ∷ cs
open_cells (ReadingValue i r t words) cs = i ∷ cs

-- a cell was seen done
abbrev pub SawDone : View → ℕ → Type 0
SawDone v i = (k : ℕ) × SeenDone v i k

-- a cell was seen done with a record of the round
abbrev pub SawDoneWith : Job → View → ℕ → ℕ → Type 0
SawDoneWith j v i r = SeenDone v i r × (r < length j.pending.cells + j.workers)

-- the tag and these first value words are those of the value that the book shows at the cell i, and more are to come
pub record WordsRead (j : Job) (i t : ℕ) (words : List ℕ) : Type 0 where
  pub value : Value
  pub is_value : shows j.pending i ≡ Shown.Val value
  pub tag : t ≡ tag_of (shows j.pending i)
  pub more : length words < tag_words t
  pub same : (k : ℕ) → k < length words → get_or words k 0 ≡ value_of (shows j.pending i) k

-- a record that is read is that of a cell seen done
abbrev pub ReadsDone : Job → View → Phase → Type 0
ReadsDone j v Free = Unit {0}
ReadsDone j v (Claiming i) = Unit {0}
ReadsDone j v (ReadingTag i r) = SawDoneWith j v i r
ReadsDone j v (ReadingValue i r t words) = SawDoneWith j v i r × WordsRead j i t words

-- a claimer that is owed was seen in the cell's word, and where nothing is owed the cell was seen done
abbrev pub IsOwed : Job → View → ℕ → Option ℕ → Type 0
IsOwed j v i None = SawDone v i
IsOwed j v i (Some c) = Seen v i (CellWord.Claimed c) × (c < j.workers)

-- so it is for each cell of the stack
abbrev pub AreOwed : Job → View → List Entry → Type 0
AreOwed j v [] = Unit {0}
AreOwed j v (f ∷ rest) = IsOwed j v f.cell f.owed × AreOwed j v rest

-- a known cell was seen done, or is on the stack
abbrev pub IsMet : View → List (Option Shown) → List ℕ → Type 0
IsMet v known cs = (i : ℕ) (r : Shown) → get_or known i None ≡ Some r → SawDone v i ⊎ Among i cs

-- what ties the evaluation to the round: what is read was seen done, who is owed was seen, and where each known cell was met
pub record IsTied (j : Job) (v : View) (s : State) : Type 0 where
  pub reading : ReadsDone j v s.phase
  pub owing : AreOwed j v s.stack
  pub met : IsMet v s.known (cells_of s.stack)

-- what is known is right, and where it comes from
pub record IsRightState (j : Job) (v : View) (s : State) : Type 0 where
  pub evaluation : IsEvaluation j.pending s.known (open_cells s.phase (cells_of s.stack))
  pub tied : IsTied j v s

-- the top cell i is known by r, and c is owed
pub record TopIsOwed (s : State) (i c : ℕ) (r : Shown) : Type 0 where
  pub entry : Entry
  pub rest : List Entry
  pub is_free : s.phase ≡ Free
  pub on_top : s.stack ≡ entry ∷ rest
  pub cell : entry.cell ≡ i
  pub is_known : known_at s i ≡ Some r
  pub owed : entry.owed ≡ Some c

-- nothing is stored for the top cell
abbrev pub IsUnwritten : Store → Type 0
IsUnwritten h = (h.stored ≡ 0) × (h.tagged ≡ false)

-- part of the top cell's result is stored
pub record HoldsPart (s : State) (h : Store) (x : Held) : Type 0 where
  pub cell : ℕ
  pub claimer : ℕ
  pub result : Shown
  pub owed : TopIsOwed s cell claimer result
  pub words : (k : ℕ) → k < h.stored → held_value k x ≡ Some (value_of result k)
  pub tag : h.tagged ≡ true → (x.tag ≡ Some (tag_of result)) × IsShown result

-- the record that is held, with the words that were stored
pub record HoldsRecord (v : View) (s : State) (h : Store) : Type 0 where
  pub holds : Held
  pub is_held : v.held ≡ holds ∷ []
  pub rec : holds.rec ≡ h.rec
  pub stored : IsUnwritten h ⊎ HoldsPart s h holds

-- the view holds what the worker noted
abbrev pub HoldsNoted : View → State → Option Store → Type 0
HoldsNoted v s None = v.held ≡ []
HoldsNoted v s (Some h) = HoldsRecord v s h

-- the same of the worker's own note
abbrev pub HoldsAsNoted : View → State → Type 0
HoldsAsNoted v s = HoldsNoted v s s.held

-- the steps that were made and those that can come are few
abbrev pub IsBounded : Job → View → State → Type 0
IsBounded j v s = length v.events + left (length j.pending.cells) s ≤ (5 + WORDS) * length j.pending.cells + (2 + WORDS)

-- what holds of a worker between any two of its steps
pub record IsWorker (j : Job) (v : View) (s : State) : Type 0 where
  pub job : IsJob j
  pub view : IsViewOf j v
  pub state : IsRightState j v s
  pub writes : HoldsAsNoted v s
  pub bounded : IsBounded j v s

-- the cells of the stack have a place among the known results
abbrev pub EntriesBelow : ℕ → List Entry → Type 0
EntriesBelow n [] = Unit {0}
EntriesBelow n (f ∷ rest) = (f.cell < n) × EntriesBelow n rest

-- all that settling needs
abbrev pub Within : State → Type 0
Within s = EntriesBelow (length s.known) s.stack
