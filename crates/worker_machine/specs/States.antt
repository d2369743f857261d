-- The state of a worker.
use Rattle.std.specs.Prelude.{ℕ, Option, Some, None, List, [], ◌∷◌, length, get_or, replicate}
use Rattle.cell_values.specs.declared.values.Shown.{Shown}
use Rattle.worker_machine.specs.declared.state.Doing.{Doing}
use Rattle.worker_machine.specs.declared.state.Entry.{Entry}
use Rattle.worker_machine.specs.declared.state.Store.{Store}
use Rattle.worker_machine.specs.Jobs.{Job}

-- what a worker is in the middle of: a cell that it claims, or whose record it reads, word by word
pub data Phase : Type 0 where
  Free : Phase
  Claiming : ℕ → Phase
  ReadingTag : ℕ → ℕ → Phase
  ReadingValue : ℕ → ℕ → ℕ → List ℕ → Phase

-- the stack, its top first; what is known of each cell; the record that is held; the phase
pub record State : Type 0 where
  pub stack : List Entry
  pub known : List (Option Shown)
  pub held : Option Store
  pub phase : Phase

-- the phase, from what is done and the value words read so far
abbrev pub phase_of : Doing → List ℕ → Phase
phase_of Doing.Free words = Free
phase_of (Doing.Claiming i) words = Claiming i
phase_of (Doing.ReadingTag i r) words = ReadingTag i r
phase_of (Doing.ReadingValue i r t) words = ReadingValue i r t words

-- where a worker begins: it has done nothing and knows nothing
abbrev pub start : Job → State
start j = record { stack = []; known = replicate (length j.pending.cells) None; held = None; phase = Free }

-- the known result of the cell i
abbrev pub known_at : State → ℕ → Option Shown
known_at s i = get_or s.known i None

-- the known result of the top cell
abbrev pub top_result : List (Option Shown) → List Entry → Option Shown
top_result known [] = None
top_result known (f ∷ rest) = get_or known f.cell None

-- the number of the record that is held
abbrev pub held_number : Option Store → Option ℕ
held_number None = None
held_number (Some h) = Some h.rec
