-- What a stack keeps of each cell, and that it says what it is to say.
use Rattle.std.specs.Prelude.{◌≡◌, ℕ, ◌<◌, ◌≤◌, false, cond, eqb, Option, Some, None, IsSome, List, [], ◌∷◌, length, get_or, set, map}
use Rattle.cell_values.specs.declared.address.Addr.{Addr}
use Rattle.cell_values.specs.declared.values.Shown.{Shown}
use Rattle.workbook_core.specs.Books.{SharedBook}
use Rattle.claim_core.specs.Pending.{IsPending}
use Rattle.formula_eval.specs.Stacks.{Stack}
use Rattle.worker_machine.specs.Jobs.{cell_at}
use Rattle.worker_machine.specs.Evaluation.{IsEvaluation, has}
use Rattle.demand_stack.specs.declared.notes.Note.{Note}
use Rattle.demand_stack.specs.StackSeen.{AreStored}
use Rattle.demand_stack.specs.Open.{depths, AreOpen, begun_of, blank}
use Rattle.demand_stack.specs.Recall.{known_of, cells_in, look_over}

-- all cells from here on and below there are known
pub record AreKnown (known : List (Option Shown)) (from to : ℕ) : Type 0 where
  pub order : from ≤ to
  pub within : to ≤ length known
  pub each : (i : ℕ) → from ≤ i → i < to → IsSome (get_or known i None)

-- the first cell from here on that is not known, or how many there are
pub record IsNextUnknown (known : List (Option Shown)) (from next : ℕ) : Type 0 where
  pub passed : AreKnown known from next
  pub unknown : next < length known → get_or known next None ≡ None

-- the notes say what the stack's cells are and what is known, exactly the evaluations that were begun stand open, all
-- fits into the room, and all cells up to the two places of the search are known
pub record IsKept (w : SharedBook) (cells : List Addr) (results : List (Addr × Shown)) (first : ℕ) (cs : List ℕ) (ns : List Note) (fs : Stack) (room ahead passed : ℕ) : Type 0 where
  pub pending : IsPending w.book cells
  pub stored : AreStored (cells_in w cells) results
  pub evaluation : IsEvaluation (cells_in w cells) (known_of ns) cs
  pub marked : (i : ℕ) → (get_or ns i blank).on_stack ≡ has i cs
  pub shut : (i : ℕ) (r : Shown) → (get_or ns i blank).shown ≡ Some r → (get_or ns i blank).begun ≡ false
  pub begun : AreOpen w.pool w.book (look_over w cells (known_of ns)) (map (cell_at (cells_in w cells)) (begun_of ns cs)) fs.frames
  pub frames_fit : depths w.book cells ≤ fs.room
  pub stack_fits : length cells ≤ room
  pub ahead_known : AreKnown (known_of ns) first ahead
  pub passed_known : AreKnown (known_of ns) 0 passed

-- the cells below this one
abbrev pub lower : ℕ → List ℕ → List ℕ
lower i [] = []
lower i (n ∷ rest) = cond (eqb n i) rest (lower i rest)

-- the note of a cell of a cycle of n cells
abbrev pub cycled : ℕ → Note → Note
cycled n note = record { shown = Some (Shown.Cycle n); on_stack = note.on_stack; begun = false }

-- these cells are noted as cells of a cycle of n cells
abbrev pub note_cycle : ℕ → List ℕ → List Note → List Note
note_cycle n [] ns = ns
note_cycle n (i ∷ rest) ns = note_cycle n rest (set ns i (cycled n (get_or ns i blank)))
