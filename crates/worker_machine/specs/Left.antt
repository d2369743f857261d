-- How many steps a worker can still make.
use Rattle.std.specs.Prelude.{ℕ, zero, suc, ◌+◌, ◌-◌, ◌*◌, Bool, true, false, ◌||◌, eqb, is_some, Option, Some, None, List, [], ◌∷◌, length, get_or}
use Rattle.cell_values.specs.declared.values.Shown.{Shown}
use Rattle.cell_words.specs.declared.TheConstants.{WORDS}
use Rattle.cell_words.specs.Records.{tag_words}
use Rattle.worker_machine.specs.declared.state.Entry.{Entry}
use Rattle.worker_machine.specs.declared.state.Store.{Store}
use Rattle.worker_machine.specs.States.{State, Phase, Free, Claiming, ReadingTag, ReadingValue}
use Rattle.worker_machine.specs.Evaluation.{cells_of, has}

-- the cell i is being looked at
abbrev pub in_phase : ℕ → Phase → Bool
in_phase i Free = false
in_phase i (Claiming n) = eqb n i
in_phase i (ReadingTag n r) = eqb n i
in_phase i (ReadingValue n r t words) = eqb n i

-- the cell i was met: it is known, on the stack, or being looked at
abbrev pub met_in : List (Option Shown) → List Entry → Phase → ℕ → Bool
met_in known stack phase i = is_some (get_or known i None) || (has i (cells_of stack) || in_phase i phase)

-- one more where the cell was not met
abbrev pub one_less : Bool → ℕ → ℕ
one_less true n = n
one_less false n = suc n

-- how many of the first n cells were not met
abbrev pub fresh_cells : (ℕ → Bool) → ℕ → ℕ
fresh_cells met zero = 0
fresh_cells met (suc n) = one_less (met n) (fresh_cells met n)

-- one more where a claimer is owed
abbrev pub owed_one : Option ℕ → ℕ → ℕ
owed_one (Some c) n = suc n
owed_one None n = n

-- how many cells of the stack are still to be published
abbrev pub owed_in : List Entry → ℕ
owed_in [] = 0
owed_in (f ∷ rest) = owed_one f.owed (owed_in rest)

-- the steps that the cell which is looked at can still bring, until a claim is lost, its words are read, or it is published
abbrev pub phase_left : Phase → ℕ
phase_left Free = 0
phase_left (Claiming i) = 4 + WORDS
phase_left (ReadingTag i r) = 1 + WORDS
phase_left (ReadingValue i r t words) = 1 + (tag_words t - (length words + 1))

-- 1 where the tag word is not stored
abbrev pub tag_left : Bool → ℕ
tag_left true = 0
tag_left false = 1

-- the steps until a record is taken and a result stored in it
abbrev pub held_left : Option Store → ℕ
held_left None = 2 + WORDS
held_left (Some h) = tag_left h.tagged + (WORDS - h.stored)

-- what cells that were not met can bring, what is owed, and what is under way
abbrev pub left_of : ℕ → List (Option Shown) → List Entry → Phase → Option Store → ℕ
left_of m known stack phase held = (5 + WORDS) * fresh_cells (met_in known stack phase) m + ((3 + WORDS) * owed_in stack + (phase_left phase + held_left held))

-- how many steps a worker with m cells can still make, at most
abbrev pub left : ℕ → State → ℕ
left m s = left_of m s.known s.stack s.phase s.held
