-- Hints, as a worker takes them.
use Rattle.std.specs.Prelude.{◌≡◌, ℕ, ◌<◌, ◌≤◌, Bool, true, false, cond, Option, Some, None, List, length, get_or}
use Rattle.cell_values.specs.declared.values.Shown.{Shown}
use Rattle.worker_machine.specs.declared.action.Next.{Next}
use Rattle.worker_machine.specs.declared.action.Next.TheVariants.{Alter, Do, Rest}

-- how many numbers the hints can still give, the last one that they gave, and whether they have ended
pub record HintsSeen : Type 0 where
  pub left : ℕ
  pub last : Option ℕ
  pub over : Bool

-- hints with these
abbrev pub hints_with : ℕ → Option ℕ → Bool → HintsSeen
hints_with left last over = record { left = left; last = last; over = over }

-- hints that have not ended are taken where the state calls for nothing
abbrev pub asks : Next → HintsSeen → Bool
asks Rest h = cond h.over false true
asks (Alter c) h = false
asks (Do a) h = false

-- the hint of a step, where hints were taken and are these now: the last one, or none where they have ended
abbrev pub hint_of : Bool → HintsSeen → Option ℕ
hint_of true h = cond h.over None h.last
hint_of false h = None

-- the cell i is not known
abbrev pub NamesUnknown : List (Option Shown) → ℕ → Type 0
NamesUnknown known i = (i < length known) × (get_or known i None ≡ None)

-- the number names a cell that is not known
abbrev pub IsNew : List (Option Shown) → Option ℕ → Type 0
IsNew known (Some i) = NamesUnknown known i
IsNew known None = ⊥

-- hints were taken: they have ended now, or the last one names a cell that is not known
abbrev pub Took : List (Option Shown) → Bool → HintsSeen → HintsSeen → Type 0
Took known true old new = new.left ≤ old.left
Took known false old new = (new.left < old.left) × IsNew known new.last

-- hints are taken only where they are asked
abbrev pub TakesHints : List (Option Shown) → Bool → HintsSeen → HintsSeen → Type 0
TakesHints known true old new = Took known new.over old new
TakesHints known false old new = new ≡ old
