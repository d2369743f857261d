-- The rule of a deque whose numbers several ends take.
use Rattle.std.specs.Prelude.{◌≡◌, ℕ, ◌<◌, ◌≤◌, ◌⊎◌, ⊤, Bool, true, List, [], ◌∷◌, ◌++◌, length}
use Rattle.std.specs.List.{flat_map, sum_by}
use mathlib.Core.Option.{some}
use lib.ListN.{get_elem?}
use Rattle.steal_tasks.specs.declared.share.Share.{Share}

abbrev pub share : Bool → List ℕ → List ℕ → Share
share alone dealt taken = record { alone = alone; dealt = dealt; taken = taken }

-- the same with one more number taken
abbrev pub given : Share → ℕ → Share
given v x = share v.alone v.dealt (v.taken ++ x ∷ [])

-- each number is in both lists equally often: however numbers are weighed, the lists weigh the same
abbrev pub SameNumbers : List ℕ → List ℕ → Type 0
SameNumbers xs ys = (weight : ℕ → ℕ) → sum_by weight xs ≡ sum_by weight ys

-- no number is more often in the first list than in the second: however numbers are weighed, the first weighs no more
abbrev pub AreAmong : List ℕ → List ℕ → Type 0
AreAmong xs ys = (weight : ℕ → ℕ) → sum_by weight xs ≤ sum_by weight ys

-- the first list is the second one without some of its numbers
abbrev pub IsSublist : List ℕ → List ℕ → Type 0
IsSublist [] ys = ⊤
IsSublist (x ∷ xs) [] = ⊥
IsSublist (x ∷ xs) (y ∷ ys) = ((x ≡ y) × IsSublist xs ys) ⊎ IsSublist (x ∷ xs) ys

-- the rule, between any two steps: what has left the deque, followed by what is in it, is what was dealt. What has left is
-- what the ends have taken, each in the order in which it was dealt. Every end knows what was dealt, and who takes itself to be alone is
abbrev pub IsShared : List ℕ → List Share → Type 0
IsShared inside views =
    (dealt : List ℕ)
    × (gone : List ℕ)
    × (gone ++ inside ≡ dealt)
    × SameNumbers (flat_map (λ v. v.taken) views) gone
    × ((port : ℕ) (v : Share) → get_elem? views port ≡ some v → (v.dealt ≡ dealt) × IsSublist v.taken gone × (v.alone ≡ true → length views ≡ 1))

-- the rule allows that nothing is left, where an end has taken what it has
abbrev pub CanBeEmpty : Share → Type 0
CanBeEmpty v = (views : List Share) × (port : ℕ) × IsShared [] views × (get_elem? views port ≡ some v)

-- no number is more often in what two ends have taken from a deque than in what was dealt to it
abbrev pub TakenOnce : Type 0
TakenOnce = (inside : List ℕ) (views : List Share) (i j : ℕ) (v w : Share) → IsShared inside views → i < j → get_elem? views i ≡ some v → get_elem? views j ≡ some w → AreAmong (v.taken ++ w.taken) v.dealt
