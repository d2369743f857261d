-- What callers see of a worker's end, and what a `take` does to it.
use Rattle.std.specs.Prelude.{◌≡◌, ℕ, ◌<◌, ◌≤◌, ◌⊎◌, ◌+◌, ◌-◌, ◌%◌, All, length, slice_index_or, None, true, false, List, [], ◌∷◌, ◌++◌, map, Bool, Option, ⊤}
use Rattle.steal_tasks.specs.declared.share.Share.{Share}
use Rattle.std.specs.List.{sum_by, range_with_len}
use Rattle.steal_tasks.specs.Sharing.{share, given, IsSublist, CanBeEmpty}

-- a deque as an end knows it: the numbers dealt to it, and those that this end has taken from it, in turn
pub record Part : Type 0 where
  pub dealt : List ℕ
  pub taken : List ℕ

-- another worker's deque, and how many numbers the end knows to have left it
pub record Other : Type 0 where
  pub part : Part
  pub known : ℕ

-- `count` numbers were dealt in all. The others begin with the next higher worker's deque, and so on round.
-- `given` numbers were given by this end, `last` is the last of them, and it is over from its first None on
pub record EndSeen : Type 0 where
  pub count : ℕ
  pub own : Part
  pub others : List Other
  pub given : ℕ
  pub last : Option ℕ
  pub over : Bool

abbrev pub part_of : Share → Part
part_of v = record { dealt = v.dealt; taken = v.taken }

-- nothing is taken yet
abbrev pub untaken : List ℕ → Part
untaken dealt = record { dealt = dealt; taken = [] }

-- x is taken too
abbrev pub with_taken : Part → ℕ → Part
with_taken p x = record { dealt = p.dealt; taken = p.taken ++ x ∷ [] }

-- all deques, its own first
abbrev pub with_others : Part → List Other → List Part
with_others own others = own ∷ map (λ o. o.part) others

abbrev pub parts : EndSeen → List Part
parts e = with_others e.own e.others

-- x was added to what was taken from one of the deques, and to nothing else
abbrev pub AddsTo : ℕ → List Part → List Part → Type 0
AddsTo x old new = (before : List Part) × (p : Part) × (after : List Part) × (old ≡ before ++ p ∷ after) × (new ≡ before ++ with_taken p x ∷ after)

-- of these parts the one that is `step` places behind worker w's, round and round
abbrev pub part_behind : List (List ℕ) → ℕ → ℕ → Part
part_behind dealt w step = untaken (slice_index_or dealt ((w + step) % length dealt) [])

-- the parts as worker w's end has them: its own, then from the next higher one on and so round
abbrev pub parts_from : List (List ℕ) → ℕ → List Part
parts_from dealt w = map (part_behind dealt w) (range_with_len 0 (length dealt))

-- the same without its own
abbrev pub others_from : List (List ℕ) → ℕ → List Part
others_from dealt w = map (part_behind dealt w) (range_with_len 1 (length dealt - 1))

-- nothing was given yet
abbrev pub IsFresh : ℕ → EndSeen → Type 0
IsFresh count e = (e.count ≡ count) × (e.given ≡ 0) × (e.last ≡ None) × (e.over ≡ false)

-- a deque, and the others, of which nothing was taken; where there is no other, it knows
abbrev pub IsReady : Share → List Other → Type 0
IsReady own others = All (λ p. p.taken ≡ []) (with_others (part_of own) others) × (others ≡ [] → own.alone ≡ true)

-- numbers that were dealt, in that order, and none twice
abbrev pub IsTakenInOrder : Part → Type 0
IsTakenInOrder p = IsSublist p.taken p.dealt

-- `given` of `count` numbers were taken from these deques, each from where it was dealt, in that order, and none twice
pub record IsCounted (count given : ℕ) (all : List Part) : Type 0 where
  pub few : given ≤ count
  pub sum : given ≡ sum_by (λ p. length p.taken) all
  pub once : All IsTakenInOrder all

-- the deque was found empty at a step
abbrev pub FoundEmpty : Part → Type 0
FoundEmpty p = (alone : Bool) × CanBeEmpty (share alone p.dealt p.taken)

-- a steal took nothing: it found the deque empty, or it lost to another taker, since one more number is known to have left it
abbrev pub Missed : Other → Other → Type 0
Missed old new = (new.part ≡ old.part) × ((old.known < new.known) ⊎ FoundEmpty old.part)

-- a steal on each one took nothing
abbrev pub AllMissed : List Other → List Other → Type 0
AllMissed [] [] = ⊤
AllMissed (o ∷ os) (n ∷ ns) = Missed o n × AllMissed os ns
AllMissed _ _ = ⊥

-- a steal took x, where those before it took nothing, and none came after it
abbrev pub Stolen : ℕ → List Other → List Other → Type 0
Stolen x (o ∷ os) (n ∷ ns) = ((n.part ≡ with_taken o.part x) × IsTakenInOrder n.part × (ns ≡ os)) ⊎ (Missed o n × Stolen x os ns)
Stolen x _ _ = ⊥

-- x is of the own deque, or else that was found empty, and x was stolen
abbrev pub GotOne : ℕ → Share → Share → List Other → List Other → Type 0
GotOne x old new others others_after =
    ((new ≡ given old x) × IsSublist new.taken new.dealt × (others_after ≡ others)) ⊎ ((new ≡ old) × CanBeEmpty old × Stolen x others others_after)

-- its own deque was found empty, and so was each other one, or a steal on it lost
abbrev pub NothingFound : EndSeen → EndSeen → Type 0
NothingFound old new = (new.own ≡ old.own) × FoundEmpty old.own × AllMissed old.others new.others

-- x is of its own deque, or else that was found empty, and x was stolen
abbrev pub Found : ℕ → EndSeen → EndSeen → Type 0
Found x old new = ((new.own ≡ with_taken old.own x) × (new.others ≡ old.others)) ⊎ ((new.own ≡ old.own) × FoundEmpty old.own × Stolen x old.others new.others)
