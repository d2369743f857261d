-- What the laws on the definitions say.
use Rattle.std.specs.Prelude.{◌≡◌, ℕ, suc, ◌<◌, Bool, true, ◌↔◌, ◌⊎◌, Some, None, List, [], ◌∷◌, ◌++◌, length, get_or, slice_index_or}
use Rattle.cell_values.specs.declared.address.Addr.{Addr}
use Rattle.cell_values.specs.declared.values.Shown.{Shown}
use Rattle.cell_values.specs.declared.values.Value.{Value}
use Rattle.demand_spec.specs.declared.Asked.TheVariants.{Val, Needs}
use Rattle.formula_trees.specs.Expr.{Expr}
use Rattle.formula_trees.specs.Mentions.{mentions}
use Rattle.formula_trees.specs.TextNumbers.{TextsBelow}
use Rattle.demand_spec.specs.TextNumbers.{TextBelow}
use Rattle.demand_spec.specs.Book.{Book, Known, ask, formula_at, formulas, rounds, own, finished, need, follow, period, shown}

-- `e` is a part of `f`
abbrev pub PartOf : Known → Known → Type 0
PartOf e f = (a : Addr) (v : Value) → e a ≡ Some v → f a ≡ Some v

-- a value stays, and so does the need of a cell that the larger part lacks
abbrev pub AskGrows : Type 0
AskGrows = (b : Book) (e f : Known) (at : Addr) (t : Expr) → PartOf e f →
    ((v : Value) → ask b e at t ≡ Val v → ask b f at t ≡ Val v)
    × ((x : Addr) → ask b e at t ≡ Needs x → f x ≡ None → ask b f at t ≡ Needs x)

abbrev pub In : Addr → List Addr → Type 0
In a [] = ⊥
In a (x ∷ xs) = (a ≡ x) ⊎ In a xs

-- a formula cell outside of the finished ones
pub record Unfinished (b : Book) (c : Addr) : Type 0 where
  pub tree : Expr
  pub is_formula : formula_at b c ≡ Some tree
  pub outside : finished b c ≡ None

abbrev pub RoundsEnd : Type 0
RoundsEnd = (b : Book) →
    ((k : ℕ) → PartOf (rounds b k) (rounds b (suc k)))
    × (rounds b (suc (length (formulas b))) ≡ finished b)

-- a formula cell that needs `x`, asked over some part of what is finished
pub record Demands (b : Book) (c x : Addr) : Type 0 where
  pub tree : Expr
  pub is_formula : formula_at b c ≡ Some tree
  pub over : Known
  pub part : PartOf over (finished b)
  pub needs : ask b over c tree ≡ Needs x

-- each cell of the list needs the one behind it, and the last one needs `y`
abbrev pub Chain : Book → List Addr → Addr → Type 0
Chain b [] y = Unit {0}
Chain b (s ∷ rest) y = Demands b s (get_or rest 0 y) × Chain b rest y

-- the same with all that is finished
abbrev pub NeedChain : Book → List Addr → Addr → Type 0
NeedChain b [] y = Unit {0}
NeedChain b (s ∷ rest) y = (need b s ≡ Some (get_or rest 0 y)) × NeedChain b rest y

abbrev pub Distinct : List Addr → Type 0
Distinct [] = Unit {0}
Distinct (x ∷ xs) = (In x xs → ⊥) × Distinct xs

-- following `need` comes back to `c` for the first time after `n` steps
pub record HasPeriod (b : Book) (c : Addr) (n : ℕ) : Type 0 where
  pub some : 0 < n
  pub back : follow b n c ≡ Some c
  pub first : (j : ℕ) → 0 < j → j < n → follow b j c ≡ Some c → ⊥

-- the cells of the list are exactly one loop of `need`, in its order
pub record IsLoop (b : Book) (s : Addr) (rest : List Addr) : Type 0 where
  pub unfinished : (c : Addr) → In c (s ∷ rest) → Unfinished b c
  pub steps : NeedChain b (s ∷ rest) s
  pub apart : Distinct (s ∷ rest)
  pub period : (c : Addr) → In c (s ∷ rest) → HasPeriod b c (length (s ∷ rest))

-- a stack whose top needs one of its own cells closes a loop of `need`: the cells from that one up, and no other, so
-- the loop is as long as these are many
abbrev pub StackCloses : Type 0
StackCloses = (b : Book) (below : List Addr) (s : Addr) (rest : List Addr) →
    Distinct (below ++ s ∷ rest) → Chain b (below ++ s ∷ rest) s → IsLoop b s rest

abbrev pub OnLoop : Book → Addr → Type 0
OnLoop b c = (j : ℕ) × (0 < j) × (follow b j c ≡ Some c)

-- a cell that needs a cell on no loop is on no loop
abbrev pub Carried : Type 0
Carried = (b : Book) (c x : Addr) → need b c ≡ Some x → OnLoop b c → OnLoop b x

-- the search of the definition, which goes no further than the number of formula cells, finds every loop's length
abbrev pub LoopsAreFound : Type 0
LoopsAreFound = (b : Book) (c : Addr) (n : ℕ) → (period b (length (formulas b)) c ≡ Some n) ↔ HasPeriod b c n

-- a cell shows a loop's length exactly where following its needs comes back to it first after so many steps
abbrev pub CyclesShow : Type 0
CyclesShow = (b : Book) (c : Addr) (n : ℕ) → (shown b c ≡ Shown.Cycle n) ↔ HasPeriod b c n

-- each cell of a loop shows how many cells the loop has
abbrev pub LoopShows : Type 0
LoopShows = (b : Book) (s : Addr) (rest : List Addr) → IsLoop b s rest → (c : Addr) → In c (s ∷ rest) → shown b c ≡ Shown.Cycle (length (s ∷ rest))

-- the other formula cells without a value lead into a loop
abbrev pub OthersLead : Type 0
OthersLead = (b : Book) (c : Addr) → (shown b c ≡ Shown.ToCycle) ↔ (Unfinished b c × (OnLoop b c → ⊥))

-- a formula cell shows a value exactly where rounds give it this value
abbrev pub ValuesShow : Type 0
ValuesShow = (b : Book) (c : Addr) (t : Expr) (v : Value) → formula_at b c ≡ Some t → (shown b c ≡ Shown.Val v) ↔ (finished b c ≡ Some v)

-- the formula of `c` names `a`
pub record Mentions (b : Book) (c a : Addr) : Type 0 where
  pub tree : Expr
  pub is_formula : formula_at b c ≡ Some tree
  pub named : In a (mentions c tree)

-- what a cell needs is mentioned by it, and is a formula cell that is not finished
abbrev pub NeedIsMentioned : Type 0
NeedIsMentioned = (b : Book) (c x : Addr) → need b c ≡ Some x → Mentions b c x × Unfinished b x

-- a formula cell that is not finished needs a cell
abbrev pub NeedIsThere : Type 0
NeedIsThere = (b : Book) (c : Addr) → Unfinished b c → (x : Addr) × (need b c ≡ Some x)

-- each cell that mentions a cell of the set is in the set
abbrev pub IsClosed : Book → (Addr → Type 0) → Type 0
IsClosed b P = (c a : Addr) → P a → Mentions b c a → P c

-- by steps from a cell to a formula cell that mentions it, from the cells of an area on
pub data Reached (b : Book) (A : Addr → Type 0) : Addr → Type 0 where
  start : (a : Addr) → A a → Reached b A a
  step : (a c : Addr) → Reached b A a → Mentions b c a → Reached b A c

-- the formula cells that an edit of the area leaves pending, where those of `P` were pending before
abbrev pub Pending : Book → (Addr → Type 0) → (Addr → Type 0) → Addr → Type 0
Pending b P A c = ((t : Expr) × (formula_at b c ≡ Some t)) × (P c ⊎ Reached b A c)

-- the two books differ in the area alone
pub record SameOutside (A : Addr → Type 0) (b b' : Book) : Type 0 where
  pub formula : (c : Addr) → (A c → ⊥) → formula_at b c ≡ formula_at b' c
  pub value : (c : Addr) → (A c → ⊥) → own b c ≡ own b' c

-- the texts of the cells and formulas have numbers of which `meant` holds, and the other book has the same texts there
pub record TextsStay (meant : ℕ → Type 0) (b b' : Book) : Type 0 where
  pub of_cells : (c : Addr) → TextBelow meant (own b c)
  pub of_formulas : (c : Addr) (t : Expr) → formula_at b c ≡ Some t → TextsBelow meant t
  pub agree : (i : ℕ) → meant i → slice_index_or b.texts i [] ≡ slice_index_or b'.texts i []

-- a set of cells, by a test
abbrev pub Set : Type 0
Set = Addr → Bool

abbrev pub OfSet : Set → Addr → Type 0
OfSet P c = P c ≡ true

abbrev pub PendingIsClosed : Type 0
PendingIsClosed = (b b' : Book) (P A : Set) → IsClosed b (OfSet P) → SameOutside (OfSet A) b b' → IsClosed b' (Pending b' (OfSet P) (OfSet A))

-- a loop that meets a closed set lies in it whole
abbrev pub LoopInClosed : Type 0
LoopInClosed = (b : Book) (P : Set) → IsClosed b (OfSet P) → (s : Addr) (rest : List Addr) → IsLoop b s rest → (d c : Addr) → In d (s ∷ rest) → In c (s ∷ rest) → OfSet P d → OfSet P c

-- a cell that is not pending after an edit is as it was, and shows the same
abbrev pub ShowsSame : Type 0
ShowsSame = (b b' : Book) (n : ℕ) (A : Set) → SameOutside (OfSet A) b b' → TextsStay (λ i. i < n) b b' → (c : Addr) → (Reached b' (OfSet A) c → ⊥) →
    (formula_at b c ≡ formula_at b' c) × (shown b c ≡ shown b' c)
