-- The evaluation of pending cells along a stack: what is known of them, over what a cell is asked, and what the stack
-- means. All of it holds without a round.
use Rattle.std.specs.Prelude.{◌≡◌, ℕ, suc, ◌<◌, ◌⊎◌, Bool, false, ◌||◌, eqb, cond, Option, Some, None, List, [], ◌∷◌, length, get_or, set, drop}
use Rattle.std.specs.Option.{option_or}
use Rattle.cell_values.specs.declared.address.Addr.{Addr}
use Rattle.cell_values.specs.declared.values.Value.{Value}
use Rattle.cell_values.specs.declared.values.Shown.{Shown}
use Rattle.formula_trees.specs.Expr.{Expr}
use Rattle.demand_spec.specs.Book.{Known, formula_at, need, shown}
use Rattle.demand_spec.specs.Laws.{Demands}
use Rattle.worker_machine.specs.declared.state.Entry.{Entry}
use Rattle.worker_machine.specs.Jobs.{Pending, cell_at, cell_number, shows}

-- The values over which a cell is asked

-- the value that is shown, none where a mark is
abbrev pub value_in : Shown → Option Value
value_in (Shown.Val v) = Some v
value_in (Shown.Cycle n) = None
value_in Shown.ToCycle = None

-- the value of a known result
abbrev pub known_value : Option Shown → Option Value
known_value (Some r) = value_in r
known_value None = None

-- the value that a formula cell shows
abbrev pub stored_value : Option Expr → Shown → Option Value
stored_value (Some t) r = value_in r
stored_value None r = None

-- a pending cell has its known value, and any other formula cell the value that it shows
abbrev pub value_from : Pending → List (Option Shown) → Addr → Option ℕ → Option Value
value_from ps known a (Some i) = known_value (get_or known i None)
value_from ps known a None = stored_value (formula_at ps.book a) (shown ps.book a)

-- these values
abbrev pub values : Pending → List (Option Shown) → Known
values ps known = λ a. value_from ps known a (cell_number ps a)

-- What is known

-- each known result is what the book shows
abbrev pub AllRight : Pending → List (Option Shown) → Type 0
AllRight ps known = (i : ℕ) (r : Shown) → get_or known i None ≡ Some r → r ≡ shows ps i

-- each cell is known
abbrev pub KnowsAll : Pending → List (Option Shown) → Type 0
KnowsAll ps known = (i : ℕ) → i < length ps.cells → get_or known i None ≡ Some (shows ps i)

-- each result is what the book shows, and from a known cell of a cycle `need` leads to a known cell of a cycle
pub record Knows (ps : Pending) (known : List (Option Shown)) : Type 0 where
  pub sized : length known ≡ length ps.cells
  pub right : AllRight ps known
  pub whole : (i n : ℕ) (y : Addr) → get_or known i None ≡ Some (Shown.Cycle n) → need ps.book (cell_at ps i) ≡ Some y → (m : ℕ) × (x : ℕ) × (cell_at ps m ≡ y) × (get_or known m None ≡ Some (Shown.Cycle x))

-- the first cell that is not known, where the list begins with the cell i
abbrev pub first_unknown : List (Option Shown) → ℕ → Option ℕ
first_unknown [] i = None
first_unknown (None ∷ rest) i = Some i
first_unknown (Some r ∷ rest) i = first_unknown rest (suc i)

-- the first from the cell n on, or else the first of all
abbrev pub first_from : List (Option Shown) → ℕ → Option ℕ
first_from known n = option_or (first_unknown (drop n known) n) (first_unknown known 0)

-- The stack of cells, its top first

-- the cells of the stack
abbrev pub cells_of : List Entry → List ℕ
cells_of [] = []
cells_of (f ∷ rest) = f.cell ∷ cells_of rest

-- whether the number is one of these
abbrev pub has : ℕ → List ℕ → Bool
has i [] = false
has i (n ∷ rest) = eqb n i || has i rest

-- the number is one of these
abbrev pub Among : ℕ → List ℕ → Type 0
Among n [] = ⊥
Among n (x ∷ xs) = (n ≡ x) ⊎ Among n xs

-- no number stands twice
abbrev pub Differ : List ℕ → Type 0
Differ [] = Unit {0}
Differ (x ∷ xs) = (Among x xs → ⊥) × Differ xs

-- all are below m
abbrev pub Below : ℕ → List ℕ → Type 0
Below m [] = Unit {0}
Below m (x ∷ xs) = (x < m) × Below m xs

-- the cell x is demanded by the first of these, which is demanded by the next
abbrev pub LinkTo : Pending → ℕ → List ℕ → Type 0
LinkTo ps x [] = Unit {0}
LinkTo ps x (y ∷ rest) = Demands ps.book (cell_at ps y) (cell_at ps x) × LinkTo ps y rest

-- each of these cells is demanded by the one behind it
abbrev pub Links : Pending → List ℕ → Type 0
Links ps [] = Unit {0}
Links ps (x ∷ rest) = LinkTo ps x rest

-- what is known is right; the cells that were begun and are not done with are each demanded by the next, and none stands twice
pub record IsEvaluation (ps : Pending) (known : List (Option Shown)) (cs : List ℕ) : Type 0 where
  pub knows : Knows ps known
  pub linked : Links ps cs
  pub differ : Differ cs
  pub below : Below (length ps.cells) cs

-- What changes

-- the stack without its top
abbrev pub pop : List Entry → List Entry
pop [] = []
pop (f ∷ rest) = rest

-- the top cell is known by this
abbrev pub learn_top : List Entry → Shown → List (Option Shown) → List (Option Shown)
learn_top [] r known = known
learn_top (f ∷ rest) r known = set known f.cell (Some r)

-- the cells from the top down to this one
abbrev pub part_to : ℕ → List ℕ → List ℕ
part_to i [] = []
part_to i (n ∷ rest) = cond (eqb n i) (n ∷ []) (n ∷ part_to i rest)

-- these cells are on a cycle of n cells
abbrev pub mark_all : ℕ → List ℕ → List (Option Shown) → List (Option Shown)
mark_all n [] known = known
mark_all n (i ∷ rest) known = mark_all n rest (set known i (Some (Shown.Cycle n)))

-- these cells are a cycle
abbrev pub mark_cycle : List ℕ → List (Option Shown) → List (Option Shown)
mark_cycle part known = mark_all (length part) part known
