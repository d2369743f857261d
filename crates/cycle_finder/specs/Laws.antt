-- What the listed loops are.
use Rattle.std.specs.Prelude.{◌≡◌, ℕ, List, [], ◌∷◌, All, count_by, length}
use Rattle.std.specs.List.{list_any}
use Rattle.cell_values.specs.declared.address.Addr.{Addr}
use Rattle.cell_values.specs.declared.values.Shown.{Shown}
use Rattle.cell_values.specs.Addresses.{same_addr}
use Rattle.cell_values.specs.Order.{InOrder, IsBeforeAll, addresses}
use Rattle.demand_spec.specs.Book.{Book, shown}
use Rattle.demand_spec.specs.Laws.{In, IsLoop}
use Rattle.cycle_finder.specs.Loops.{loops}

-- the cells are exactly one loop of the needs, in its order, from the least address on
pub record IsWholeLoop (b : Book) (cells : List Addr) : Type 0 where
  pub first : Addr
  pub rest : List Addr
  pub parts : cells ≡ first ∷ rest
  pub loop : IsLoop b first rest
  pub least : IsBeforeAll first rest

abbrev pub AreWholeLoops : Type 0
AreWholeLoops = (b : Book) → All (IsWholeLoop b) (loops b)

-- each cell of the loop shows how many cells it has
abbrev pub ShowsLength : Book → List Addr → Type 0
ShowsLength b cells = (c : Addr) → In c cells → shown b c ≡ Shown.Cycle (length cells)

abbrev pub MembersShow : Type 0
MembersShow = (b : Book) → All (ShowsLength b) (loops b)

-- each cell that shows a loop's length is in exactly one of the loops
abbrev pub EachInOne : Type 0
EachInOne = (b : Book) → InOrder (addresses b.cells) → (c : Addr) (n : ℕ) → shown b c ≡ Shown.Cycle n →
    count_by (λ cells. list_any (same_addr c) cells) (loops b) ≡ 1

-- the first cell of each
abbrev pub firsts : List (List Addr) → List Addr
firsts [] = []
firsts ([] ∷ rest) = firsts rest
firsts ((c ∷ cells) ∷ rest) = c ∷ firsts rest

abbrev pub AreInOrder : Type 0
AreInOrder = (b : Book) → InOrder (addresses b.cells) → InOrder (firsts (loops b))
