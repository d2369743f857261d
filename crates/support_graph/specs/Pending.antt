-- The cells that an edit leaves pending.
use Rattle.std.specs.Prelude.{◌≡◌, Bool, true, ◌⊎◌, ◌↔◌, List}
use Rattle.std.specs.List.{list_any}
use Rattle.cell_values.specs.declared.address.Addr.{Addr}
use Rattle.cell_values.specs.declared.address.Area.{Area}
use Rattle.cell_values.specs.Addresses.{same_addr}
use Rattle.cell_values.specs.Areas.{is_inside}
use Rattle.demand_spec.specs.Book.{Book}
use Rattle.demand_spec.specs.Laws.{In, Pending, IsClosed, SameOutside}
use Rattle.support_graph.specs.Support.{CellAreas, IsCell, Reads, IsSupportOf}

-- the address is one of the list
abbrev pub among : List Addr → Addr → Bool
among xs a = list_any (same_addr a) xs

-- by steps from a cell to a cell of the support with an area that holds it, from the cells that pass a test on
pub data Reached (s : CellAreas) (from : Addr → Bool) : Addr → Type 0 where
  start : (a : Addr) → from a ≡ true → Reached s from a
  step : (a c : Addr) → Reached s from a → Reads s c a → Reached s from c

-- the cells of the support that are pending where those of `old` were and these changed
abbrev pub IsPendingFrom : CellAreas → List Addr → (Addr → Bool) → Addr → Type 0
IsPendingFrom s old changed c = IsCell s c × (In c old ⊎ Reached s changed c)

-- the cells of the support that an edit of the area leaves pending, where those of `old` were pending before
abbrev pub IsPendingAfter : CellAreas → List Addr → Area → Addr → Type 0
IsPendingAfter s old area c = IsPendingFrom s old (is_inside area) c

-- but for the cells that changed, the old ones are cells of the support, and each reader of one is one
pub record IsClosedBut (s : CellAreas) (old : List Addr) (changed : Addr → Bool) : Type 0 where
  pub cells : (a : Addr) → In a old → (changed a ≡ true) ⊎ IsCell s a
  pub readers : (a c : Addr) → In a old → Reads s c a → In c old ⊎ (changed c ≡ true)

-- the new cells are those that the edit leaves pending in each book of this support
abbrev pub ArePendingIn : CellAreas → List Addr → Area → List Addr → Type 0
ArePendingIn s old area new = (b : Book) → IsSupportOf b s → (c : Addr) → In c new ↔ Pending b (λ a. In a old) (λ a. is_inside area a ≡ true) c

-- where each formula cell that mentioned an old cell was an old cell, each that mentions a new one is a new one
abbrev pub StayClosed : CellAreas → List Addr → Area → List Addr → Type 0
StayClosed s old area new = (b b' : Book) → IsSupportOf b' s → IsClosed b (λ a. In a old) → SameOutside (λ a. is_inside area a ≡ true) b b' → IsClosed b' (λ a. In a new)
