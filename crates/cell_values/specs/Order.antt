-- Cells in order, and what stands at an address of a list.
use Rattle.std.specs.Prelude.{List, [], ◌∷◌, cond, Option, Some, None}
use Rattle.cell_values.specs.declared.address.Addr.{Addr}
use Rattle.cell_values.specs.Addresses.{same_addr, IsBefore}

-- the address stands before all of the list
abbrev pub IsBeforeAll : Addr → List Addr → Type 0
IsBeforeAll a [] = Unit {0}
IsBeforeAll a (b ∷ rest) = IsBefore a b × IsBeforeAll a rest

-- the address stands after all of the list
abbrev pub IsAfterAll : Addr → List Addr → Type 0
IsAfterAll a [] = Unit {0}
IsAfterAll a (b ∷ rest) = IsBefore b a × IsAfterAll a rest

-- each address stands before all later ones, so each stands there once
abbrev pub InOrder : List Addr → Type 0
InOrder [] = Unit {0}
InOrder (a ∷ rest) = IsBeforeAll a rest × InOrder rest

-- the addresses of a list of cells, each with what stands there
abbrev pub addresses : {A : Type 0} → List (Addr × A) → List Addr
addresses [] = []
addresses (e ∷ rest) = e.0 ∷ addresses rest

-- what stands at an address
abbrev pub entry_at : {A : Type 0} → List (Addr × A) → Addr → Option A
entry_at [] a = None
entry_at (e ∷ rest) a = cond (same_addr a e.0) (Some e.1) (entry_at rest a)
