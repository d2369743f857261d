-- What single steps of a copy tell.
use Rattle.std.specs.Prelude.{◌≡◌, ◌+◌, ◌<◌, Bool, true, false, not, is_some, cond, Option, Some, List, [], ◌∷◌, length}
use Rattle.std.specs.List.{list_any, filter, AllByRecursion}
use Rattle.cell_values.specs.declared.TheConstants.{MAX_BOOK_CELLS}
use Rattle.cell_values.specs.declared.address.Addr.{Addr}
use Rattle.cell_values.specs.Addresses.{same_addr}
use Rattle.cell_values.specs.Order.{InOrder, addresses, entry_at}
use Rattle.demand_spec.specs.Book.{Content}
use Rattle.demand_spec.specs.Listed.{IsSoundAt}
use Rattle.shared_expressions.specs.Trees.{Trees, IsThere}
use Rattle.workbook_core.specs.declared.Content.{Content as Held}
use Rattle.workbook_core.specs.declared.edits.EditFault.{EditFault}
use Rattle.demand_spec.specs.Edits.{copied}
use Rattle.workbook_core.specs.Held.{content_in, IsHeldOf}

-- the address is one of these
abbrev pub among : List Addr → Addr → Bool
among xs a = list_any (same_addr a) xs

-- the addresses without a cell
abbrev pub empty_among : List (Addr × Held) → List Addr → List Addr
empty_among es xs = filter (λ a. not (is_some (entry_at es a))) xs

-- the new cells are in order, all of these have this, and the others what the old ones have
pub record SetsAll (xs : List Addr) (held : Option Held) (old new : List (Addr × Held)) : Type 0 where
  pub order : InOrder (addresses new)
  pub lookups : (a : Addr) → entry_at new a ≡ cond (among xs a) held (entry_at old a)

-- what stands at an address after contents were put beside addresses in turn
abbrev pub written : List (Addr × Held) → (Addr → Option Held) → Addr → Option Held
written [] f = f
written (c ∷ rest) f = written rest (λ a. cond (same_addr c.0 a) (Some c.1) (f a))

pub record Writes (cs : List (Addr × Held)) (old new : List (Addr × Held)) : Type 0 where
  pub order : InOrder (addresses new)
  pub lookups : entry_at new ≡ written cs (entry_at old)

-- what is held at the address is this content's copy there
pub record IsCopy (p : Trees) (c : Content) (a : Addr) (h : Held) : Type 0 where
  pub id : IsHeldOf p h
  pub sound : IsSoundAt a (content_in p h)
  pub same : copied a (Some c) ≡ Some (content_in p h)

abbrev pub AreCopies : Trees → Content → List (Addr × Held) → Type 0
AreCopies p c cs = AllByRecursion (λ e. IsCopy p c e.0 e.1) cs

-- the new cells are in order, all of these have the content's copy, and the others what the old ones have
pub record CopiesTo (p : Trees) (c : Content) (xs : List Addr) (old new : List (Addr × Held)) : Type 0 where
  pub order : InOrder (addresses new)
  pub copies : (a : Addr) → among xs a ≡ true → (h : Held) × (entry_at new a ≡ Some h) × IsCopy p c a h
  pub others : (a : Addr) → among xs a ≡ false → entry_at new a ≡ entry_at old a

-- copied to these cells, a content is what it was: no reference and no range is lost there
abbrev pub StaysOn : (Addr → Bool) → Option Content → Type 0
StaysOn cells held = (a : Addr) → cells a ≡ true → copied a held ≡ held

-- the pool has the tree of a content, if it is a formula
abbrev pub HasTree : Trees → Option Content → Type 0
HasTree p (Some (Content.Formula t)) = IsThere p t
HasTree p held = Unit {0}

-- the pool has the trees of a content's copies in these cells
abbrev pub CopiesAreThere : Trees → (Addr → Bool) → Option Content → Type 0
CopiesAreThere p cells held = (a : Addr) → cells a ≡ true → HasTree p (copied a held)

-- there is no room for copies at all of these, unless memory ran out
abbrev pub HasNoRoom : List (Addr × Held) → List Addr → EditFault → Type 0
HasNoRoom es xs (EditFault.BadFormula place k) = ⊥
HasNoRoom es xs EditFault.TooManyCells = MAX_BOOK_CELLS < length es + length (empty_among es xs)
HasNoRoom es xs EditFault.OutOfMemory = Unit {0}

-- it is no formula
abbrev pub IsPlain : Held → Type 0
IsPlain (Held.Formula id) = ⊥
IsPlain _ = Unit {0}
