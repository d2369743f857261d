-- Edits of a book, a finite map from addresses to cells, and the cells that they leave pending.
use Rattle.std.specs.Prelude.{◌≡◌, ℕ, zero, suc, ◌<◌, Bool, cond, ◌||◌, ◌&&◌, ◌==◌, nat_lt, ◌↔◌, Option, Some, None, List, [], ◌∷◌, length}
use Rattle.std.specs.List.{list_any, filter}
use Rattle.cell_values.specs.declared.TheConstants.{MAX_BOOK_CELLS}
use Rattle.cell_values.specs.declared.address.Addr.{Addr}
use Rattle.cell_values.specs.declared.address.Area.{Area}
use Rattle.cell_values.specs.Addresses.{same_addr}
use Rattle.cell_values.specs.Areas.{is_inside, walk}
use Rattle.formula_trees.specs.Expr.{Expr}
use Rattle.formula_trees.specs.Mentions.{mentions}
use Rattle.formula_trees.specs.Shifted.{shifted}
use Rattle.cell_values.specs.Order.{addresses, entry_at, InOrder}
use Rattle.demand_spec.specs.Book.{Book, Content, formula_at, formulas}
use Rattle.demand_spec.specs.Laws.{In, Set, OfSet, Pending, IsClosed, SameOutside}

abbrev pub Cells : Type 0
Cells = List (Addr × Content)

-- one cell gets this content or none, or the cells of an area get what one cell holds
pub data Edit : Type 0 where
  Put : Addr → Option Content → Edit
  Copy : Addr → Area → Edit

-- what a cell gets as a copy: a formula is shifted there
abbrev pub copied : Addr → Option Content → Option Content
copied to (Some (Content.Formula t)) = Some (Content.Formula (shifted to t))
copied to held = held

-- what stands at an address after the edit
abbrev pub held_after : Edit → Cells → Addr → Option Content
held_after (Put at held) old a = cond (same_addr at a) held (entry_at old a)
held_after (Copy from to) old a = cond (is_inside to a) (copied a (entry_at old from)) (entry_at old a)

-- the edit makes the new cells of the old ones
pub record IsApplied (edit : Edit) (old new : Cells) : Type 0 where
  pub order : InOrder (addresses new)
  pub lookups : (a : Addr) → entry_at new a ≡ held_after edit old a

-- after the edit there are more cells than a book may have
abbrev pub IsTooLarge : Edit → Cells → Type 0
IsTooLarge edit old = (new : Cells) → IsApplied edit old new → MAX_BOOK_CELLS < length new

-- by sheet, then row, then column
abbrev pub is_before : Addr → Addr → Bool
is_before a b = nat_lt a.sheet b.sheet || ((a.sheet == b.sheet) && (nat_lt a.row b.row || ((a.row == b.row) && nat_lt a.col b.col)))

-- a cell before others, if there is one
abbrev pub with_cell : Addr → Option Content → Cells → Cells
with_cell at (Some x) rest = (at, x) ∷ rest
with_cell at None rest = rest

-- cells in order, with this content at an address in place of what stands there
unfoldable pub put_in : Addr → Option Content → Cells → Cells
put_in at held [] = with_cell at held []
put_in at held (c ∷ rest) = cond (is_before c.0 at) (c ∷ put_in at held rest) (with_cell at held (cond (same_addr at c.0) rest (c ∷ rest)))

-- each of the addresses in turn gets its copy of one content
unfoldable pub copied_to : Option Content → List Addr → Cells → Cells
copied_to held [] cells = cells
copied_to held (a ∷ rest) cells = copied_to held rest (put_in a (copied a held) cells)

-- the cells after the edit
unfoldable pub applied : Edit → Cells → Cells
applied (Put at held) cells = put_in at held cells
applied (Copy from to) cells = copied_to (entry_at cells from) (walk to) cells

-- the cells that a formula names, none without a formula
abbrev pub named_by : Addr → Option Expr → List Addr
named_by c (Some t) = mentions c t
named_by c None = []

unfoldable pub mentioned : Book → Addr → List Addr
mentioned b c = named_by c (formula_at b c)

-- the cell is one of the set, or its formula mentions one that is reached by fewer steps
unfoldable pub reached_in : Book → Set → ℕ → Set
reached_in b A zero c = A c
reached_in b A (suc k) c = reached_in b A k c || list_any (reached_in b A k) (mentioned b c)

-- the formula cells that an edit of a set leaves pending, where those of the list were pending before
unfoldable pub pending_after : Book → List Addr → Set → List Addr
pending_after b P A = filter (λ c. list_any (same_addr c) P || reached_in b A (length (formulas b)) c) (formulas b)

-- cells in order that answer all look-ups alike are the same cells
abbrev pub CellsAreLookups : Type 0
CellsAreLookups = (xs ys : Cells) → InOrder (addresses xs) → InOrder (addresses ys) → ((a : Addr) → entry_at xs a ≡ entry_at ys a) → xs ≡ ys

-- two lists in order of the same addresses are one
abbrev pub ListsAreMembers : Type 0
ListsAreMembers = (xs ys : List Addr) → InOrder xs → InOrder ys → ((a : Addr) → In a xs ↔ In a ys) → xs ≡ ys

-- `applied` is what the edit makes
abbrev pub EditApplies : Type 0
EditApplies = (edit : Edit) (old : Cells) → InOrder (addresses old) → IsApplied edit old (applied edit old)

-- and nothing else is
abbrev pub AppliedOnly : Type 0
AppliedOnly = (edit : Edit) (old new : Cells) → InOrder (addresses old) → IsApplied edit old new → new ≡ applied edit old

-- an edit is too large where `applied` has more cells than a book may have
abbrev pub TooLargeByLength : Type 0
TooLargeByLength = (edit : Edit) (old : Cells) → InOrder (addresses old) → IsTooLarge edit old ↔ (MAX_BOOK_CELLS < length (applied edit old))

-- `pending_after` lists exactly the cells that the edit leaves pending, in order
abbrev pub PendingListed : Type 0
PendingListed = (b : Book) (P : List Addr) (A : Set) → InOrder (addresses b.cells) →
    ((c : Addr) → In c (pending_after b P A) ↔ Pending b (λ a. In a P) (OfSet A) c) × InOrder (pending_after b P A)

-- pending cells stay closed, where the ones before are a list
abbrev pub PendingListIsClosed : Type 0
PendingListIsClosed = (b b' : Book) (P : List Addr) (A : Set) → IsClosed b (λ a. In a P) → SameOutside (OfSet A) b b' → IsClosed b' (Pending b' (λ a. In a P) (OfSet A))

-- where all formula cells were pending, all are after an edit
abbrev pub AllStayPending : Type 0
AllStayPending = (b b' : Book) (A : Set) → InOrder (addresses b'.cells) → SameOutside (OfSet A) b b' → pending_after b' (formulas b) A ≡ formulas b'
