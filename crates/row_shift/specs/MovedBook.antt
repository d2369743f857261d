-- A book after rows were inserted or deleted, and what is pending then.
use Rattle.std.specs.Prelude.{◌≡◌, ◌≤◌, length, Bool, true, false, cond, not, ◌||◌, ◌==◌, is_none, Option, Some, None, option_and_then, List, [], ◌∷◌, filter_map}
use Rattle.std.specs.List.{list_any}
use Rattle.cell_values.specs.declared.address.Addr.{Addr}
use Rattle.cell_values.specs.declared.address.Area.{Area}
use Rattle.cell_values.specs.Addresses.{same_addr}
use Rattle.cell_values.specs.Areas.{height}
use Rattle.cell_values.specs.Order.{InOrder, addresses}
use Rattle.cell_values.specs.Texts.{Texts}
use Rattle.formula_trees.specs.declared.tree.Reference.{Reference}
use Rattle.formula_trees.specs.Expr.{Expr, Exprs, Ref, Range, Unary, Binary, Call, End, More}
use Rattle.formula_trees.specs.References.{resolve, area_of}
use Rattle.demand_spec.specs.Book.{Book, Content, formula_at, shown}
use Rattle.demand_spec.specs.Edits.{Cells, pending_after}
use Rattle.demand_spec.specs.Listed.{AllSound, AreCellsOf}
use Rattle.demand_spec.specs.Laws.{In, Set, IsClosed}
use Rattle.row_shift.specs.declared.change.RowChange.{RowChange}
use Rattle.row_shift.specs.Moves.{IsChange, move_cell, moved_area, moved}

-- what a cell holds, as it stands at the cell's place `to`
abbrev pub moved_content : RowChange → Addr → Addr → Content → Content
moved_content change at to (Content.Number n) = Content.Number n
moved_content change at to (Content.Text t) = Content.Text t
moved_content change at to (Content.Truth b) = Content.Truth b
moved_content change at to (Content.Formula e) = Content.Formula (moved change at to e)

abbrev pub put_at : RowChange → Addr → Content → Option Addr → Cells → Cells
put_at change at held (Some to) rest = (to, moved_content change at to held) ∷ rest
put_at change at held None rest = rest

-- the cells that have a place, there
abbrev pub moved_cells : RowChange → Cells → Cells
moved_cells change [] = []
moved_cells change (c ∷ rest) = put_at change c.0 c.1 (move_cell change c.0) (moved_cells change rest)

-- the book after the change
abbrev pub moved_book : RowChange → Book → Book
moved_book change b = record { cells = moved_cells change b.cells; texts = b.texts }

-- one of the formula's references or ranges passes its test
abbrev mutual
  pub has_part : (Reference → Bool) → (Reference → Reference → Bool) → Expr → Bool
  has_part cell range (Ref r) = cell r
  has_part cell range (Range r s) = range r s
  has_part cell range (Unary s a) = has_part cell range a
  has_part cell range (Binary o a b) = has_part cell range a || has_part cell range b
  has_part cell range (Call f args) = have_part cell range args
  has_part cell range e = false

  pub have_part : (Reference → Bool) → (Reference → Reference → Bool) → Exprs → Bool
  have_part cell range End = false
  have_part cell range (More a rest) = has_part cell range a || have_part cell range rest

-- the reference becomes `#REF!`
abbrev pub loses_cell : RowChange → Addr → Reference → Bool
loses_cell change at r = is_none (option_and_then (move_cell change) (resolve at r))

abbrev pub has_other_height : Area → Option Area → Bool
has_other_height r (Some n) = not (height n == height r)
has_other_height r None = true

abbrev pub area_changes : RowChange → Option Area → Bool
area_changes change (Some r) = has_other_height r (moved_area change r)
area_changes change None = true

-- the range becomes `#REF!`, or its number of rows changes
abbrev pub range_changes : RowChange → Addr → Reference → Reference → Bool
range_changes change at r s = area_changes change (area_of at r s)

-- the change touches the formula of the cell `at`
abbrev pub touches : RowChange → Addr → Expr → Bool
touches change at e = has_part (loses_cell change at) (range_changes change at) e

abbrev pub touches_content : RowChange → Addr → Content → Bool
touches_content change at (Content.Number n) = false
touches_content change at (Content.Text t) = false
touches_content change at (Content.Truth b) = false
touches_content change at (Content.Formula e) = touches change at e

-- the place of a touched cell, if it has one
abbrev pub touched_place : RowChange → Addr × Content → Option Addr
touched_place change c = cond (touches_content change c.0 c.1) (move_cell change c.0) None

-- the places of the touched formula cells
abbrev pub touched_places : RowChange → Book → List Addr
touched_places change b = filter_map (touched_place change) b.cells

abbrev pub among : List Addr → Set
among xs x = list_any (same_addr x) xs

-- the formula cells that are pending after the change, where those of the list were pending before: these at their places, the
-- touched ones at theirs, and what these reach
abbrev pub pending_moved : RowChange → Book → List Addr → List Addr
pending_moved change b pending = pending_after (moved_book change b) (filter_map (move_cell change) pending) (among (touched_places change b))

-- a formula cell whose place is not pending after the change shows there what it showed before
abbrev pub UntouchedShowTheSame : Type 0
UntouchedShowTheSame = (change : RowChange) (b : Book) (pending : List Addr) (c to : Addr) (t : Expr) → IsChange change → InOrder (addresses b.cells) →
    formula_at b c ≡ Some t → move_cell change c ≡ Some to → (In to (pending_moved change b pending) → ⊥) → shown (moved_book change b) to ≡ shown b c

-- pending cells stay closed
abbrev pub MovedPendingIsClosed : Type 0
MovedPendingIsClosed = (change : RowChange) (b : Book) (pending : List Addr) → IsChange change → InOrder (addresses b.cells) →
    IsClosed b (λ a. In a pending) → IsClosed (moved_book change b) (λ a. In a (pending_moved change b pending))

-- the moved cells are in order, lie on their sheets, are sound and have the same texts, where the cells were so, and are no more
pub record AreMoved (change : RowChange) (ts : Texts) (cells : Cells) : Type 0 where
  pub order : InOrder (addresses cells) → InOrder (addresses (moved_cells change cells))
  pub sound : AllSound cells → AllSound (moved_cells change cells)
  pub texts : AreCellsOf ts cells → AreCellsOf ts (moved_cells change cells)
  pub few : length (moved_cells change cells) ≤ length cells

abbrev pub MovedCellsAreCells : Type 0
MovedCellsAreCells = (change : RowChange) (ts : Texts) (cells : Cells) → IsChange change → AreMoved change ts cells
