-- The moved cells and the places of the touched ones, by a walk over the cells.
use Rattle.std.proofs.Common.{◌≡◌, List, [], ◌++◌, append_assoc, append-nil, Option, Some, None, refl, sym, ap, ◌∙◌, subst, option_to_list}
use Rattle.std.specs.Prelude.{filter_map}
use Rattle.std.specs.List.{cons_option}
use Rattle.cell_values.specs.declared.address.Addr.{Addr}
use Rattle.cell_values.specs.Order.{InOrder, addresses, entry_at}
use Rattle.demand_spec.specs.Book.{Book, Content}
use Rattle.demand_spec.specs.Edits.{Cells}
use Rattle.row_shift.specs.declared.change.RowChange.{RowChange}
use Rattle.row_shift.specs.Moves.{move_cell}
use Rattle.row_shift.specs.MovedBook.{moved_content, put_at, moved_cells, touched_place, touched_places}
use Rattle.row_shift.proofs.Order.{moved_order}
use Rattle.workbook_core.specs.Books.{next_in}
use Rattle.moved_books.specs.Steps.{HasMoved, place_if_touched}
use Rattle.moved_books.proofs.Appended.{put_at_end}
use Rattle.moved_books.proofs.Walk.{IsFirst, behind, all_behind, none_behind, next_first}

-- the cells that have moved, and those behind the last one that was looked at, are all

abbrev pub AreMovedTo : RowChange → Cells → Option Addr → Cells → Type 0
AreMovedTo change cells after done = done ++ moved_cells change (behind after cells) ≡ moved_cells change cells

pub none_moved : (change : RowChange) (cells done : Cells) → done ≡ [] → AreMovedTo change cells None done
none_moved change cells done e = (λ i. e i ++ moved_cells change (all_behind cells i))

pub more_moved : (change : RowChange) (cells : Cells) (o : Option Addr) (x : Addr) (done new : Cells) → InOrder (addresses cells) → next_in cells o ≡ Some x → AreMovedTo change cells o done → HasMoved change x (move_cell change x) (entry_at cells x) done new → AreMovedTo change cells (Some x) new
more_moved change cells o x done new order e told moved = go (move_cell change x) (subst (λ (held : Option Content). HasMoved change x (move_cell change x) held done new) f.there moved) (ap (λ (z : Cells). done ++ z) (sym (ap (moved_cells change) f.first)) ∙ told)
  where
    f : IsFirst cells o x
    f = next_first cells order o x e

    rest : Cells
    rest = moved_cells change (behind (Some x) cells)

    go : (p : Option Addr) → HasMoved change x p (Some f.held) done new → done ++ put_at change x f.held p rest ≡ moved_cells change cells → new ++ rest ≡ moved_cells change cells
    go (Some to) put w = put_at_end to (moved_content change x to f.held) done rest new (subst (λ (cs : Cells). InOrder (addresses cs)) (sym w) (moved_order change cells order)) put ∙ w
    go None same w = ap (λ (cs : Cells). cs ++ rest) same ∙ w

pub all_moved : (change : RowChange) (cells : Cells) (o : Option Addr) (done : Cells) → next_in cells o ≡ None → AreMovedTo change cells o done → done ≡ moved_cells change cells
all_moved change cells o done e told = sym (append-nil done) ∙ ap (λ (z : Cells). done ++ moved_cells change z) (sym (none_behind cells o e)) ∙ told

-- the same for the places of the touched cells

abbrev pub AreTouchedTo : RowChange → Book → Option Addr → List Addr → Type 0
AreTouchedTo change b after found = found ++ filter_map (touched_place change) (behind after b.cells) ≡ touched_places change b

pub none_touched : (change : RowChange) (b : Book) (found : List Addr) → found ≡ [] → AreTouchedTo change b None found
none_touched change b found e = (λ i. e i ++ filter_map (touched_place change) (all_behind b.cells i))

pub one_more : (o : Option Addr) (xs : List Addr) → option_to_list o ++ xs ≡ cons_option o xs
one_more None xs = refl
one_more (Some x) xs = refl

pub more_touched : (change : RowChange) (b : Book) (o : Option Addr) (x : Addr) (found new : List Addr) → InOrder (addresses b.cells) → next_in b.cells o ≡ Some x → AreTouchedTo change b o found → new ≡ found ++ option_to_list (place_if_touched change x (entry_at b.cells x)) → AreTouchedTo change b (Some x) new
more_touched change b o x found new order e told pushed =
    let f = next_first b.cells order o x e in
    let place : Option Addr = touched_place change (x, f.held) in
    let rest : List Addr = filter_map (touched_place change) (behind (Some x) b.cells) in
    ap (λ (z : List Addr). z ++ rest) (pushed ∙ ap (λ (h : Option Content). found ++ option_to_list (place_if_touched change x h)) f.there)
    ∙ append_assoc found (option_to_list place) rest
    ∙ ap (λ (z : List Addr). found ++ z) (one_more place rest)
    ∙ ap (λ (z : Cells). found ++ filter_map (touched_place change) z) (sym f.first)
    ∙ told

pub all_touched : (change : RowChange) (b : Book) (o : Option Addr) (found : List Addr) → next_in b.cells o ≡ None → AreTouchedTo change b o found → found ≡ touched_places change b
all_touched change b o found e told = sym (append-nil found) ∙ ap (λ (z : Cells). found ++ filter_map (touched_place change) z) (sym (none_behind b.cells o e)) ∙ told
