-- What stands in the moved cells, and that they are in order.
use Rattle.std.proofs.Common.{◌≡◌, Bool, true, false, cond, ◌||◌, ⊎_elim, List, [], ◌∷◌, Option, Some, None, refl, sym, ap, ◌∙◌, subst}
use Rattle.std.specs.Prelude.{option_map, filter_map}
use Rattle.std.specs.List.{list_any, cons_option}
use Rattle.std.proofs.lemmas.Bool.{cases_Bool, or_right}
use Rattle.cell_values.specs.declared.address.Addr.{Addr}
use Rattle.cell_values.specs.Addresses.{same_addr}
use Rattle.cell_values.specs.Order.{IsBeforeAll, InOrder, addresses, entry_at}
use Rattle.cell_values.proofs.Order.{same_addr-refl, same_addr-true}
use Rattle.formula_trees.specs.Expr.{Expr}
use Rattle.demand_spec.specs.Book.{Content}
use Rattle.demand_spec.specs.Edits.{Cells}
use Rattle.row_shift.specs.declared.change.RowChange.{RowChange}
use Rattle.row_shift.specs.Moves.{move_cell}
use Rattle.row_shift.specs.MovedBook.{moved_content, put_at, moved_cells, touches, touches_content, touched_place}
use Rattle.row_shift.proofs.Ranges.{some_same}
use Rattle.row_shift.proofs.Parts.{place_back, place_before}

-- at a cell's place stands what the cell held

found_next : (change : RowChange) (a x : Addr) (c : Addr × Content) (rest : Cells) (o : Option Content) → move_cell change a ≡ Some x → entry_at rest x ≡ option_map (moved_content change a x) o → entry_at (put_at change c.0 c.1 (move_cell change c.0) rest) x ≡ option_map (moved_content change a x) (cond (same_addr a c.0) (Some c.1) o)
found_next change a x c rest o h later = go (same_addr a c.0) refl
  where
    here : a ≡ c.0 → entry_at (put_at change c.0 c.1 (move_cell change c.0) rest) x ≡ Some (moved_content change a x c.1)
    here same =
        let place : move_cell change c.0 ≡ Some x = subst (λ (z : Addr). move_cell change z ≡ Some x) same h in
        ap (λ (p : Option Addr). entry_at (put_at change c.0 c.1 p rest) x) place
        ∙ ap (λ (q : Bool). cond q (Some (moved_content change c.0 x c.1)) (entry_at rest x)) (same_addr-refl x)
        ∙ ap (λ (z : Addr). Some (moved_content change z x c.1)) (sym same)

    apart : (y : Addr) → same_addr a c.0 ≡ false → move_cell change c.0 ≡ Some y → same_addr x y ≡ false
    apart y e f = ⊎_elim
        (λ (k : same_addr x y ≡ true).
        let same : a ≡ c.0 = place_back change a c.0 x h (f ∙ ap Some (sym (same_addr-true x y k))) in
        let never : same_addr a c.0 ≡ true = ap (same_addr a) (sym same) ∙ same_addr-refl a in
        cc)
        (λ (k : same_addr x y ≡ false). k)
        (cases_Bool (same_addr x y))

    other : same_addr a c.0 ≡ false → (p : Option Addr) → move_cell change c.0 ≡ p → entry_at (put_at change c.0 c.1 p rest) x ≡ entry_at rest x
    other e (Some y) f = ap (λ (q : Bool). cond q (Some (moved_content change c.0 y c.1)) (entry_at rest x)) (apart y e f)
    other e None f = refl

    go : (q : Bool) → same_addr a c.0 ≡ q → entry_at (put_at change c.0 c.1 (move_cell change c.0) rest) x ≡ option_map (moved_content change a x) (cond q (Some c.1) o)
    go true e = here (same_addr-true a c.0 e)
    go false e = other e (move_cell change c.0) refl ∙ later

pub found_moved : (change : RowChange) (cells : Cells) (a x : Addr) → move_cell change a ≡ Some x → entry_at (moved_cells change cells) x ≡ option_map (moved_content change a x) (entry_at cells a)
found_moved change [] a x h = refl
found_moved change (c ∷ cells) a x h = found_next change a x c (moved_cells change cells) (entry_at cells a) h (found_moved change cells a x h)

-- a cell whose place is not among those of the touched cells is not touched

any_first : (x : Addr) (rest : List Addr) (o : Option Addr) → o ≡ Some x → list_any (same_addr x) (cons_option o rest) ≡ true
any_first x rest o h = ap (λ (p : Option Addr). list_any (same_addr x) (cons_option p rest)) h ∙ ap (λ (q : Bool). q || list_any (same_addr x) rest) (same_addr-refl x)

any_later : (x : Addr) (rest : List Addr) (o : Option Addr) → list_any (same_addr x) rest ≡ true → list_any (same_addr x) (cons_option o rest) ≡ true
any_later x rest None h = h
any_later x rest (Some y) h = or_right (same_addr x y) (list_any (same_addr x) rest) h

touched_first : (change : RowChange) (a x : Addr) (t : Expr) (c : Addr × Content) → move_cell change a ≡ Some x → a ≡ c.0 → c.1 ≡ Content.Formula t → touches change a t ≡ true → touched_place change c ≡ Some x
touched_first change a x t c h same held k =
    let test : touches_content change c.0 c.1 ≡ true = ap (touches_content change c.0) held ∙ ap (λ (z : Addr). touches change z t) (sym same) ∙ k in
    ap (λ (q : Bool). cond q (move_cell change c.0) None) test ∙ ap (move_cell change) (sym same) ∙ h

pub not_touched : (change : RowChange) (cells : Cells) (a x : Addr) (t : Expr) → move_cell change a ≡ Some x → entry_at cells a ≡ Some (Content.Formula t) → (list_any (same_addr x) (filter_map (touched_place change) cells) ≡ true → ⊥) → touches change a t ≡ false
not_touched change [] a x t h e n = cc
not_touched change (c ∷ cells) a x t h e n = go (same_addr a c.0) refl e (λ k. not_touched change cells a x t h k (λ m. n (any_later x (filter_map (touched_place change) cells) (touched_place change c) m)))
  where
    go : (q : Bool) → same_addr a c.0 ≡ q → cond q (Some c.1) (entry_at cells a) ≡ Some (Content.Formula t) → (entry_at cells a ≡ Some (Content.Formula t) → touches change a t ≡ false) → touches change a t ≡ false
    go true f k later = ⊎_elim
        (λ (m : touches change a t ≡ true).
        let held : c.1 ≡ Content.Formula t = some_same c.1 (Content.Formula t) k in
        absurd (n (any_first x (filter_map (touched_place change) cells) (touched_place change c) (touched_first change a x t c h (same_addr-true a c.0 f) held m))))
        (λ (m : touches change a t ≡ false). m)
        (cases_Bool (touches change a t))
    go false f k later = later k

-- the moved cells are in order

all_behind : (change : RowChange) (a x : Addr) (cells : Cells) → move_cell change a ≡ Some x → IsBeforeAll a (addresses cells) → IsBeforeAll x (addresses (moved_cells change cells))
all_behind change a x [] h l = tt
all_behind change a x (c ∷ cells) h l = go (move_cell change c.0) refl (all_behind change a x cells h l.1)
  where
    go : (o : Option Addr) → move_cell change c.0 ≡ o → IsBeforeAll x (addresses (moved_cells change cells)) → IsBeforeAll x (addresses (put_at change c.0 c.1 o (moved_cells change cells)))
    go (Some y) e k = (place_before change a c.0 x y h e l.0, k)
    go None e k = k

pub moved_order : (change : RowChange) (cells : Cells) → InOrder (addresses cells) → InOrder (addresses (moved_cells change cells))
moved_order change [] h = tt
moved_order change (c ∷ cells) h = go (move_cell change c.0) refl (moved_order change cells h.1)
  where
    go : (o : Option Addr) → move_cell change c.0 ≡ o → InOrder (addresses (moved_cells change cells)) → InOrder (addresses (put_at change c.0 c.1 o (moved_cells change cells)))
    go (Some y) e k = (all_behind change c.0 y cells e h.0, k)
    go None e k = k
