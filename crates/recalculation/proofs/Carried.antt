-- Results that are carried to the places of their cells, by a walk over the cells.
use Rattle.std.proofs.Common.{◌≡◌, Bool, true, false, cond, List, Option, Some, None, IsSome, refl, sym, ap, ◌∙◌, subst}
use Rattle.std.proofs.lemmas.Bool.{false_from_ne_true}
use Rattle.cell_values.specs.declared.address.Addr.{Addr}
use Rattle.cell_values.specs.declared.values.Shown.{Shown}
use Rattle.cell_values.specs.Addresses.{same_addr}
use Rattle.cell_values.specs.Order.{InOrder, addresses, entry_at}
use Rattle.cell_values.proofs.Order.{same_addr-refl, same_addr-true}
use Rattle.demand_spec.specs.Edits.{Cells}
use Rattle.row_shift.specs.declared.change.RowChange.{RowChange}
use Rattle.row_shift.specs.Moves.{move_cell}
use Rattle.row_shift.proofs.Parts.{place_back}
use Rattle.workbook_core.specs.Books.{lies_after, next_in}
use Rattle.recalculation.specs.Shifts.{IsCarried, AreCarried}
use Rattle.recalculation.proofs.Walked.{next_none, none_between}

-- the results of the cells up to an address stand at the cells' places
abbrev pub AreCarriedTo : RowChange → Cells → List (Addr × Shown) → Option Addr → List (Addr × Shown) → Type 0
AreCarriedTo change cells stored o new = (a x : Addr) (v : Shown) → IsSome (entry_at cells a) → move_cell change a ≡ Some x → entry_at stored a ≡ Some v → lies_after o a ≡ false → entry_at new x ≡ Some v

pub none_carried : (change : RowChange) (cells : Cells) (stored new : List (Addr × Shown)) → AreCarriedTo change cells stored None new
none_carried change cells stored new a x v there place held l = cc

none_some : {A : Type 0} (o : Option A) → o ≡ None → IsSome o → ⊥
none_some None e h = cc
none_some (Some x) e h = cc

pub more_carried : (change : RowChange) (cells : Cells) (stored old new : List (Addr × Shown)) (o : Option Addr) (at : Addr) → InOrder (addresses cells) → next_in cells o ≡ Some at → IsCarried (move_cell change at) (entry_at stored at) old new → AreCarriedTo change cells stored o old → AreCarriedTo change cells stored (Some at) new
more_carried change cells stored old new o at order e carried told a x v there place held l = go (same_addr at a) refl
  where
    here : at ≡ a → entry_at new x ≡ Some v
    here same =
        let place_is : move_cell change at ≡ Some x = ap (move_cell change) same ∙ place in
        let held_is : entry_at stored at ≡ Some v = ap (entry_at stored) same ∙ held in
        let put : IsCarried (Some x) (Some v) old new = subst (λ (p : Option Addr). IsCarried p (Some v) old new) place_is (subst (λ (h : Option Shown). IsCarried (move_cell change at) h old new) held_is carried) in
        put x ∙ ap (λ (t : Bool). cond t (Some v) (entry_at old x)) (same_addr-refl x)

    earlier : same_addr at a ≡ false → (t : Bool) → lies_after o a ≡ t → entry_at old x ≡ Some v
    earlier apart true h = absurd (none_some (entry_at cells a) (none_between cells order o at e a h l apart) there)
    earlier apart false h = told a x v there place held h

    away : same_addr at a ≡ false → (to : Addr) → move_cell change at ≡ Some to → same_addr to x ≡ false
    away apart to f = false_from_ne_true (same_addr to x) (λ k.
        let same : at ≡ a = place_back change at a x (f ∙ ap Some (same_addr-true to x k)) place in
        let z : true ≡ false = sym (ap (same_addr at) (sym same) ∙ same_addr-refl at) ∙ apart in
        cc)

    stays : same_addr at a ≡ false → (p : Option Addr) → move_cell change at ≡ p → (s : Option Shown) → IsCarried p s old new → entry_at new x ≡ Some v
    stays apart (Some to) f (Some s) k = k x ∙ ap (λ (t : Bool). cond t (Some s) (entry_at old x)) (away apart to f) ∙ earlier apart (lies_after o a) refl
    stays apart (Some to) f None k = ap (λ (es : List (Addr × Shown)). entry_at es x) k ∙ earlier apart (lies_after o a) refl
    stays apart None f s k = ap (λ (es : List (Addr × Shown)). entry_at es x) k ∙ earlier apart (lies_after o a) refl

    go : (t : Bool) → same_addr at a ≡ t → entry_at new x ≡ Some v
    go true f = here (same_addr-true at a f)
    go false f = stays f (move_cell change at) refl (entry_at stored at) carried

pub all_carried : (change : RowChange) (cells : Cells) (stored new : List (Addr × Shown)) (o : Option Addr) → next_in cells o ≡ None → AreCarriedTo change cells stored o new → AreCarried change cells stored new
all_carried change cells stored new o e told a x v there place held = go (lies_after o a) refl
  where
    go : (t : Bool) → lies_after o a ≡ t → entry_at new x ≡ Some v
    go true h = absurd (none_some (entry_at cells a) (next_none cells o e a h) there)
    go false h = told a x v there place held h
