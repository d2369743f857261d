-- The support of a workbook, cell by cell.
use Rattle.std.proofs.Common.{◌≡◌, Bool, true, false, cond, ◌||◌, List, [], ◌∷◌, Some, None, refl, sym, ap, ◌∙◌}
use Rattle.cell_values.specs.declared.address.Addr.{Addr}
use Rattle.cell_values.specs.declared.address.Area.{Area}
use Rattle.cell_values.specs.Addresses.{same_addr}
use Rattle.cell_values.specs.Areas.{walk, is_inside}
use Rattle.cell_values.specs.Order.{entry_at}
use Rattle.cell_values.proofs.Order.{same_addr-true, same_addr-sym}
use Rattle.demand_spec.specs.Book.{Book}
use Rattle.demand_spec.specs.Laws.{Set}
use Rattle.demand_spec.proofs.Members.{walk_holds}
use Rattle.support_graph.specs.Pending.{among}
use Rattle.support_graph.specs.Support.{CellAreas, IsSupportOf}
use Rattle.recalculation.specs.Standing.{areas_at, IsLinkedBut, Links}

-- one cell

pub linked_none : (b : Book) (at : Addr) (s s' : CellAreas) → areas_at b at ≡ None → ((c : Addr) → entry_at s' c ≡ cond (same_addr at c) None (entry_at s c)) → Links b at s s'
linked_none b at s s' e h c = h c ∙ ap (λ o. cond (same_addr at c) o (entry_at s c)) (sym e)

pub linked_some : (b : Book) (at : Addr) (xs : List Area) (s t s' : CellAreas) → areas_at b at ≡ Some xs → ((c : Addr) → entry_at t c ≡ cond (same_addr at c) None (entry_at s c)) →
    ((c : Addr) → entry_at s' c ≡ cond (same_addr at c) (Some xs) (entry_at t c)) → Links b at s s'
linked_some b at xs s t s' e h k c = k c ∙ (λ i. cond (same_addr at c) (sym e i) (h c i)) ∙ twice (same_addr at c)
  where
    twice : (q : Bool) → cond q (areas_at b at) (cond q None (entry_at s c)) ≡ cond q (areas_at b at) (entry_at s c)
    twice true = refl
    twice false = refl

-- one more of the cells that changed

pub link_goes : (b : Book) (at : Addr) (A A' : Set) (s s' : CellAreas) → Links b at s s' → ((c : Addr) → A' c ≡ false → same_addr at c ≡ false → A c ≡ false) → IsLinkedBut b A s → IsLinkedBut b A' s'
link_goes b at A A' s s' l less k c n = l c ∙ go (same_addr at c) refl
  where
    go : (q : Bool) → same_addr at c ≡ q → cond q (areas_at b at) (entry_at s c) ≡ areas_at b c
    go true e = ap (areas_at b) (same_addr-true at c e)
    go false e = k c (less c n e)

-- the cells of an area, one after the other

pub area_starts : (b : Book) (r : Area) (s : CellAreas) → IsLinkedBut b (is_inside r) s → IsLinkedBut b (among (walk r)) s
area_starts b r s k c n = k c (sym (walk_holds r c) ∙ n)

pub area_goes : (b : Book) (at : Addr) (xs rest : List Addr) (s s' : CellAreas) → xs ≡ at ∷ rest → Links b at s s' → IsLinkedBut b (among xs) s → IsLinkedBut b (among rest) s'
area_goes b at xs rest s s' e l k = link_goes b at (among xs) (among rest) s s' l less k
  where
    less : (c : Addr) → among rest c ≡ false → same_addr at c ≡ false → among xs c ≡ false
    less c n m = ap (λ ys. among ys c) e ∙ (λ i. (same_addr-sym c at ∙ m) i || n i)

pub area_ends : (b : Book) (xs : List Addr) (s : CellAreas) → xs ≡ [] → IsLinkedBut b (among xs) s → IsSupportOf b s
area_ends b xs s e k c = k c (ap (λ ys. among ys c) e)
