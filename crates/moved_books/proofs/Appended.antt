-- A cell that is put behind all others stands at the end.
use Rattle.std.proofs.Common.{◌≡◌, Bool, true, false, cond, List, [], ◌∷◌, ◌++◌, Some, None, refl, sym, ap, ◌∙◌, subst}
use Rattle.std.proofs.lemmas.Bool.{false_from_ne_true}
use Rattle.cell_values.specs.declared.address.Addr.{Addr}
use Rattle.cell_values.specs.Addresses.{same_addr, IsBefore}
use Rattle.cell_values.specs.Order.{InOrder, IsBeforeAll, addresses, entry_at}
use Rattle.cell_values.proofs.Order.{same_addr-true, same_addr-sym, never_before}
use Rattle.demand_spec.specs.Book.{Content}
use Rattle.demand_spec.specs.Edits.{Cells, Put, IsApplied}
use Rattle.demand_spec.proofs.OneList.{one_map}

module _ {A : Type 0} where
  before_end : (a x : Addr) (v : A) (xs ys : List (Addr × A)) → IsBeforeAll a (addresses (xs ++ (x, v) ∷ ys)) → IsBefore a x
  before_end a x v [] ys h = h.0
  before_end a x v (c ∷ xs) ys h = before_end a x v xs ys h.1

  before_front : (a : Addr) (xs ys : List (Addr × A)) → IsBeforeAll a (addresses (xs ++ ys)) → IsBeforeAll a (addresses xs)
  before_front a [] ys h = tt
  before_front a (c ∷ xs) ys h = (h.0, before_front a xs ys h.1)

  front_in_order : (xs ys : List (Addr × A)) → InOrder (addresses (xs ++ ys)) → InOrder (addresses xs)
  front_in_order [] ys h = tt
  front_in_order (c ∷ xs) ys h = (before_front c.0 xs ys h.0, front_in_order xs ys h.1)

  -- what stands there
  pub found_end : (a x : Addr) (v : A) (xs ys : List (Addr × A)) → InOrder (addresses (xs ++ (x, v) ∷ ys)) → entry_at (xs ++ (x, v) ∷ []) a ≡ cond (same_addr x a) (Some v) (entry_at xs a)
  found_end a x v [] ys h = ap (λ (t : Bool). cond t (Some v) None) (same_addr-sym a x)
  found_end a x v (c ∷ xs) ys h = go (same_addr a c.0) refl (found_end a x v xs ys h.1)
    where
      l : IsBefore c.0 x
      l = before_end c.0 x v xs ys h.0

      apart : same_addr a c.0 ≡ true → same_addr x a ≡ false
      apart e = false_from_ne_true (same_addr x a) (λ k. never_before x (subst (λ (z : Addr). IsBefore z x) (sym (same_addr-true a c.0 e) ∙ sym (same_addr-true x a k)) l))

      go : (t : Bool) → same_addr a c.0 ≡ t → entry_at (xs ++ (x, v) ∷ []) a ≡ cond (same_addr x a) (Some v) (entry_at xs a) → cond t (Some c.1) (entry_at (xs ++ (x, v) ∷ []) a) ≡ cond (same_addr x a) (Some v) (cond t (Some c.1) (entry_at xs a))
      go true e later = sym (ap (λ (t : Bool). cond t (Some v) (Some c.1)) (apart e))
      go false e later = later

-- a list, cut behind a cell
cut : (xs ys : Cells) (c : Addr × Content) → (xs ++ c ∷ []) ++ ys ≡ xs ++ c ∷ ys
cut [] ys c = refl
cut (x ∷ xs) ys c = ap (λ z. x ∷ z) (cut xs ys c)

pub put_at_end : (x : Addr) (v : Content) (xs ys new : Cells) → InOrder (addresses (xs ++ (x, v) ∷ ys)) → IsApplied (Put x (Some v)) xs new → new ++ ys ≡ xs ++ (x, v) ∷ ys
put_at_end x v xs ys new order put =
    let one : new ≡ xs ++ (x, v) ∷ [] = one_map new (xs ++ (x, v) ∷ []) put.order (front_in_order (xs ++ (x, v) ∷ []) ys (subst (λ (cs : Cells). InOrder (addresses cs)) (sym (cut xs ys (x, v))) order))
    (λ a. put.lookups a ∙ sym (found_end a x v xs ys order)) in
    ap (λ (cs : Cells). cs ++ ys) one ∙ cut xs ys (x, v)
