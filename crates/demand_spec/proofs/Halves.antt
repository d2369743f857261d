-- A cell of a book in order stands in one half of it.
use Rattle.std.proofs.Common.{◌≡◌, ℕ, zero, suc, ◌+◌, ◌<◌, false, cond, Some, None, List, [], ◌∷◌, length, get_or, take, drop, refl, sym, ap, ◌∙◌, subst, arith}
use Rattle.std.proofs.lemmas.Bool.{cond-false, false_from_ne_true}
use Rattle.cell_values.specs.declared.address.Addr.{Addr}
use Rattle.cell_values.specs.Addresses.{same_addr, IsBefore}
use Rattle.demand_spec.specs.declared.Cell.{Cell}
use Rattle.demand_spec.specs.Book.{Content}
use Rattle.cell_values.specs.Order.{entry_at, IsBeforeAll, InOrder, addresses}
use Rattle.demand_spec.specs.Listed.{content_of, contents}
use Rattle.demand_spec.proofs.Listed.{found_element}
use Rattle.demand_spec.proofs.Ordered.{distinct_from_order}
use Rattle.cell_values.proofs.Order.{never_before, same_addr-true, before_trans}

-- the order of addresses

before_not_same : (a b : Addr) → IsBefore a b → same_addr b a ≡ false
before_not_same a b h = false_from_ne_true (same_addr b a) (λ e. never_before a (subst (IsBefore a) (same_addr-true b a e) h))

not_same_before : (a b : Addr) → IsBefore a b → same_addr a b ≡ false
not_same_before a b h = false_from_ne_true (same_addr a b) (λ e. never_before a (subst (IsBefore a) (sym (same_addr-true a b e)) h))

before_all_trans : (a b : Addr) (cs : List (Addr × Content)) → IsBefore a b → IsBeforeAll b (addresses cs) → IsBeforeAll a (addresses cs)
before_all_trans a b [] h k = tt
before_all_trans a b (c ∷ cs) h k = (before_trans a b c.0 h k.0, before_all_trans a b cs h k.1)

none_before : (a : Addr) (cs : List (Addr × Content)) → IsBeforeAll a (addresses cs) → entry_at cs a ≡ None
none_before a [] h = refl
none_before a (c ∷ cs) h = cond-false (same_addr a c.0) (Some c.1) (entry_at cs a) (not_same_before a c.0 h.0) ∙ none_before a cs h.1

-- the halves are in order

before_take : (a : Addr) (cs : List (Addr × Cell)) (i : ℕ) → IsBeforeAll a (addresses (contents cs)) → IsBeforeAll a (addresses (contents (take i cs)))
before_take a cs zero h = tt
before_take a [] (suc i) h = tt
before_take a (c ∷ cs) (suc i) h = (h.0, before_take a cs i h.1)

pub order_take : (cs : List (Addr × Cell)) (i : ℕ) → InOrder (addresses (contents cs)) → InOrder (addresses (contents (take i cs)))
order_take cs zero h = tt
order_take [] (suc i) h = tt
order_take (c ∷ cs) (suc i) h = (before_take c.0 cs i h.0, order_take cs i h.1)

pub order_drop : (cs : List (Addr × Cell)) (i : ℕ) → InOrder (addresses (contents cs)) → InOrder (addresses (contents (drop i cs)))
order_drop cs zero h = h
order_drop [] (suc i) h = tt
order_drop (c ∷ cs) (suc i) h = order_drop cs i h.1

-- the cell stands in the half that its address says

pub in_first : (a : Addr) (cs : List (Addr × Cell)) (i : ℕ) (d : Addr × Cell) → InOrder (addresses (contents cs)) → i < length cs → IsBefore a (get_or cs i d).0 → entry_at (contents (take i cs)) a ≡ entry_at (contents cs) a
in_first a [] i d h l k = absurd (omega arith)
in_first a (c ∷ cs) zero d h l k = sym (none_before a (contents (c ∷ cs)) (k, before_all_trans a c.0 (contents cs) k h.0))
in_first a (c ∷ cs) (suc i) d h l k = ap (cond (same_addr a c.0) (Some (content_of c.1))) (in_first a cs i d h.1 (omega arith) k)

before_element : (b : Addr) (cs : List (Addr × Cell)) (i : ℕ) (d : Addr × Cell) → IsBeforeAll b (addresses (contents cs)) → i < length cs → IsBefore b (get_or cs i d).0
before_element b [] i d h l = absurd (omega arith)
before_element b (c ∷ cs) zero d h l = h.0
before_element b (c ∷ cs) (suc i) d h l = before_element b cs i d h.1 (omega arith)

in_second_of : (a : Addr) (cs : List (Addr × Cell)) (i : ℕ) (d : Addr × Cell) → InOrder (addresses (contents cs)) → i < length cs → IsBefore (get_or cs i d).0 a → entry_at (contents (drop (suc i) cs)) a ≡ entry_at (contents cs) a
in_second_of a [] i d h l k = absurd (omega arith)
in_second_of a (c ∷ cs) zero d h l k = sym (cond-false (same_addr a c.0) (Some (content_of c.1)) (entry_at (contents cs) a) (before_not_same c.0 a k))
in_second_of a (c ∷ cs) (suc i) d h l k =
    in_second_of a cs i d h.1 (omega arith) k
    ∙ sym (cond-false (same_addr a c.0) (Some (content_of c.1)) (entry_at (contents cs) a) (before_not_same c.0 a (before_trans c.0 (get_or cs i d).0 a (before_element c.0 cs i d h.0 (omega arith)) k)))

pub in_second : (a : Addr) (cs : List (Addr × Cell)) (i : ℕ) (d : Addr × Cell) → InOrder (addresses (contents cs)) → i < length cs → IsBefore (get_or cs i d).0 a → entry_at (contents (drop (i + 1) cs)) a ≡ entry_at (contents cs) a
in_second a cs i d h l k = (let same : i + 1 ≡ suc i = omega arith in ap (λ z. entry_at (contents (drop z cs)) a) same ∙ in_second_of a cs i d h l k)

pub in_middle : (a : Addr) (cs : List (Addr × Cell)) (i : ℕ) (d : Addr × Cell) → InOrder (addresses (contents cs)) → i < length cs → a ≡ (get_or cs i d).0 → Some (content_of (get_or cs i d).1) ≡ entry_at (contents cs) a
in_middle a cs i d h l e = sym (found_element cs i d (distinct_from_order (contents cs) h) l) ∙ ap (entry_at (contents cs)) (sym e)

-- an element that is there, whatever stands for one that is not
pub same_element : (cs : List (Addr × Cell)) (i : ℕ) (d e : Addr × Cell) → i < length cs → get_or cs i d ≡ get_or cs i e
same_element [] i d e l = absurd (omega arith)
same_element (c ∷ cs) zero d e l = refl
same_element (c ∷ cs) (suc i) d e l = same_element cs i d e (omega arith)
