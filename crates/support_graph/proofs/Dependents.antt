-- The dependents of a cell as a list in order.
use Rattle.std.proofs.Common.{◌≡◌, Bool, true, false, cond, ◌⊎◌, inl, inr, ⊎_elim, [], ◌∷◌, refl, sym, ◌∙◌, subst, Some, IsSomeAnd}
use Rattle.std.specs.List.{filter}
use Rattle.cell_values.specs.declared.address.Addr.{Addr}
use Rattle.cell_values.specs.Addresses.{same_addr, IsBefore}
use Rattle.cell_values.specs.Order.{IsBeforeAll, InOrder, addresses, entry_at}
use Rattle.cell_values.proofs.Order.{same_addr-true, same_addr-refl, never_before}
use Rattle.demand_spec.specs.Laws.{In}
use Rattle.demand_spec.proofs.OneList.{before_member, one_list}
use Rattle.support_graph.specs.declared.search.Search.{Search}
use Rattle.support_graph.specs.Support.{CellAreas, hold, dependents_of, Reads}
use Rattle.support_graph.specs.Steps.{Visits}

-- the dependents are in order

later : (a b : Addr) (s : CellAreas) → IsBeforeAll b (addresses s) → IsBeforeAll b (dependents_of s a)
later a b [] h = tt
later a b (e ∷ s) h = go (hold e.1 a) (later a b s h.1)
  where
    go : (q : Bool) → IsBeforeAll b (dependents_of s a) → IsBeforeAll b (addresses (cond q (e ∷ filter (λ x. hold x.1 a) s) (filter (λ x. hold x.1 a) s)))
    go true k = (h.0, k)
    go false k = k

pub dependents_in_order : (a : Addr) (s : CellAreas) → InOrder (addresses s) → InOrder (dependents_of s a)
dependents_in_order a [] h = tt
dependents_in_order a (e ∷ s) h = go (hold e.1 a) (dependents_in_order a s h.1)
  where
    go : (q : Bool) → InOrder (dependents_of s a) → InOrder (addresses (cond q (e ∷ filter (λ x. hold x.1 a) s) (filter (λ x. hold x.1 a) s)))
    go true k = (later a e.0 s h.0, k)
    go false k = k

-- and they are the cells that read the cell

before_dependent : (a b c : Addr) (s : CellAreas) → IsBeforeAll b (addresses s) → In c (dependents_of s a) → IsBefore b c
before_dependent a b c s h m = before_member b (dependents_of s a) c (later a b s h) m

pub dependent_reads : (a c : Addr) (s : CellAreas) → InOrder (addresses s) → In c (dependents_of s a) → Reads s c a
dependent_reads a c [] h m = elim m [ ]
dependent_reads a c (e ∷ s) h m = go (hold e.1 a) refl m (dependent_reads a c s h.1)
  where
    apart : In c (dependents_of s a) → same_addr c e.0 ≡ false
    apart n = by (same_addr c e.0) refl
      where
        by : (q : Bool) → same_addr c e.0 ≡ q → q ≡ false
        by false p = refl
        by true p = absurd (never_before e.0 (subst (IsBefore e.0) (same_addr-true c e.0 p) (before_dependent a e.0 c s h.0 n)))

    behind : In c (dependents_of s a) → Reads s c a → Reads (e ∷ s) c a
    behind n k = subst (λ q. IsSomeAnd (cond q (Some e.1) (entry_at s c)) (λ areas. hold areas a ≡ true)) (sym (apart n)) k

    go : (q : Bool) → hold e.1 a ≡ q → In c (addresses (cond q (e ∷ filter (λ x. hold x.1 a) s) (filter (λ x. hold x.1 a) s))) → (In c (dependents_of s a) → Reads s c a) → Reads (e ∷ s) c a
    go true p (inl n) k = subst (λ q. IsSomeAnd (cond q (Some e.1) (entry_at s c)) (λ areas. hold areas a ≡ true)) (sym ((λ i. same_addr (n i) e.0) ∙ same_addr-refl e.0)) p
    go true p (inr n) k = behind n (k n)
    go false p n k = behind n (k n)

pub reader_is_dependent : (a c : Addr) (s : CellAreas) → Reads s c a → In c (dependents_of s a)
reader_is_dependent a c [] m = elim m [ ]
reader_is_dependent a c (e ∷ s) m = go (same_addr c e.0) refl m (reader_is_dependent a c s)
  where
    here : (q : Bool) → hold e.1 a ≡ q → q ≡ true → c ≡ e.0 → In c (addresses (cond q (e ∷ filter (λ x. hold x.1 a) s) (filter (λ x. hold x.1 a) s)))
    here true p t n = inl n
    here false p t n = absurd cc

    behind : (q : Bool) → In c (dependents_of s a) → In c (addresses (cond q (e ∷ filter (λ x. hold x.1 a) s) (filter (λ x. hold x.1 a) s)))
    behind true n = inr n
    behind false n = n

    go : (q : Bool) → same_addr c e.0 ≡ q → IsSomeAnd (cond q (Some e.1) (entry_at s c)) (λ areas. hold areas a ≡ true) → (Reads s c a → In c (dependents_of s a)) → In c (dependents_of (e ∷ s) a)
    go true p n k = here (hold e.1 a) refl n (same_addr-true c e.0 p)
    go false p n k = behind (hold e.1 a) (k n)

-- what a search from nothing sees is the dependents
pub seen_dependents : (a : Addr) (s : CellAreas) (x y : Search) → InOrder (addresses s) → x.seen.keys ≡ [] → x.pending.now ≡ [] → InOrder y.seen.keys → Visits (λ c. Reads s c a) x y → y.seen.keys ≡ dependents_of s a
seen_dependents a s x y h none free order v = one_list y.seen.keys (dependents_of s a) order (dependents_in_order a s h) (λ c. (to c, from c))
  where
    to : (c : Addr) → In c y.seen.keys → In c (dependents_of s a)
    to c m = go (v.only c m)
      where
        go : In c x.seen.keys ⊎ Reads s c a → In c (dependents_of s a)
        go (inl n) = absurd (subst (In c) none n)
        go (inr n) = reader_is_dependent a c s n

    from : (c : Addr) → In c (dependents_of s a) → In c y.seen.keys
    from c m = ⊎_elim (λ (n : In c y.seen.keys). n) (λ (n : In c y.pending.now). absurd (subst (In c) (v.pending ∙ free) n)) (v.found c (dependent_reads a c s h m))
