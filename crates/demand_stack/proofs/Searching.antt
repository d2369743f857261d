-- The number of an address, as a search by halves finds it.
use Rattle.std.proofs.Common.{◌≡◌, ℕ, zero, suc, ◌<◌, ◌≤◌, Bool, true, false, cond, ◌⊎◌, inl, inr, ⊎_elim, List, [], ◌∷◌, length, get_or, Ordering, Less, Equal, Greater, Err, Option, Some, None, option_map, refl, sym, ap, ◌∙◌, subst, arith}
use Rattle.std.specs.Prelude.{HoldsAt}
use Rattle.std.specs.List.Sorted.{IsBinarySearchResult, IsNonDecreasingBy}
use Rattle.std.specs.Ordering.{ordering_index}
use Rattle.cell_values.specs.declared.address.Addr.{Addr}
use Rattle.cell_values.specs.Addresses.{same_addr, IsBefore}
use Rattle.cell_values.specs.Order.{InOrder}
use Rattle.cell_values.proofs.Order.{cmp, cmp_less, cmp_equal, cmp_greater, never_before, before_apart, before_trans, same_addr-refl, same_addr-true}
use Rattle.demand_spec.specs.Laws.{In}
use Rattle.demand_spec.proofs.OneList.{before_member}
use Rattle.worker_machine.specs.Jobs.{number_in}

in_place : (c : Addr) (xs : List Addr) → In c xs → (k : ℕ) × (k < length xs) × ((d : Addr) → get_or xs k d ≡ c)
in_place c [] m = absurd m
in_place c (x ∷ xs) (inl e) = (0, omega arith, λ d. sym e)
in_place c (x ∷ xs) (inr m) = (let p = in_place c xs m in (suc p.0, (let l = p.1 in omega (arith, l)), p.2))

place_in : (xs : List Addr) (k : ℕ) (d : Addr) → k < length xs → In (get_or xs k d) xs
place_in [] k d h = absurd (omega (arith, h))
place_in (x ∷ xs) zero d h = inl refl
place_in (x ∷ xs) (suc k) d h = inr (place_in xs k d (omega (arith, h)))

places_in_order : (xs : List Addr) (i j : ℕ) (d : Addr) → InOrder xs → i < j → j < length xs → IsBefore (get_or xs i d) (get_or xs j d)
places_in_order [] i j d h l m = absurd (omega (arith, m))
places_in_order (x ∷ xs) i zero d h l m = absurd (omega (arith, l))
places_in_order (x ∷ xs) zero (suc j) d h l m = before_member x xs (get_or xs j d) h.0 (place_in xs j d (omega (arith, m)))
places_in_order (x ∷ xs) (suc i) (suc j) d h l m = places_in_order xs i j d h.1 (omega (arith, l)) (omega (arith, m))

compared : (a b x : Addr) → IsBefore a b → ordering_index (cmp a x) ≤ ordering_index (cmp b x)
compared a b x h = go (cmp a x) (cmp b x) refl refl
  where
    go : (o p : Ordering) → cmp a x ≡ o → cmp b x ≡ p → ordering_index o ≤ ordering_index p
    go Less p e f = omega arith
    go Equal Less e f = absurd (before_apart a b h (subst (IsBefore b) (sym (cmp_equal a x e)) (cmp_less b x f)))
    go Equal Equal e f = omega arith
    go Equal Greater e f = omega arith
    go Greater Less e f = absurd (before_apart a b h (before_trans b x a (cmp_less b x f) (cmp_greater a x e)))
    go Greater Equal e f = absurd (before_apart a b h (subst (λ z. IsBefore z a) (sym (cmp_equal b x f)) (cmp_greater a x e)))
    go Greater Greater e f = omega arith

-- the addresses of a list in order rise
rising : (xs : List Addr) (x : Addr) → InOrder xs → IsNonDecreasingBy (λ y. ordering_index (cmp y x)) xs
rising xs x h i j d l m = go (order i j l)
  where
    order : (i j : ℕ) → i ≤ j → (i < j) ⊎ (i ≡ j)
    order i j l = grind (arith, l)

    go : (i < j) ⊎ (i ≡ j) → ordering_index (cmp (get_or xs i d) x) ≤ ordering_index (cmp (get_or xs j d) x)
    go (inl k) = compared (get_or xs i d) (get_or xs j d) x (places_in_order xs i j d h k m)
    go (inr e) = subst (λ k. ordering_index (cmp (get_or xs i d) x) ≤ ordering_index (cmp (get_or xs k d) x)) e (omega arith)

-- an address that a search misses is not there
missed : (xs : List Addr) (x : Addr) (i : ℕ) → IsBinarySearchResult (λ y. cmp y x) xs (Err i) → InOrder xs → In x xs → ⊥
missed xs x i h order m = go (in_place x xs m)
  where
    sides : (k : ℕ) → (k < i) ⊎ (i ≤ k)
    sides k = grind arith

    go : (k : ℕ) × (k < length xs) × ((d : Addr) → get_or xs k d ≡ x) → ⊥
    go p = ⊎_elim (λ (l : p.0 < i). never_before x (subst (λ z. IsBefore z x) (p.2 x) (cmp_less (get_or xs p.0 x) x ((h (rising xs x order)).0 p.0 x (omega arith) l))))
        (λ (l : i ≤ p.0). never_before x (subst (IsBefore x) (p.2 x) (cmp_greater (get_or xs p.0 x) x ((h (rising xs x order)).1 p.0 x l p.1)))) (sides p.0)

-- the numbers

other_first : (c x : Addr) (o : Option ℕ) → (x ≡ c → ⊥) → cond (same_addr x c) (Some 0) o ≡ o
other_first c x o n = go (same_addr x c) refl
  where
    go : (b : Bool) → same_addr x c ≡ b → cond b (Some 0) o ≡ o
    go true e = absurd (n (same_addr-true x c e))
    go false e = refl

number_at : (xs : List Addr) (k : ℕ) (d : Addr) → InOrder xs → k < length xs → number_in xs (get_or xs k d) ≡ Some k
number_at [] k d h l = absurd (omega arith)
number_at (c ∷ xs) zero d h l = ap (λ b. cond b (Some 0) (option_map suc (number_in xs c))) (same_addr-refl c)
number_at (c ∷ xs) (suc k) d h l =
    let x : Addr = get_or xs k d in
    let low : IsBefore c x = before_member c xs x h.0 (place_in xs k d (omega (arith, l))) in
    other_first c x (option_map suc (number_in xs x)) (λ e. never_before c (subst (IsBefore c) e low)) ∙ ap (option_map suc) (number_at xs k d h.1 (omega (arith, l)))

number_none : (xs : List Addr) (x : Addr) → (In x xs → ⊥) → number_in xs x ≡ None
number_none [] x n = refl
number_none (c ∷ xs) x n = other_first c x (option_map suc (number_in xs x)) (λ e. n (inl e)) ∙ ap (option_map suc) (number_none xs x (λ m. n (inr m)))

pub number_found : (xs : List Addr) (x : Addr) (k : ℕ) → InOrder xs → k < length xs → HoldsAt (λ y. cmp y x ≡ Equal) xs k → Some k ≡ number_in xs x
number_found xs x k h l e = sym (subst (λ z. number_in xs z ≡ Some k) (cmp_equal (get_or xs k x) x (e x)) (number_at xs k x h l))

pub number_missed : (xs : List Addr) (x : Addr) (i : ℕ) → InOrder xs → IsBinarySearchResult (λ y. cmp y x) xs (Err i) → None ≡ number_in xs x
number_missed xs x i h e = sym (number_none xs x (missed xs x i e h))
