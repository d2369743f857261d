-- Three numbers compared in turn.
use Rattle.std.proofs.Common.{◌≡◌, ℕ, ◌⊎◌, inl, inr, ◌<◌, ◌≤◌, ◌&&◌, eqb, nat_cmp, is_eq, Ordering, Less, Equal, Greater, true, false, refl, ap, ◌∙◌, arith}
use Rattle.std.specs.Ordering.{ordering_then, is_gt, is_lt}
use Rattle.std.proofs.lemmas.Bool.{cases_lt}

is_eq-then : (o p : Ordering) → is_eq (ordering_then o p) ≡ (is_eq o && is_eq p)
is_eq-then Less p = refl
is_eq-then Equal p = refl
is_eq-then Greater p = refl

is_eq-nat_cmp : (m n : ℕ) → is_eq (nat_cmp m n) ≡ eqb m n
is_eq-nat_cmp m n = grind arith

pub is_eq-three : (m n i j k l : ℕ) → is_eq (ordering_then (nat_cmp m n) (ordering_then (nat_cmp i j) (nat_cmp k l))) ≡ (eqb m n && (eqb i j && eqb k l))
is_eq-three m n i j k l =
    is_eq-then (nat_cmp m n) (ordering_then (nat_cmp i j) (nat_cmp k l))
    ∙ (λ r. is_eq-nat_cmp m n r && is_eq-then (nat_cmp i j) (nat_cmp k l) r)
    ∙ (λ r. eqb m n && (is_eq-nat_cmp i j r && is_eq-nat_cmp k l r))

below : (m n : ℕ) → nat_cmp m n ≡ Less → m < n
below m n e = grind arith

same_number : (m n : ℕ) → nat_cmp m n ≡ Equal → m ≡ n
same_number m n e = grind arith

-- one of two comparisons in turn says less
less_first : (m n : ℕ) (p : Ordering) → ordering_then (nat_cmp m n) p ≡ Less → (m < n) ⊎ ((m ≡ n) × (p ≡ Less))
less_first m n p e = go (nat_cmp m n) refl e
  where
    go : (o : Ordering) → nat_cmp m n ≡ o → ordering_then o p ≡ Less → (m < n) ⊎ ((m ≡ n) × (p ≡ Less))
    go Less is e = inl (below m n is)
    go Equal is e = inr (same_number m n is, e)
    go Greater is e = cc

pub less_three : (m n i j k l : ℕ) → ordering_then (nat_cmp m n) (ordering_then (nat_cmp i j) (nat_cmp k l)) ≡ Less → (m < n) ⊎ ((m ≡ n) × ((i < j) ⊎ ((i ≡ j) × (k < l))))
less_three m n i j k l e = first (less_first m n (ordering_then (nat_cmp i j) (nat_cmp k l)) e)
  where
    second : (i < j) ⊎ ((i ≡ j) × (nat_cmp k l ≡ Less)) → (i < j) ⊎ ((i ≡ j) × (k < l))
    second (inl h) = inl h
    second (inr h) = inr (h.0, below k l h.1)

    first : (m < n) ⊎ ((m ≡ n) × (ordering_then (nat_cmp i j) (nat_cmp k l) ≡ Less)) → (m < n) ⊎ ((m ≡ n) × ((i < j) ⊎ ((i ≡ j) × (k < l))))
    first (inl h) = inl h
    first (inr h) = inr (h.0, second (less_first i j (nat_cmp k l) h.1))

above : (m n : ℕ) → nat_cmp m n ≡ Greater → n < m
above m n e = grind arith

greater_first : (m n : ℕ) (p : Ordering) → ordering_then (nat_cmp m n) p ≡ Greater → (n < m) ⊎ ((m ≡ n) × (p ≡ Greater))
greater_first m n p e = go (nat_cmp m n) refl e
  where
    go : (o : Ordering) → nat_cmp m n ≡ o → ordering_then o p ≡ Greater → (n < m) ⊎ ((m ≡ n) × (p ≡ Greater))
    go Less is e = cc
    go Equal is e = inr (same_number m n is, e)
    go Greater is e = inl (above m n is)

pub greater_three : (m n i j k l : ℕ) → ordering_then (nat_cmp m n) (ordering_then (nat_cmp i j) (nat_cmp k l)) ≡ Greater → (n < m) ⊎ ((m ≡ n) × ((j < i) ⊎ ((i ≡ j) × (l < k))))
greater_three m n i j k l e = first (greater_first m n (ordering_then (nat_cmp i j) (nat_cmp k l)) e)
  where
    second : (j < i) ⊎ ((i ≡ j) × (nat_cmp k l ≡ Greater)) → (j < i) ⊎ ((i ≡ j) × (l < k))
    second (inl h) = inl h
    second (inr h) = inr (h.0, above k l h.1)

    first : (n < m) ⊎ ((m ≡ n) × (ordering_then (nat_cmp i j) (nat_cmp k l) ≡ Greater)) → (n < m) ⊎ ((m ≡ n) × ((j < i) ⊎ ((i ≡ j) × (l < k))))
    first (inl h) = inl h
    first (inr h) = inr (h.0, second (greater_first i j (nat_cmp k l) h.1))

less_cmp : (m n : ℕ) → m < n → nat_cmp m n ≡ Less
less_cmp m n h = grind arith

equal_cmp : (m n : ℕ) → m ≡ n → nat_cmp m n ≡ Equal
equal_cmp m n h = grind arith

greater_cmp : (m n : ℕ) → n < m → nat_cmp m n ≡ Greater
greater_cmp m n h = grind arith

-- the way back

pub three_less : (m n i j k l : ℕ) → (m < n) ⊎ ((m ≡ n) × ((i < j) ⊎ ((i ≡ j) × (k < l)))) → ordering_then (nat_cmp m n) (ordering_then (nat_cmp i j) (nat_cmp k l)) ≡ Less
three_less m n i j k l (inl h) = ap (λ o. ordering_then o (ordering_then (nat_cmp i j) (nat_cmp k l))) (less_cmp m n h)
three_less m n i j k l (inr (e, inl h)) = ap (λ o. ordering_then o (ordering_then (nat_cmp i j) (nat_cmp k l))) (equal_cmp m n e) ∙ ap (λ o. ordering_then o (nat_cmp k l)) (less_cmp i j h)
three_less m n i j k l (inr (e, inr (f, h))) = ap (λ o. ordering_then o (ordering_then (nat_cmp i j) (nat_cmp k l))) (equal_cmp m n e) ∙ ap (λ o. ordering_then o (nat_cmp k l)) (equal_cmp i j f) ∙ less_cmp k l h

pub three_greater : (m n i j k l : ℕ) → (n < m) ⊎ ((m ≡ n) × ((j < i) ⊎ ((i ≡ j) × (l < k)))) → ordering_then (nat_cmp m n) (ordering_then (nat_cmp i j) (nat_cmp k l)) ≡ Greater
three_greater m n i j k l (inl h) = ap (λ o. ordering_then o (ordering_then (nat_cmp i j) (nat_cmp k l))) (greater_cmp m n h)
three_greater m n i j k l (inr (e, inl h)) = ap (λ o. ordering_then o (ordering_then (nat_cmp i j) (nat_cmp k l))) (equal_cmp m n e) ∙ ap (λ o. ordering_then o (nat_cmp k l)) (greater_cmp i j h)
three_greater m n i j k l (inr (e, inr (f, h))) = ap (λ o. ordering_then o (ordering_then (nat_cmp i j) (nat_cmp k l))) (equal_cmp m n e) ∙ ap (λ o. ordering_then o (nat_cmp k l)) (equal_cmp i j f) ∙ greater_cmp k l h

-- an order that is not above, or not below

pub not_greater : (o : Ordering) → (o ≡ Greater → ⊥) → is_gt o ≡ false
not_greater Less h = refl
not_greater Equal h = refl
not_greater Greater h = absurd (h refl)

pub is_not_greater : (o : Ordering) → is_gt o ≡ false → o ≡ Greater → ⊥
is_not_greater o e g = let f : is_gt o ≡ true = ap is_gt g in cc

pub is_not_less : (o : Ordering) → is_lt o ≡ false → o ≡ Less → ⊥
is_not_less o e g = let f : is_lt o ≡ true = ap is_lt g in cc

pub le_from_not : (m n : ℕ) → (n < m → ⊥) → m ≤ n
le_from_not m n h = go (cases_lt n m)
  where
    go : (n < m) ⊎ (m ≤ n) → m ≤ n
    go (inl k) = absurd (h k)
    go (inr k) = k

-- the first of three numbers lies between two that are equal
pub between_equal : (s m i j k l a b c d : ℕ) → is_gt (ordering_then (nat_cmp s m) (ordering_then (nat_cmp a i) (nat_cmp b j))) ≡ false → is_gt (ordering_then (nat_cmp m s) (ordering_then (nat_cmp k c) (nat_cmp l d))) ≡ false → m ≡ s
between_equal s m i j k l a b c d e f =
    let low : s ≤ m = le_from_not s m (λ h. is_not_greater (ordering_then (nat_cmp s m) (ordering_then (nat_cmp a i) (nat_cmp b j))) e (three_greater s m a i b j (inl h))) in
    let high : m ≤ s = le_from_not m s (λ h. is_not_greater (ordering_then (nat_cmp m s) (ordering_then (nat_cmp k c) (nat_cmp l d))) f (three_greater m s k c l d (inl h))) in
    omega arith
