-- The order of addresses, its test of equality, and lists in it.
use Rattle.std.proofs.Common.{◌≡◌, ℕ, ◌<◌, true, cond, ◌&&◌, ◌⊎◌, inl, inr, ⊎_elim, List, [], ◌∷◌, eqb, nat_cmp, is_eq, Ordering, Less, Equal, Greater, Some, refl, sym, ap, subst, ◌∙◌, arith}
use Rattle.std.specs.Ordering.{ordering_then}
use Rattle.std.specs.Cmp.{IsTotalOrder}
use Rattle.std.specs.List.{AllByRecursion}
use Rattle.std.specs.List.Sorted.{IsStrictlySortedBy}
use Rattle.std.specs.Map.{lookup, keys_of}
use Rattle.std.proofs.lemmas.Cmp.{then_total, on_total, nat_cmp_total}
use Rattle.std.proofs.lemmas.Map.Keys.{sorted_head, sorted_tail}
use Rattle.cell_values.specs.contracts.address.AddrOrd.TheImpl as addr_ord
use Rattle.cell_values.specs.declared.address.Addr.{Addr}
use Rattle.cell_values.specs.Addresses.{same_addr, IsBefore}
use Rattle.cell_values.specs.Order.{IsBeforeAll, InOrder, addresses, entry_at}

-- the comparison that ordered maps go by
abbrev pub cmp : Addr → Addr → Ordering
cmp = (addr_ord.ghosts).cmp

pub addr_total : IsTotalOrder cmp
addr_total = then_total (on_total (λ (a : Addr). a.sheet) nat_cmp_total) (then_total (on_total (λ (a : Addr). a.row) nat_cmp_total) (on_total (λ (a : Addr). a.col) nat_cmp_total))

-- the test of equality

pub is_eq-then : (o p : Ordering) → is_eq (ordering_then o p) ≡ (is_eq o && is_eq p)
is_eq-then Less p = refl
is_eq-then Equal p = refl
is_eq-then Greater p = refl

pub is_eq-nat_cmp : (m n : ℕ) → is_eq (nat_cmp m n) ≡ eqb m n
is_eq-nat_cmp m n = grind arith

pub same_cmp : (a b : Addr) → is_eq (cmp a b) ≡ same_addr a b
same_cmp a b =
    is_eq-then (nat_cmp a.sheet b.sheet) (ordering_then (nat_cmp a.row b.row) (nat_cmp a.col b.col))
    ∙ (λ i. is_eq-nat_cmp a.sheet b.sheet i && is_eq-then (nat_cmp a.row b.row) (nat_cmp a.col b.col) i)
    ∙ (λ i. eqb a.sheet b.sheet && (is_eq-nat_cmp a.row b.row i && is_eq-nat_cmp a.col b.col i))

pub same_addr-refl : (a : Addr) → same_addr a a ≡ true
same_addr-refl a = grind arith

pub same_addr-true : (a b : Addr) → same_addr a b ≡ true → a ≡ b
same_addr-true a b h = (let s : a.sheet ≡ b.sheet = grind (arith, h) in let r : a.row ≡ b.row = grind (arith, h) in let c : a.col ≡ b.col = grind (arith, h) in λ i. record { sheet = s i; row = r i; col = c i })

eqb-sym : (m n : ℕ) → eqb m n ≡ eqb n m
eqb-sym m n = grind arith

pub same_addr-sym : (a b : Addr) → same_addr a b ≡ same_addr b a
same_addr-sym a b = λ i. eqb-sym a.sheet b.sheet i && (eqb-sym a.row b.row i && eqb-sym a.col b.col i)

-- the order

pub never_before : (a : Addr) → IsBefore a a → ⊥
never_before a (inl h) = omega arith
never_before a (inr h) = ⊎_elim (λ (k : a.row < a.row). absurd (omega arith)) (λ (k : (a.row ≡ a.row) × (a.col < a.col)). absurd (omega (arith, k.1))) h.1

pub before_trans : (a b c : Addr) → IsBefore a b → IsBefore b c → IsBefore a c
before_trans a b c h k = go h k
  where
    rows : (a.row < b.row) ⊎ ((a.row ≡ b.row) × (a.col < b.col)) → (b.row < c.row) ⊎ ((b.row ≡ c.row) × (b.col < c.col)) → (a.row < c.row) ⊎ ((a.row ≡ c.row) × (a.col < c.col))
    rows (inl p) (inl q) = inl (omega (arith, p, q))
    rows (inl p) (inr q) = (let e = q.0 in inl (omega (arith, p, e)))
    rows (inr p) (inl q) = (let e = p.0 in inl (omega (arith, q, e)))
    rows (inr p) (inr q) = (let l = p.1 in let m = q.1 in inr (p.0 ∙ q.0, omega (arith, l, m)))

    go : IsBefore a b → IsBefore b c → IsBefore a c
    go (inl p) (inl q) = inl (omega (arith, p, q))
    go (inl p) (inr q) = (let e = q.0 in inl (omega (arith, p, e)))
    go (inr p) (inl q) = (let e = p.0 in inl (omega (arith, q, e)))
    go (inr p) (inr q) = inr (p.0 ∙ q.0, rows p.1 q.1)

-- of two addresses only one stands before the other
pub before_apart : (a b : Addr) → IsBefore a b → IsBefore b a → ⊥
before_apart a b h k = never_before a (before_trans a b a h k)

nat_less : (m n : ℕ) → nat_cmp m n ≡ Less → m < n
nat_less m n e = grind (arith, e)

nat_equal : (m n : ℕ) → nat_cmp m n ≡ Equal → m ≡ n
nat_equal m n e = grind (arith, e)

nat_greater : (m n : ℕ) → nat_cmp m n ≡ Greater → n < m
nat_greater m n e = grind (arith, e)

pub cmp_less : (a b : Addr) → cmp a b ≡ Less → IsBefore a b
cmp_less a b e = by_sheet (nat_cmp a.sheet b.sheet) refl e
  where
    by_col : (o : Ordering) → nat_cmp a.sheet b.sheet ≡ Equal → nat_cmp a.row b.row ≡ Equal → nat_cmp a.col b.col ≡ o → o ≡ Less → IsBefore a b
    by_col o p q r e = inr (nat_equal a.sheet b.sheet p, inr (nat_equal a.row b.row q, nat_less a.col b.col (r ∙ e)))

    by_row : (o : Ordering) → nat_cmp a.sheet b.sheet ≡ Equal → nat_cmp a.row b.row ≡ o → ordering_then o (nat_cmp a.col b.col) ≡ Less → IsBefore a b
    by_row Less p q e = inr (nat_equal a.sheet b.sheet p, inl (nat_less a.row b.row q))
    by_row Equal p q e = by_col (nat_cmp a.col b.col) p q refl e
    by_row Greater p q e = cc

    by_sheet : (o : Ordering) → nat_cmp a.sheet b.sheet ≡ o → ordering_then o (ordering_then (nat_cmp a.row b.row) (nat_cmp a.col b.col)) ≡ Less → IsBefore a b
    by_sheet Less p e = inl (nat_less a.sheet b.sheet p)
    by_sheet Equal p e = by_row (nat_cmp a.row b.row) p refl e
    by_sheet Greater p e = cc

pub cmp_greater : (a b : Addr) → cmp a b ≡ Greater → IsBefore b a
cmp_greater a b e = by_sheet (nat_cmp a.sheet b.sheet) refl e
  where
    by_row : (o : Ordering) → nat_cmp a.sheet b.sheet ≡ Equal → nat_cmp a.row b.row ≡ o → ordering_then o (nat_cmp a.col b.col) ≡ Greater → IsBefore b a
    by_row Greater p q e = inr (sym (nat_equal a.sheet b.sheet p), inl (nat_greater a.row b.row q))
    by_row Equal p q e = inr (sym (nat_equal a.sheet b.sheet p), inr (sym (nat_equal a.row b.row q), nat_greater a.col b.col e))
    by_row Less p q e = cc

    by_sheet : (o : Ordering) → nat_cmp a.sheet b.sheet ≡ o → ordering_then o (ordering_then (nat_cmp a.row b.row) (nat_cmp a.col b.col)) ≡ Greater → IsBefore b a
    by_sheet Greater p e = inl (nat_greater a.sheet b.sheet p)
    by_sheet Equal p e = by_row (nat_cmp a.row b.row) p refl e
    by_sheet Less p e = cc

pub cmp_equal : (a b : Addr) → cmp a b ≡ Equal → a ≡ b
cmp_equal a b e = by_sheet (nat_cmp a.sheet b.sheet) refl e
  where
    by_row : (o : Ordering) → nat_cmp a.sheet b.sheet ≡ Equal → nat_cmp a.row b.row ≡ o → ordering_then o (nat_cmp a.col b.col) ≡ Equal → a ≡ b
    by_row Equal p q e = λ i. record { sheet = nat_equal a.sheet b.sheet p i; row = nat_equal a.row b.row q i; col = nat_equal a.col b.col e i }
    by_row Greater p q e = cc
    by_row Less p q e = cc

    by_sheet : (o : Ordering) → nat_cmp a.sheet b.sheet ≡ o → ordering_then o (ordering_then (nat_cmp a.row b.row) (nat_cmp a.col b.col)) ≡ Equal → a ≡ b
    by_sheet Equal p e = by_row (nat_cmp a.row b.row) p refl e
    by_sheet Greater p e = cc
    by_sheet Less p e = cc

-- lists in order, and look-ups in ordered maps

before_all : (a : Addr) (xs : List Addr) → AllByRecursion (λ b. cmp a b ≡ Less) xs → IsBeforeAll a xs
before_all a [] h = tt
before_all a (x ∷ xs) h = (cmp_less a x h.0, before_all a xs h.1)

-- the keys of an ordered set
pub in_order : (xs : List Addr) → IsStrictlySortedBy cmp xs → InOrder xs
in_order [] h = tt
in_order (x ∷ xs) h = (before_all x xs (sorted_head cmp x xs h), in_order xs (sorted_tail cmp x xs h))

-- the addresses of a list are the keys of the map with these entries
pub addresses_are_keys : {A : Type 0} → (es : List (Addr × A)) → keys_of es ≡ addresses es
addresses_are_keys [] = refl
addresses_are_keys (e ∷ es) = ap (λ z. e.0 ∷ z) (addresses_are_keys es)

-- the entries of an ordered map
pub entries_in_order : {A : Type 0} → (es : List (Addr × A)) → IsStrictlySortedBy cmp (keys_of es) → InOrder (addresses es)
entries_in_order es h = subst InOrder (addresses_are_keys es) (in_order (keys_of es) h)

pub lookup_is : {A : Type 0} → (es : List (Addr × A)) (a : Addr) → lookup (λ k. is_eq (cmp a k)) es ≡ entry_at es a
lookup_is [] a = refl
lookup_is (e ∷ es) a = λ i. cond (same_cmp a e.0 i) (Some e.1) (lookup_is es a i)
