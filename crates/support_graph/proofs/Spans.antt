-- The cells of a map that lie in an area.
use Rattle.std.proofs.Common.{◌≡◌, ℕ, ◌≤◌, Bool, true, false, cond, not, ◌⊎◌, inl, inr, ⊎_elim, List, [], ◌∷◌, ◌++◌, map, nat_cmp, Ordering, Less, Equal, Greater, Bor, refl, sym, ap, ◌∙◌, subst, arith, Some, IsSome}
use Rattle.std.specs.Global.{Vec}
use Rattle.std.specs.Ordering.{ordering_then, is_lt, is_le}
use Rattle.std.specs.List.{filter}
use Rattle.std.specs.Map.{keys_of}
use Rattle.std.specs.declared.ops.Bound.TheVariants.{Included}
use Rattle.std.specs.BTreeMap.Range.{range_contains}
use Rattle.cell_values.specs.declared.address.Addr.{Addr}
use Rattle.cell_values.specs.declared.address.Area.{Area}
use Rattle.cell_values.specs.Addresses.{same_addr}
use Rattle.cell_values.specs.Areas.{is_inside}
use Rattle.cell_values.proofs.Order.{cmp, same_addr-true, same_addr-refl}
use Rattle.cell_values.specs.Order.{entry_at}
use Rattle.demand_spec.specs.Laws.{In}
use Rattle.support_graph.specs.declared.search.Search.{Search}
use Rattle.support_graph.specs.Support.{listed, IsCell}
use Rattle.support_graph.specs.Steps.{Visits}
use Rattle.support_graph.proofs.Visits.{visits_then, visits_as}
use Rattle.support_graph.proofs.Readers.{inside}
use Rattle.support_graph.proofs.Cells.{Entries}
use Rattle.support_graph.proofs.Ranges.{is_le-both}
use Rattle.support_graph.proofs.Truths.{and_both}

abbrev pub Item : Type 0
Item = Bor Addr × Bor (Vec Area)

-- the addresses that a loop went over
abbrev pub yielded_addresses : List Item → List Addr
yielded_addresses ys = map (λ (y : Item). y.0.now) ys

-- an area's cells stand between its first and its last

not_lt_then : (o p : Ordering) → is_lt o ≡ false → is_lt p ≡ false → is_lt (ordering_then o p) ≡ false
not_lt_then Less p h k = h
not_lt_then Equal p h k = k
not_lt_then Greater p h k = refl

nat_le_cmp : (m n : ℕ) → m ≤ n → is_le (nat_cmp m n) ≡ true
nat_le_cmp m n h = grind (arith, h)

nat_not_lt_cmp : (m n : ℕ) → n ≤ m → is_lt (nat_cmp m n) ≡ false
nat_not_lt_cmp m n h = grind (arith, h)

abbrev pub between : Addr → Addr → Addr → Bool
between a b c = range_contains cmp (Included a) (Included b) c

pub inside_between : (r : Area) (a b c : Addr) → a.sheet ≡ r.sheet → a.row ≡ r.top → a.col ≡ r.left → b.sheet ≡ r.sheet → b.row ≡ r.bottom → b.col ≡ r.right → is_inside r c ≡ true → between a b c ≡ true
inside_between r a b c e f g h k l m =
    let p = inside r c m in
    let s = p.sheet in
    let t = p.top in
    let u = p.bottom in
    let v = p.left in
    let w = p.right in
    let first : a.sheet ≤ c.sheet = grind (arith, s, e) in
    let last : c.sheet ≤ b.sheet = grind (arith, s, h) in
    and_both (is_le (cmp a c)) (not (is_lt (cmp b c)))
    (is_le-both (nat_cmp a.sheet c.sheet) (ordering_then (nat_cmp a.row c.row) (nat_cmp a.col c.col)) (nat_le_cmp a.sheet c.sheet first)
    (is_le-both (nat_cmp a.row c.row) (nat_cmp a.col c.col) (nat_le_cmp a.row c.row (omega (arith, f, t))) (nat_le_cmp a.col c.col (omega (arith, g, v)))))
    (ap not (not_lt_then (nat_cmp b.sheet c.sheet) (ordering_then (nat_cmp b.row c.row) (nat_cmp b.col c.col)) (nat_not_lt_cmp b.sheet c.sheet last)
    (not_lt_then (nat_cmp b.row c.row) (nat_cmp b.col c.col) (nat_not_lt_cmp b.row c.row (omega (arith, k, u))) (nat_not_lt_cmp b.col c.col (omega (arith, l, w))))))

-- the cells of the map

pub key_is_cell : (c : Addr) (es : Entries) → In c (keys_of es) → IsCell (listed es) c
key_is_cell c [] m = elim m [ ]
key_is_cell c (e ∷ es) (inl p) = subst (λ q. IsSome (cond q (Some e.1.items) (entry_at (listed es) c))) (sym ((λ i. same_addr (p i) e.0) ∙ same_addr-refl e.0)) refl
key_is_cell c (e ∷ es) (inr m) = go (same_addr c e.0) (key_is_cell c es m)
  where
    go : (q : Bool) → IsCell (listed es) c → IsSome (cond q (Some e.1.items) (entry_at (listed es) c))
    go true k = refl
    go false k = k

pub cell_is_key : (c : Addr) (es : Entries) → IsCell (listed es) c → In c (keys_of es)
cell_is_key c [] m = cc
cell_is_key c (e ∷ es) m = go (same_addr c e.0) refl m (cell_is_key c es)
  where
    go : (q : Bool) → same_addr c e.0 ≡ q → IsSome (cond q (Some e.1.items) (entry_at (listed es) c)) → (IsCell (listed es) c → In c (keys_of es)) → In c (keys_of (e ∷ es))
    go true p k f = inl (same_addr-true c e.0 p)
    go false p k f = inr (f k)

pub filtered_key : (test : Addr → Bool) (c : Addr) (es : Entries) → In c (keys_of (filter (λ e. test e.0) es)) → In c (keys_of es)
filtered_key test c [] m = m
filtered_key test c (e ∷ es) m = go (test e.0) m (filtered_key test c es)
  where
    go : (q : Bool) → In c (keys_of (cond q (e ∷ filter (λ x. test x.0) es) (filter (λ x. test x.0) es))) → (In c (keys_of (filter (λ x. test x.0) es)) → In c (keys_of es)) → In c (keys_of (e ∷ es))
    go true (inl p) f = inl p
    go true (inr p) f = inr (f p)
    go false p f = inr (f p)

pub key_filtered : (test : Addr → Bool) (c : Addr) (es : Entries) → test c ≡ true → In c (keys_of es) → In c (keys_of (filter (λ e. test e.0) es))
key_filtered test c [] t m = m
key_filtered test c (e ∷ es) t (inl p) = go (test e.0) (subst (λ z. test z ≡ true) p t)
  where
    go : (q : Bool) → q ≡ true → In c (keys_of (cond q (e ∷ filter (λ x. test x.0) es) (filter (λ x. test x.0) es)))
    go true h = inl p
    go false h = absurd cc
key_filtered test c (e ∷ es) t (inr m) = go (test e.0) (key_filtered test c es t m)
  where
    go : (q : Bool) → In c (keys_of (filter (λ x. test x.0) es)) → In c (keys_of (cond q (e ∷ filter (λ x. test x.0) es) (filter (λ x. test x.0) es)))
    go true k = inr k
    go false k = k

pub yielded_keys : (ys : List Item) → yielded_addresses ys ≡ keys_of (map (λ (y : Item). (y.0.now, y.1.now)) ys)
yielded_keys [] = refl
yielded_keys (y ∷ ys) = λ i. y.0.now ∷ yielded_keys ys i

pub more_addresses : (ys : List Item) (y : Item) (c : Addr) → In c (yielded_addresses ys) ⊎ (c ≡ y.0.now) → In c (yielded_addresses (ys ++ y ∷ []))
more_addresses [] y c (inl m) = elim m [ ]
more_addresses [] y c (inr e) = inl e
more_addresses (x ∷ ys) y c (inl (inl e)) = inl e
more_addresses (x ∷ ys) y c (inl (inr m)) = inr (more_addresses ys y c (inl m))
more_addresses (x ∷ ys) y c (inr e) = inr (more_addresses ys y c (inr e))

pub addresses_more : (ys : List Item) (y : Item) (c : Addr) → In c (yielded_addresses (ys ++ y ∷ [])) → In c (yielded_addresses ys) ⊎ (c ≡ y.0.now)
addresses_more [] y c (inl e) = inr e
addresses_more [] y c (inr m) = elim m [ ]
addresses_more (x ∷ ys) y c (inl e) = inl (inl e)
addresses_more (x ∷ ys) y c (inr m) = ⊎_elim (λ (n : In c (yielded_addresses ys)). inl (inr n)) (λ (n : c ≡ y.0.now). inr n) (addresses_more ys y c m)

-- one more address
pub visits_address : (r : Area) (ys : List Item) (y : Item) (s t u : Search) → Visits (λ c. In c (yielded_addresses ys) × (is_inside r c ≡ true)) s t → Visits (λ c. (c ≡ y.0.now) × (is_inside r c ≡ true)) t u → Visits (λ c. In c (yielded_addresses (ys ++ y ∷ [])) × (is_inside r c ≡ true)) s u
visits_address r ys y s t u a b =
    visits_as (λ c. (In c (yielded_addresses ys) × (is_inside r c ≡ true)) ⊎ ((c ≡ y.0.now) × (is_inside r c ≡ true))) (λ c. In c (yielded_addresses (ys ++ y ∷ [])) × (is_inside r c ≡ true)) s u to from
    (visits_then (λ c. In c (yielded_addresses ys) × (is_inside r c ≡ true)) (λ c. (c ≡ y.0.now) × (is_inside r c ≡ true)) s t u a b)
  where
    to : (c : Addr) → (In c (yielded_addresses ys) × (is_inside r c ≡ true)) ⊎ ((c ≡ y.0.now) × (is_inside r c ≡ true)) → In c (yielded_addresses (ys ++ y ∷ [])) × (is_inside r c ≡ true)
    to c (inl m) = (more_addresses ys y c (inl m.0), m.1)
    to c (inr m) = (more_addresses ys y c (inr m.0), m.1)

    from : (c : Addr) → In c (yielded_addresses (ys ++ y ∷ [])) × (is_inside r c ≡ true) → (In c (yielded_addresses ys) × (is_inside r c ≡ true)) ⊎ ((c ≡ y.0.now) × (is_inside r c ≡ true))
    from c m = ⊎_elim (λ (n : In c (yielded_addresses ys)). inl (n, m.1)) (λ (n : c ≡ y.0.now). inr (n, m.1)) (addresses_more ys y c m.0)

-- all addresses of the range
pub visits_range : (r : Area) (a b : Addr) (es : Entries) (ys : List Item) (s t : Search) → ((c : Addr) → is_inside r c ≡ true → between a b c ≡ true) → map (λ (y : Item). (y.0.now, y.1.now)) ys ≡ filter (λ e. between a b e.0) es
    → Visits (λ c. In c (yielded_addresses ys) × (is_inside r c ≡ true)) s t → Visits (λ c. IsCell (listed es) c × (is_inside r c ≡ true)) s t
visits_range r a b es ys s t within e v = visits_as (λ c. In c (yielded_addresses ys) × (is_inside r c ≡ true)) (λ c. IsCell (listed es) c × (is_inside r c ≡ true)) s t to from v
  where
    same : yielded_addresses ys ≡ keys_of (filter (λ x. between a b x.0) es)
    same = yielded_keys ys ∙ ap keys_of e

    to : (c : Addr) → In c (yielded_addresses ys) × (is_inside r c ≡ true) → IsCell (listed es) c × (is_inside r c ≡ true)
    to c m = (key_is_cell c es (filtered_key (between a b) c es (subst (In c) same m.0)), m.1)

    from : (c : Addr) → IsCell (listed es) c × (is_inside r c ≡ true) → In c (yielded_addresses ys) × (is_inside r c ≡ true)
    from c m = (subst (In c) (sym same) (key_filtered (between a b) c es (within c m.1) (cell_is_key c es m.0)), m.1)
