-- Pending cells of an area that are looked at.
use Rattle.std.proofs.Common.{◌≡◌, ℕ, suc, ◌+◌, ◌-◌, ◌<◌, ◌≤◌, true, ◌⊎◌, inl, inr, List, ◌∷◌, length, take, drop, drop-cons, get_or, sym, subst, arith}
use Rattle.std.proofs.lemmas.List.{take_all, length-drop}
use Rattle.cell_values.specs.declared.address.Addr.{Addr}
use Rattle.cell_values.specs.declared.address.Area.{Area}
use Rattle.cell_values.specs.Addresses.{IsBefore}
use Rattle.cell_values.specs.Areas.{cell_of, is_inside}
use Rattle.cell_values.specs.Order.{InOrder}
use Rattle.cell_values.proofs.Order.{before_trans}
use Rattle.demand_spec.specs.Laws.{In}
use Rattle.demand_spec.proofs.OneList.{before_member}
use Rattle.support_graph.specs.Support.{CellAreas, IsCell}
use Rattle.support_graph.proofs.Readers.{inside}
use Rattle.support_graph.proofs.Lists.{no_addr, found_behind, dropped_in_order}
use Rattle.support_graph.proofs.Reach.{take_more}

-- an area's cells stand neither before its first one nor behind its last one

outside_before : (r : Area) (a c : Addr) → a ≡ cell_of r 0 0 → IsBefore c a → is_inside r c ≡ true → ⊥
outside_before r a c e h k = go (subst (IsBefore c) e h)
  where
    go : IsBefore c (cell_of r 0 0) → ⊥
    go (inl m) = (let s = (inside r c k).sheet in grind (arith, s, m))
    go (inr m) = rows m.1
      where
        rows : (c.row < r.top + 0) ⊎ ((c.row ≡ r.top + 0) × (c.col < r.left + 0)) → ⊥
        rows (inl n) = (let t = (inside r c k).top in omega (arith, t, n))
        rows (inr n) = (let l = (inside r c k).left in let p = n.1 in omega (arith, l, p))

outside_behind : (r : Area) (b c : Addr) → b.sheet ≡ r.sheet → b.row ≡ r.bottom → b.col ≡ r.right → IsBefore b c → is_inside r c ≡ true → ⊥
outside_behind r b c e f g (inl m) k = (let s = (inside r c k).sheet in grind (arith, s, m, e))
outside_behind r b c e f g (inr m) k = rows m.1
  where
    rows : (b.row < c.row) ⊎ ((b.row ≡ c.row) × (b.col < c.col)) → ⊥
    rows (inl n) = (let t = (inside r c k).bottom in omega (arith, t, n, f))
    rows (inr n) = (let l = (inside r c k).right in let p = n.1 in omega (arith, l, p, g))

-- the cells of the area among the first ones are of the support
abbrev pub AreThere : CellAreas → Area → List Addr → Type 0
AreThere s r xs = (c : Addr) → In c xs → is_inside r c ≡ true → IsCell s c

-- the pending cells from a place on, as a slice is taken
pub rest_of : (first n : ℕ) (pending : List Addr) → n ≡ length pending - first → first ≤ length pending → take n (drop first pending) ≡ drop first pending
rest_of first n pending e h = take_all n (drop first pending) (omega (arith, e, length-drop first pending))

-- those in front of the place stand before the area
behind_first : (s : CellAreas) (r : Area) (a : Addr) (pending : List Addr) (first : ℕ) → a ≡ cell_of r 0 0 → ((c : Addr) → In c (take first pending) → IsBefore c a) → AreThere s r (drop first pending) → AreThere s r pending
behind_first s r a pending first e h there c m k = go (found_behind c first pending m)
  where
    go : In c (take first pending) ⊎ In c (drop first pending) → IsCell s c
    go (inl n) = absurd (outside_before r a c e (h c n) k)
    go (inr n) = there c n k

-- all were looked at
pub all_there : (s : CellAreas) (r : Area) (a : Addr) (pending : List Addr) (first k : ℕ) → a ≡ cell_of r 0 0 → ((c : Addr) → In c (take first pending) → IsBefore c a) → length (drop first pending) ≤ k → AreThere s r (take k (drop first pending)) → AreThere s r pending
all_there s r a pending first k e h l there = behind_first s r a pending first e h (subst (AreThere s r) (take_all k (drop first pending) l) there)

-- the next one stands behind the area
pub rest_there : (s : CellAreas) (r : Area) (a b : Addr) (pending : List Addr) (first k : ℕ) → InOrder pending → a ≡ cell_of r 0 0 → (b.sheet ≡ r.sheet) × (b.row ≡ r.bottom) × (b.col ≡ r.right) → ((c : Addr) → In c (take first pending) → IsBefore c a) → k < length (drop first pending) → IsBefore b (get_or (drop first pending) k no_addr) → AreThere s r (take k (drop first pending)) → AreThere s r pending
rest_there s r a b pending first k order e f h l behind there = behind_first s r a pending first e h (λ c m i. go c i (found_behind c k (drop first pending) m))
  where
    rest : List Addr
    rest = drop first pending

    next : Addr
    next = get_or (drop first pending) k no_addr

    later : (c : Addr) → In c (next ∷ drop (suc k) rest) → InOrder (next ∷ drop (suc k) rest) → IsBefore b c
    later c (inl g) o = subst (IsBefore b) (sym g) behind
    later c (inr n) o = before_trans b next c behind (before_member next (drop (suc k) rest) c o.0 n)

    go : (c : Addr) → is_inside r c ≡ true → In c (take k rest) ⊎ In c (drop k rest) → IsCell s c
    go c i (inl n) = there c n i
    go c i (inr n) = absurd (outside_behind r b c f.0 f.1 f.2 (later c (subst (In c) (drop-cons rest k no_addr l) n) (subst InOrder (drop-cons rest k no_addr l) (dropped_in_order k rest (dropped_in_order first pending order)))) i)

-- one more was looked at
pub one_more_there : (s : CellAreas) (r : Area) (xs : List Addr) (k : ℕ) → k < length xs → (is_inside r (get_or xs k no_addr) ≡ true → IsCell s (get_or xs k no_addr)) → AreThere s r (take k xs) → AreThere s r (take (k + 1) xs)
one_more_there s r xs k l here there = (let next : suc k ≡ k + 1 = omega arith in subst (λ n. AreThere s r (take n xs)) next (λ c m i. go c i (take_more c k xs l m)))
  where
    go : (c : Addr) → is_inside r c ≡ true → In c (take k xs) ⊎ (c ≡ get_or xs k no_addr) → IsCell s c
    go c i (inl n) = there c n i
    go c i (inr e) = subst (IsCell s) (sym e) (here (subst (λ d. is_inside r d ≡ true) e i))
