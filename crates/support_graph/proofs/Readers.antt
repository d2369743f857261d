-- The cells that read a cell, or a cell of an area.
use Rattle.std.proofs.Common.{◌≡◌, ℕ, ◌+◌, ◌<◌, ◌≤◌, true, ◌&&◌, ◌⊎◌, inl, inr, List, refl, sym, subst, arith, Option, Some, None, IfSome, IsSomeAnd, All, Result, Ok, Err, OnOk, is_ok}
use Rattle.std.specs.Prelude.{nat_le, ◌==◌, max, if◌then◌else◌}
use Rattle.std.specs.List.{list_any}
use Rattle.cell_values.specs.declared.address.Addr.{Addr}
use Rattle.cell_values.specs.declared.address.Area.{Area}
use Rattle.cell_values.specs.Areas.{IsArea, is_inside}
use Rattle.cell_values.specs.Order.{entry_at}
use Rattle.support_graph.specs.declared.block.Key.{Key}
use Rattle.support_graph.specs.declared.block.Reader.{Reader}
use Rattle.support_graph.specs.declared.search.Search.{Search}
use Rattle.support_graph.specs.Support.{CellAreas, hold, IsIndexed, Reads}
use Rattle.support_graph.specs.Steps.{Visits, meets, ReadsRows, ReadsArea}
use Rattle.support_graph.proofs.Visits.{visits_seen, visits_then, visits_as}
use Rattle.support_graph.proofs.Truths.{and_first, and_second, and_both, below_next, any_more, one_passes}

-- what `is_inside` says
pub record Inside (r : Area) (a : Addr) : Type 0 where
  pub sheet : (r.sheet == a.sheet) ≡ true
  pub top : r.top ≤ a.row
  pub bottom : a.row ≤ r.bottom
  pub left : r.left ≤ a.col
  pub right : a.col ≤ r.right

le_from : (m n : ℕ) → nat_le m n ≡ true → m ≤ n
le_from m n h = grind (arith, h)

from_le : (m n : ℕ) → m ≤ n → nat_le m n ≡ true
from_le m n h = grind (arith, h)

pub inside : (r : Area) (a : Addr) → is_inside r a ≡ true → Inside r a
inside r a h =
    let at = r.sheet == a.sheet in
    let tall = nat_le r.top a.row && nat_le a.row r.bottom in
    let wide = nat_le r.left a.col && nat_le a.col r.right in
    let p = and_first (at && tall) wide h in
    let t = and_second at tall p in
    let w = and_second (at && tall) wide h in
    record {
      sheet = and_first at tall p;
      top = le_from r.top a.row (and_first (nat_le r.top a.row) (nat_le a.row r.bottom) t);
      bottom = le_from a.row r.bottom (and_second (nat_le r.top a.row) (nat_le a.row r.bottom) t);
      left = le_from r.left a.col (and_first (nat_le r.left a.col) (nat_le a.col r.right) w);
      right = le_from a.col r.right (and_second (nat_le r.left a.col) (nat_le a.col r.right) w);
    }

pub from_inside : (r : Area) (a : Addr) → Inside r a → is_inside r a ≡ true
from_inside r a h =
    let at = r.sheet == a.sheet in
    let tall = nat_le r.top a.row && nat_le a.row r.bottom in
    let wide = nat_le r.left a.col && nat_le a.col r.right in
    and_both (at && tall) wide
    (and_both at tall h.sheet (and_both (nat_le r.top a.row) (nat_le a.row r.bottom) (from_le r.top a.row h.top) (from_le a.row r.bottom h.bottom)))
    (and_both (nat_le r.left a.col) (nat_le a.col r.right) (from_le r.left a.col h.left) (from_le a.col r.right h.right))

-- no area has a row behind the last one
pub none_reads : (s : CellAreas) (keys : List Key) (readers : List Reader) → IsIndexed s keys readers → (a : Addr) → 65536 < a.row → (x : Search) → Visits (λ c. Reads s c a) x x
none_reads s keys readers indexed a h x = visits_seen (λ c. Reads s c a) x (λ c m. absurd (go c (entry_at s c) m (indexed.areas c)))
  where
    go : (c : Addr) (o : Option (List Area)) → IsSomeAnd o (λ areas. hold areas a ≡ true) → IfSome o (All IsArea) → ⊥
    go c None m good = elim m [ ]
    go c (Some areas) m good = (let p = one_passes IsArea (λ r. is_inside r a) areas good m in let w = (inside p.0 a p.2).bottom in let b = p.1.bottom_to in omega (arith, w, b, h))

-- a cell of the column, in the first row that lies in both
abbrev first_common : Area → ℕ → Area → Addr
first_common changed n r = record { sheet = changed.sheet; row = max r.top changed.top; col = n }

-- an area that meets the rows of a column has a cell in common with them
common_cell : (s : CellAreas) (keys : List Key) (readers : List Reader) → IsIndexed s keys readers → (changed : Area) → IsArea changed → (n : ℕ) → changed.left ≤ n → n ≤ changed.right → (c : Addr) → ReadsRows s changed.sheet n changed.top changed.bottom c → ReadsArea s changed (n + 1) c
common_cell s keys readers indexed changed area n low high c m = go (entry_at s c) refl m (indexed.areas c)
  where
    go : (o : Option (List Area)) → entry_at s c ≡ o → IsSomeAnd o (λ areas. list_any (meets changed.sheet n changed.top changed.bottom) areas ≡ true) → IfSome o (All IsArea) → ReadsArea s changed (n + 1) c
    go None e m good = elim m [ ]
    go (Some areas) e m good =
        let p = one_passes IsArea (meets changed.sheet n changed.top changed.bottom) areas good m in
        let r = p.0 in
        let place = r.sheet == changed.sheet in
        let tall = nat_le r.top changed.bottom && nat_le changed.top r.bottom in
        let wide = nat_le r.left n && nat_le n r.right in
        let f = and_first (place && tall) wide p.2 in
        let t = and_second place tall f in
        let w = and_second (place && tall) wide p.2 in
        let a = le_from r.top changed.bottom (and_first (nat_le r.top changed.bottom) (nat_le changed.top r.bottom) t) in
        let b = le_from changed.top r.bottom (and_second (nat_le r.top changed.bottom) (nat_le changed.top r.bottom) t) in
        let g = p.1.top_to in
        let k = area.top_to in
        record {
          at = first_common changed n r;
          before = omega arith;
          inside = from_inside changed (first_common changed n r) (record { sheet = grind arith; top = omega arith; bottom = omega (arith, a, k); left = low; right = high });
          reads = subst (λ (o : Option (List Area)). IsSomeAnd o (λ areas. hold areas (first_common changed n r) ≡ true)) (sym e) (p.3 (λ x. is_inside x (first_common changed n r)) (from_inside r (first_common changed n r) (record { sheet = and_first place tall f; top = omega arith; bottom = omega (arith, b, g); left = le_from r.left n (and_first (nat_le r.left n) (nat_le n r.right) w); right = le_from n r.right (and_second (nat_le r.left n) (nat_le n r.right) w) })));
        }

-- a cell in common is one of some rows of its column
cell_meets : (changed : Area) (a : Addr) → is_inside changed a ≡ true → (r : Area) → is_inside r a ≡ true → meets changed.sheet a.col changed.top changed.bottom r ≡ true
cell_meets changed a h r k =
    let p = inside changed a h in
    let q = inside r a k in
    let s = p.sheet in
    let t = q.sheet in
    let b = p.top in
    let d = p.bottom in
    let e = q.top in
    let f = q.bottom in
    let above : r.top ≤ changed.bottom = omega (arith, d, e) in
    let below : changed.top ≤ r.bottom = omega (arith, b, f) in
    and_both ((r.sheet == changed.sheet) && (nat_le r.top changed.bottom && nat_le changed.top r.bottom)) (nat_le r.left a.col && nat_le a.col r.right)
    (and_both (r.sheet == changed.sheet) (nat_le r.top changed.bottom && nat_le changed.top r.bottom) (grind (arith, s, t)) (and_both (nat_le r.top changed.bottom) (nat_le changed.top r.bottom) (from_le r.top changed.bottom above) (from_le changed.top r.bottom below)))
    (and_both (nat_le r.left a.col) (nat_le a.col r.right) (from_le r.left a.col q.left) (from_le a.col r.right q.right))

pub no_readers : (s : CellAreas) (changed : Area) (x : Search) → Visits (ReadsArea s changed changed.left) x x
no_readers s changed x = visits_seen (ReadsArea s changed changed.left) x (λ c m. absurd (let l = (inside changed m.at m.inside).left in let b = m.before in omega (arith, l, b)))

-- one more column
pub column_readers : (s : CellAreas) (keys : List Key) (readers : List Reader) → IsIndexed s keys readers → (changed : Area) → IsArea changed → (n : ℕ) → changed.left ≤ n → n ≤ changed.right → (x y z : Search) → Visits (ReadsArea s changed n) x y → Visits (ReadsRows s changed.sheet n changed.top changed.bottom) y z → Visits (ReadsArea s changed (n + 1)) x z
column_readers s keys readers indexed changed area n low high x y z a b =
    visits_as (λ c. ReadsArea s changed n c ⊎ ReadsRows s changed.sheet n changed.top changed.bottom c) (ReadsArea s changed (n + 1)) x z to from
    (visits_then (ReadsArea s changed n) (ReadsRows s changed.sheet n changed.top changed.bottom) x y z a b)
  where
    to : (c : Addr) → ReadsArea s changed n c ⊎ ReadsRows s changed.sheet n changed.top changed.bottom c → ReadsArea s changed (n + 1) c
    to c (inl m) = record { at = m.at; before = (let h = m.before in omega (arith, h)); inside = m.inside; reads = m.reads }
    to c (inr m) = common_cell s keys readers indexed changed area n low high c m

    rows : (a : Addr) → is_inside changed a ≡ true → (o : Option (List Area)) → IsSomeAnd o (λ areas. hold areas a ≡ true) → IsSomeAnd o (λ areas. list_any (meets changed.sheet a.col changed.top changed.bottom) areas ≡ true)
    rows a h None m = m
    rows a h (Some areas) m = any_more (λ r. is_inside r a) (meets changed.sheet a.col changed.top changed.bottom) (cell_meets changed a h) areas m

    from : (c : Addr) → ReadsArea s changed (n + 1) c → ReadsArea s changed n c ⊎ ReadsRows s changed.sheet n changed.top changed.bottom c
    from c m = go (below_next m.at.col n m.before)
      where
        go : (m.at.col < n) ⊎ (m.at.col ≡ n) → ReadsArea s changed n c ⊎ ReadsRows s changed.sheet n changed.top changed.bottom c
        go (inl h) = inl (record { at = m.at; before = h; inside = m.inside; reads = m.reads })
        go (inr h) = inr (subst (λ k. ReadsRows s changed.sheet k changed.top changed.bottom c) h (rows m.at m.inside (entry_at s c) m.reads))

pub all_readers : (s : CellAreas) (changed : Area) → IsArea changed → (n : ℕ) → n ≡ changed.right + 1 → (x y : Search) → Visits (ReadsArea s changed n) x y → Visits (ReadsArea s changed 257) x y
all_readers s changed area n e x y v = visits_as (ReadsArea s changed n) (ReadsArea s changed 257) x y
    (λ c m. record { at = m.at; before = (let r = area.right_to in let h = (inside changed m.at m.inside).right in omega (arith, r, h)); inside = m.inside; reads = m.reads })
    (λ c m. record { at = m.at; before = (let h = (inside changed m.at m.inside).right in omega (arith, h, e)); inside = m.inside; reads = m.reads }) v

-- what follows after success
pub on_ok : {T E P Q : Type 0} (r : Result T E) → (P → Q) → OnOk r P → OnOk r Q
on_ok (Ok x) f h = f h
on_ok (Err e) f h = h

pub when_ok : {T E X : Type 0} (r : Result T E) (n a b : X) → n ≡ (if is_ok r then a else b) → OnOk r (n ≡ a)
when_ok (Ok x) n a b h = h
when_ok (Err e) n a b h = tt
