-- The cells that the index has at the blocks of some rows are those with an area that has some of the rows.
use Rattle.std.proofs.Common.{◌≡◌, ℕ, suc, ◌+◌, ◌<◌, ◌≤◌, Bool, true, ◌&&◌, ◌⊎◌, inl, inr, List, refl, sym, ◌∙◌, subst, arith, Option, Some, None, IfSome, IsSomeAnd, All}
use Rattle.std.specs.Prelude.{nat_lt, nat_le, ◌==◌}
use Rattle.std.specs.List.{list_any}
use Rattle.cell_values.specs.declared.address.Addr.{Addr}
use Rattle.cell_values.specs.declared.address.Area.{Area}
use Rattle.cell_values.specs.Areas.{IsArea}
use Rattle.cell_values.specs.Order.{entry_at}
use Rattle.support_graph.specs.declared.block.Key.{Key}
use Rattle.support_graph.specs.declared.block.Reader.{Reader}
use Rattle.support_graph.specs.declared.search.Search.{Search}
use Rattle.support_graph.specs.Blocks.{halves, is_cut, is_block_of}
use Rattle.support_graph.specs.Support.{CellAreas, is_read, IsIndexed}
use Rattle.support_graph.specs.Steps.{Visits, InBlocks, InColumn, block_at, meets, ReadsRows}
use Rattle.support_graph.proofs.Halving.{Meet, cut_from_meet, meet_from_cut}
use Rattle.support_graph.proofs.Visits.{visits_seen, visits_then, visits_as}
use Rattle.support_graph.proofs.Readings.{block_read}
use Rattle.support_graph.proofs.Truths.{and_first, and_second, and_both, below_next, any_more, one_passes}

pub no_levels : (keys : List Key) (readers : List Reader) (sheet col top bottom : ℕ) (s : Search) → Visits (InColumn keys readers sheet col top bottom 0) s s
no_levels keys readers sheet col top bottom s = visits_seen (InColumn keys readers sheet col top bottom 0) s (λ c m. absurd (let h = m.below in omega (arith, h)))

-- one more level
pub level_visits : (keys : List Key) (readers : List Reader) (sheet col top bottom n first last : ℕ) (r s t : Search) → first ≡ halves n top → last ≡ halves n bottom → Visits (InColumn keys readers sheet col top bottom n) r s → Visits (InBlocks keys readers (block_at sheet col n first) last) s t → Visits (InColumn keys readers sheet col top bottom (n + 1)) r t
level_visits keys readers sheet col top bottom n first last r s t e f a b =
    visits_as (λ c. InColumn keys readers sheet col top bottom n c ⊎ InBlocks keys readers (block_at sheet col n first) last c) (InColumn keys readers sheet col top bottom (n + 1)) r t to from
    (visits_then (InColumn keys readers sheet col top bottom n) (InBlocks keys readers (block_at sheet col n first) last) r s t a b)
  where
    at_level : (c : Addr) → InBlocks keys readers (block_at sheet col n first) last c → InBlocks keys readers (block_at sheet col n (halves n top)) (halves n bottom) c
    at_level c m = record { number = m.number; from = subst (λ z. z ≤ m.number) e m.from; to = subst (λ z. m.number ≤ z) f m.to; there = m.there }

    back : (c : Addr) → InBlocks keys readers (block_at sheet col n (halves n top)) (halves n bottom) c → InBlocks keys readers (block_at sheet col n first) last c
    back c m = record { number = m.number; from = subst (λ z. z ≤ m.number) (sym e) m.from; to = subst (λ z. m.number ≤ z) (sym f) m.to; there = m.there }

    to : (c : Addr) → InColumn keys readers sheet col top bottom n c ⊎ InBlocks keys readers (block_at sheet col n first) last c → InColumn keys readers sheet col top bottom (n + 1) c
    to c (inl m) = record { level = m.level; below = (let h = m.below in omega (arith, h)); there = m.there }
    to c (inr m) = record { level = n; below = omega arith; there = at_level c m }

    from : (c : Addr) → InColumn keys readers sheet col top bottom (n + 1) c → InColumn keys readers sheet col top bottom n c ⊎ InBlocks keys readers (block_at sheet col n first) last c
    from c m = go (below_next m.level n m.below)
      where
        go : (m.level < n) ⊎ (m.level ≡ n) → InColumn keys readers sheet col top bottom n c ⊎ InBlocks keys readers (block_at sheet col n first) last c
        go (inl h) = inl (record { level = m.level; below = h; there = m.there })
        go (inr h) = inr (back c (subst (λ z. InBlocks keys readers (block_at sheet col z (halves z top)) (halves z bottom) c) h m.there))

-- a block that lies among those of the rows, and to which the area was cut
block_meets : (sheet col top bottom level number : ℕ) → halves level top ≤ number → number ≤ halves level bottom → (r : Area) → is_block_of r (block_at sheet col level number) ≡ true → meets sheet col top bottom r ≡ true
block_meets sheet col top bottom level number low high r h =
    let at = r.sheet == sheet in
    let wide = nat_le r.left col && nat_le col r.right in
    let cut = nat_lt level 16 && is_cut r.top r.bottom level number in
    let place = and_first (at && wide) cut h in
    let m = meet_from_cut r.top (suc r.bottom) top bottom level number (and_second (nat_lt level 16) (is_cut r.top r.bottom level number) (and_second (at && wide) cut h)) low high in
    let a = m.low in
    let b = m.high in
    let above : nat_le r.top bottom ≡ true = grind (arith, a) in
    let below : nat_le top r.bottom ≡ true = grind (arith, b) in
    and_both (at && (nat_le r.top bottom && nat_le top r.bottom)) wide (and_both at (nat_le r.top bottom && nat_le top r.bottom) (and_first at wide place) (and_both (nat_le r.top bottom) (nat_le top r.bottom) above below)) (and_second at wide place)

reads_rows : (s : CellAreas) (keys : List Key) (readers : List Reader) → IsIndexed s keys readers → (sheet col top bottom : ℕ) (c : Addr) → InColumn keys readers sheet col top bottom 16 c → ReadsRows s sheet col top bottom c
reads_rows s keys readers indexed sheet col top bottom c m = go (entry_at s c) (sym (block_read s keys readers indexed (block_at sheet col m.level m.there.number) c) ∙ m.there.there)
  where
    go : (o : Option (List Area)) → is_read o (block_at sheet col m.level m.there.number) ≡ true → IsSomeAnd o (λ areas. list_any (meets sheet col top bottom) areas ≡ true)
    go None e = cc
    go (Some areas) e = any_more (λ r. is_block_of r (block_at sheet col m.level m.there.number)) (meets sheet col top bottom) (block_meets sheet col top bottom m.level m.there.number m.there.from m.there.to) areas e

rows_read : (s : CellAreas) (keys : List Key) (readers : List Reader) → IsIndexed s keys readers → (sheet col top bottom : ℕ) → top ≤ bottom → (c : Addr) → ReadsRows s sheet col top bottom c → InColumn keys readers sheet col top bottom 16 c
rows_read s keys readers indexed sheet col top bottom w c h = go (entry_at s c) refl h (indexed.areas c)
  where
    found : (areas : List Area) (r : Area) → IsArea r → meets sheet col top bottom r ≡ true → ((q : Area → Bool) → q r ≡ true → list_any q areas ≡ true) → entry_at s c ≡ Some areas → InColumn keys readers sheet col top bottom 16 c
    found areas r good h lift e =
        let at = r.sheet == sheet in
        let tall = nat_le r.top bottom && nat_le top r.bottom in
        let wide = nat_le r.left col && nat_le col r.right in
        let p = and_first (at && tall) wide h in
        let t = and_second at tall p in
        let above = and_first (nat_le r.top bottom) (nat_le top r.bottom) t in
        let below = and_second (nat_le r.top bottom) (nat_le top r.bottom) t in
        let g = good.top_to in
        let b = good.bottom_to in
        let meet : Meet r.top (suc r.bottom) top bottom = record { some = omega (arith, g); low = grind (arith, above); high = grind (arith, below) } in
        let small : suc r.bottom ≤ 65537 = omega (arith, b) in
        let cut = cut_from_meet r.top (suc r.bottom) top bottom good.top_from small w meet in
        let end = cut.between in
        let lt : nat_lt cut.level 16 ≡ true = (let l = cut.below in grind (arith, l)) in
        let block : is_block_of r (block_at sheet col cut.level end.0) ≡ true =
        and_both (at && wide) (nat_lt cut.level 16 && is_cut r.top r.bottom cut.level end.0) (and_both at wide (and_first at tall p) (and_second (at && tall) wide h)) (and_both (nat_lt cut.level 16) (is_cut r.top r.bottom cut.level end.0) lt end.1) in
        record {
          level = cut.level;
          below = cut.below;
          there = record {
            number = end.0;
            from = end.2;
            to = end.3;
            there = block_read s keys readers indexed (block_at sheet col cut.level end.0) c ∙ (λ i. is_read (e i) (block_at sheet col cut.level end.0)) ∙ lift (λ x. is_block_of x (block_at sheet col cut.level end.0)) block;
          };
        }

    go : (o : Option (List Area)) → entry_at s c ≡ o → IsSomeAnd o (λ areas. list_any (meets sheet col top bottom) areas ≡ true) → IfSome o (All IsArea) → InColumn keys readers sheet col top bottom 16 c
    go None e h good = elim h [ ]
    go (Some areas) e h good = (let p = one_passes IsArea (meets sheet col top bottom) areas good h in found areas p.0 p.1 p.2 p.3 e)

-- the visits of all levels
pub column_visits : (s : CellAreas) (keys : List Key) (readers : List Reader) → IsIndexed s keys readers → (sheet col top bottom : ℕ) → top ≤ bottom → (x y : Search) → Visits (InColumn keys readers sheet col top bottom 16) x y → Visits (ReadsRows s sheet col top bottom) x y
column_visits s keys readers indexed sheet col top bottom w x y v = visits_as (InColumn keys readers sheet col top bottom 16) (ReadsRows s sheet col top bottom) x y (reads_rows s keys readers indexed sheet col top bottom) (rows_read s keys readers indexed sheet col top bottom w) v
