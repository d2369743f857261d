-- Blocks that were visited before.
use Rattle.std.proofs.Common.{◌≡◌, Bool, true, false, cond, not, List, is_eq, refl, sym, ◌∙◌, subst, arith}
use Rattle.std.specs.List.{list_any}
use Rattle.cell_values.specs.declared.address.Addr.{Addr}
use Rattle.support_graph.specs.declared.block.Block.{Block}
use Rattle.support_graph.specs.declared.block.Key.{Key}
use Rattle.support_graph.specs.declared.block.Reader.{Reader}
use Rattle.support_graph.specs.declared.search.Search.{Search}
use Rattle.support_graph.specs.Blocks.{same_block, reads_block}
use Rattle.support_graph.specs.Support.{CellAreas, IsIndexed}
use Rattle.support_graph.specs.Steps.{IsMet, Visits, AreSeen, AreRead, InBlocks}
use Rattle.support_graph.proofs.Orders.{block_cmp, is_eq-block, same_block-true}
use Rattle.support_graph.proofs.Readings.{block_read}
use Rattle.support_graph.proofs.Visits.{visits_seen, stays_met}
use Rattle.support_graph.proofs.Truths.{any_same, not_false}

-- a block more, whose cells were visited
pub one_done : (keys : List Key) (readers : List Reader) (b : Block) (old new : List Block) (s t : Search) → ((q : Block) → list_any (λ x. is_eq (block_cmp q x)) new ≡ cond (is_eq (block_cmp b q)) true (list_any (λ x. is_eq (block_cmp q x)) old))
    → AreSeen keys readers old s → Visits (InBlocks keys readers b b.number) s t → AreSeen keys readers new t
one_done keys readers b old new s t h seen v q c m k = go (same_block b q) refl (sym (any_same block_cmp same_block is_eq-block q new) ∙ h q ∙ (λ i. cond (is_eq-block b q i) true (any_same block_cmp same_block is_eq-block q old i)) ∙ refl) m
  where
    go : (p : Bool) → same_block b q ≡ p → list_any (same_block q) new ≡ cond (same_block b q) true (list_any (same_block q) old) → list_any (same_block q) new ≡ true → IsMet t c
    go true e f g = (let same = same_block-true b q e in v.found c (record { number = b.number; from = omega arith; to = omega arith; there = subst (λ z. reads_block keys readers z c ≡ true) (sym same) k }))
    go false e f g = stays_met (InBlocks keys readers b b.number) s t v c (seen q c (sym (f ∙ (λ i. cond (e i) true (list_any (same_block q) old))) ∙ g) k)

-- a block that was visited
pub done_before : (keys : List Key) (readers : List Reader) (b : Block) (blocks : List Block) (s : Search) → false ≡ not (list_any (λ x. is_eq (block_cmp b x)) blocks) → AreSeen keys readers blocks s → Visits (InBlocks keys readers b b.number) s s
done_before keys readers b blocks s h seen = visits_seen (InBlocks keys readers b b.number) s each
  where
    there : list_any (same_block b) blocks ≡ true
    there = sym (any_same block_cmp same_block is_eq-block b blocks) ∙ not_false (list_any (λ x. is_eq (block_cmp b x)) blocks) (sym h)

    each : (c : Addr) → InBlocks keys readers b b.number c → IsMet s c
    each c m = (let l = m.from in let r = m.to in let same : m.number ≡ b.number = omega (arith, l, r) in seen b c there (subst (λ n. reads_block keys readers (record b { number = n }) c ≡ true) same m.there))

-- by the index, or by the areas
pub seen_read : (s : CellAreas) (keys : List Key) (readers : List Reader) → IsIndexed s keys readers → (blocks : List Block) (x : Search) → AreSeen keys readers blocks x → AreRead s blocks x
seen_read s keys readers indexed blocks x seen b c m k = seen b c m (block_read s keys readers indexed b c ∙ k)

pub read_seen : (s : CellAreas) (keys : List Key) (readers : List Reader) → IsIndexed s keys readers → (blocks : List Block) (x : Search) → AreRead s blocks x → AreSeen keys readers blocks x
read_seen s keys readers indexed blocks x seen b c m k = seen b c m (sym (block_read s keys readers indexed b c) ∙ k)
