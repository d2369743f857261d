-- The orders of blocks and keys, against the tests that read their parts.
use Rattle.std.proofs.Common.{◌≡◌, true, ◌&&◌, eqb, nat_cmp, is_eq, Ordering, ◌∙◌, arith}
use Rattle.std.specs.Ordering.{ordering_then}
use Rattle.cell_values.specs.Addresses.{same_addr}
use Rattle.cell_values.proofs.Order.{cmp, is_eq-then, is_eq-nat_cmp, same_cmp, same_addr-true, same_addr-refl}
use Rattle.support_graph.specs.contracts.block.BlockOrd.TheImpl as block_ord
use Rattle.support_graph.specs.contracts.block.CornersOrd.TheImpl as corners_ord
use Rattle.support_graph.specs.contracts.block.KeyOrd.TheImpl as key_ord
use Rattle.support_graph.specs.contracts.block.ReaderOrd.TheImpl as reader_ord
use Rattle.support_graph.specs.declared.block.Block.{Block}
use Rattle.support_graph.specs.declared.block.Corners.{Corners}
use Rattle.support_graph.specs.declared.block.Key.{Key}
use Rattle.support_graph.specs.declared.block.Reader.{Reader}
use Rattle.support_graph.specs.Blocks.{same_block, same_corners, same_key, same_reader}
use Rattle.support_graph.proofs.Truths.{and_first, and_second, and_both}

abbrev pub block_cmp : Block → Block → Ordering
block_cmp = (block_ord.ghosts).cmp

abbrev pub corners_cmp : Corners → Corners → Ordering
corners_cmp = (corners_ord.ghosts).cmp

abbrev pub key_cmp : Key → Key → Ordering
key_cmp = (key_ord.ghosts).cmp

abbrev pub reader_cmp : Reader → Reader → Ordering
reader_cmp = (reader_ord.ghosts).cmp

pub is_eq-block : (a b : Block) → is_eq (block_cmp a b) ≡ same_block a b
is_eq-block a b =
    is_eq-then (nat_cmp a.sheet b.sheet) (ordering_then (nat_cmp a.col b.col) (ordering_then (nat_cmp a.level b.level) (nat_cmp a.number b.number)))
    ∙ (λ i. is_eq-nat_cmp a.sheet b.sheet i && is_eq-then (nat_cmp a.col b.col) (ordering_then (nat_cmp a.level b.level) (nat_cmp a.number b.number)) i)
    ∙ (λ i. eqb a.sheet b.sheet && (is_eq-nat_cmp a.col b.col i && is_eq-then (nat_cmp a.level b.level) (nat_cmp a.number b.number) i))
    ∙ (λ i. eqb a.sheet b.sheet && (eqb a.col b.col && (is_eq-nat_cmp a.level b.level i && is_eq-nat_cmp a.number b.number i)))

pub is_eq-corners : (a b : Corners) → is_eq (corners_cmp a b) ≡ same_corners a b
is_eq-corners a b = is_eq-then (cmp a.first b.first) (cmp a.last b.last) ∙ (λ i. same_cmp a.first b.first i && same_cmp a.last b.last i)

pub is_eq-key : (a b : Key) → is_eq (key_cmp a b) ≡ same_key a b
is_eq-key a b = is_eq-then (block_cmp a.block b.block) (corners_cmp a.area b.area) ∙ (λ i. is_eq-block a.block b.block i && is_eq-corners a.area b.area i)

pub is_eq-reader : (a b : Reader) → is_eq (reader_cmp a b) ≡ same_reader a b
is_eq-reader a b = is_eq-then (corners_cmp a.area b.area) (cmp a.cell b.cell) ∙ (λ i. is_eq-corners a.area b.area i && same_cmp a.cell b.cell i)

pub same_block-true : (a b : Block) → same_block a b ≡ true → a ≡ b
same_block-true a b h = (let s : a.sheet ≡ b.sheet = grind (arith, h) in let c : a.col ≡ b.col = grind (arith, h) in let l : a.level ≡ b.level = grind (arith, h) in let n : a.number ≡ b.number = grind (arith, h) in λ i. record { sheet = s i; col = c i; level = l i; number = n i })

pub same_corners-true : (a b : Corners) → same_corners a b ≡ true → a ≡ b
same_corners-true a b h = (let p = same_addr-true a.first b.first (and_first (same_addr a.first b.first) (same_addr a.last b.last) h) in let q = same_addr-true a.last b.last (and_second (same_addr a.first b.first) (same_addr a.last b.last) h) in λ i. record { first = p i; last = q i })

pub same_corners-refl : (a : Corners) → same_corners a a ≡ true
same_corners-refl a = and_both (same_addr a.first a.first) (same_addr a.last a.last) (same_addr-refl a.first) (same_addr-refl a.last)

pub same_block-refl : (b : Block) → same_block b b ≡ true
same_block-refl b = grind arith
