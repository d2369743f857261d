-- The cells that read areas, and the blocks of these areas.
use Rattle.std.proofs.Common.{◌≡◌, ℕ, zero, suc, ◌+◌, ◌<◌, ◌≤◌, Bool, true, false, ◌&&◌, ◌||◌, List, [], ◌∷◌, take, length, get_or, refl, sym, ◌∙◌, subst, Option, Some, None, IfSome, All}
use Rattle.std.specs.List.{list_any}
use Rattle.std.proofs.lemmas.List.Folds.{list_any_more}
use Rattle.cell_values.specs.declared.address.Addr.{Addr}
use Rattle.cell_values.specs.declared.address.Area.{Area}
use Rattle.cell_values.specs.Addresses.{same_addr}
use Rattle.cell_values.specs.Areas.{IsArea}
use Rattle.cell_values.specs.Order.{entry_at}
use Rattle.cell_values.proofs.Order.{same_addr-refl}
use Rattle.support_graph.specs.declared.block.Block.{Block}
use Rattle.support_graph.specs.declared.block.Corners.{Corners}
use Rattle.support_graph.specs.declared.block.Key.{Key}
use Rattle.support_graph.specs.declared.block.Reader.{Reader}
use Rattle.support_graph.specs.Blocks.{is_block_of, corners, area_between, same_block, same_corners, same_key, same_reader, has_key, has_reader, has_area, reads_block}
use Rattle.support_graph.specs.Support.{CellAreas, is_read, is_area_in, is_area_of, AreCut, IsIndexed}
use Rattle.support_graph.specs.Steps.{Sets, SetsReaders, is_area_key, is_cell_reader, EndInSheet}
use Rattle.support_graph.proofs.Orders.{same_block-true, same_block-refl, same_corners-true, same_corners-refl}
use Rattle.support_graph.proofs.Truths.{true_false, and_first, and_second, and_both, and_comm, and_none, and_all, and_or, or_false, both, any_more, one_passes, some_passes}

-- an area that is read has a reader, and the other way round

abbrev pub reader : Corners → Addr → Reader
reader a c = record { area = a; cell = c }

pub area_reader : (readers : List Reader) (a : Corners) → has_area readers a ≡ true → (c : Addr) × (has_reader readers (reader a c) ≡ true)
area_reader readers a h =
    let p = some_passes (λ (x : Reader). same_corners a x.area) readers h in
    let c = p.0.cell in
    (c, p.2 (same_reader (reader a c)) (and_both (same_corners a p.0.area) (same_addr c c) p.1 (same_addr-refl c)))

pub reader_area : (readers : List Reader) (x : Reader) → has_reader readers x ≡ true → has_area readers x.area ≡ true
reader_area readers x h = any_more (same_reader x) (λ (y : Reader). same_corners x.area y.area) (λ (y : Reader) e. and_first (same_corners x.area y.area) (same_addr x.cell y.cell) e) readers h

same_reader-refl : (x : Reader) → same_reader x x ≡ true
same_reader-refl x = and_both (same_corners x.area x.area) (same_addr x.cell x.cell) (same_corners-refl x.area) (same_addr-refl x.cell)

-- a reader of one area changes no other area
pub area_other : (a : Corners) (cell : Addr) (present ok : Bool) (x y : List Reader) → SetsReaders (same_reader (reader a cell)) present ok x y → (b : Corners) → same_corners a b ≡ false → has_area y b ≡ has_area x b
area_other a cell present ok x y sets b e = both (has_area y b) (has_area x b) to from
  where
    kept : (c : Addr) → has_reader y (reader b c) ≡ has_reader x (reader b c)
    kept c = sets.others (reader b c) (λ i. e i && same_addr cell c)

    to : has_area y b ≡ true → has_area x b ≡ true
    to h = (let p = area_reader y b h in reader_area x (reader b p.0) (sym (kept p.0) ∙ p.1))

    from : has_area x b ≡ true → has_area y b ≡ true
    from h = (let p = area_reader x b h in reader_area y (reader b p.0) (kept p.0 ∙ p.1))

-- the blocks of an area, where nothing changed at other areas

cut_where : (a : Corners) (keys new : List Key) (x y : List Reader) → AreCut keys x → ((b : Corners) → same_corners a b ≡ false → has_area y b ≡ has_area x b) → ((k : Key) → same_corners a k.area ≡ false → has_key new k ≡ has_key keys k)
    → ((k : Key) → same_corners a k.area ≡ true → has_key new k ≡ (has_area y k.area && is_block_of (area_between k.area) k.block)) → AreCut new y
cut_where a keys new x y cut areas others own k = go (same_corners a k.area) refl
  where
    go : (q : Bool) → same_corners a k.area ≡ q → has_key new k ≡ (has_area y k.area && is_block_of (area_between k.area) k.block)
    go true e = own k e
    go false e = others k e ∙ cut k ∙ (λ i. sym (areas k.area e) i && is_block_of (area_between k.area) k.block)

-- the area is read as before
cut_still : (a : Corners) (keys : List Key) (x y : List Reader) → AreCut keys x → ((b : Corners) → same_corners a b ≡ false → has_area y b ≡ has_area x b) → has_area y a ≡ has_area x a → AreCut keys y
cut_still a keys x y cut areas same =
    cut_where a keys keys x y cut areas (λ k e. refl)
    (λ k e. cut k ∙ (λ i. subst (λ z. has_area x z ≡ has_area y z) (same_corners-true a k.area e) (sym same) i && is_block_of (area_between k.area) k.block))

-- its blocks were put in as it was read, or taken out as it was not
cut_set : (a : Corners) (present : Bool) (keys new : List Key) (x y : List Reader) → AreCut keys x → ((b : Corners) → same_corners a b ≡ false → has_area y b ≡ has_area x b) → has_area y a ≡ present → Sets (is_area_key a) present true keys new → AreCut new y
cut_set a present keys new x y cut areas now sets =
    cut_where a keys new x y cut areas (λ k e. sets.others k (λ i. e i && is_block_of (area_between a) k.block)) (λ k e. own k e (is_block_of (area_between k.area) k.block) refl)
  where
    test : (k : Key) → same_corners a k.area ≡ true → (q : Bool) → is_block_of (area_between k.area) k.block ≡ q → is_area_key a k ≡ q
    test k e q f = (λ i. e i && is_block_of (area_between (same_corners-true a k.area e i)) k.block) ∙ f

    own : (k : Key) → same_corners a k.area ≡ true → (q : Bool) → is_block_of (area_between k.area) k.block ≡ q → has_key new k ≡ (has_area y k.area && is_block_of (area_between k.area) k.block)
    own k e true f = sets.done refl k (test k e true f) ∙ and_all present ∙ (λ i. sym (subst (λ z. has_area y z ≡ present) (same_corners-true a k.area e) now) i && sym f i)
    own k e false f = sets.others k (test k e false f) ∙ cut k ∙ (λ i. has_area x k.area && f i) ∙ and_none (has_area x k.area) ∙ sym (and_none (has_area y k.area)) ∙ (λ i. has_area y k.area && sym f i)

-- one more reader of an area that was read
pub cut_known : (a : Corners) (cell : Addr) (ok : Bool) (keys : List Key) (x y : List Reader) → AreCut keys x → has_area x a ≡ true → SetsReaders (same_reader (reader a cell)) true ok x y → (ok ≡ false → y ≡ x) → AreCut keys y
cut_known a cell true keys x y cut known sets err = cut_still a keys x y cut (area_other a cell true true x y sets) (reader_area y (reader a cell) (sets.done refl (reader a cell) (same_reader-refl (reader a cell))) ∙ sym known)
cut_known a cell false keys x y cut known sets err = subst (AreCut keys) (sym (err refl)) cut

-- the first reader of an area
pub cut_first : (a : Corners) (cell : Addr) (keys new : List Key) (x y : List Reader) → AreCut keys x → Sets (is_area_key a) true true keys new → SetsReaders (same_reader (reader a cell)) true true x y → AreCut new y
cut_first a cell keys new x y cut blocks sets = cut_set a true keys new x y cut (area_other a cell true true x y sets) (reader_area y (reader a cell) (sets.done refl (reader a cell) (same_reader-refl (reader a cell)))) blocks

-- the blocks of an area that is not read, taken out
pub cut_undone : (a : Corners) (keys new : List Key) (x y : List Reader) → AreCut keys x → has_area x a ≡ false → y ≡ x → Sets (is_area_key a) false true keys new → AreCut new y
cut_undone a keys new x y cut none same blocks = subst (AreCut new) (sym same) (cut_set a false keys new x x cut (λ b e. refl) none blocks)

-- a reader less of an area that is read still
pub cut_left : (a : Corners) (cell : Addr) (keys : List Key) (x y : List Reader) → AreCut keys x → has_area y a ≡ true → SetsReaders (same_reader (reader a cell)) false true x y → AreCut keys y
cut_left a cell keys x y cut left sets = cut_still a keys x y cut (area_other a cell false true x y sets) (left ∙ sym (before (area_reader y a left)))
  where
    before : (c : Addr) × (has_reader y (reader a c) ≡ true) → has_area x a ≡ true
    before p = reader_area x (reader a p.0) (go (same_reader (reader a cell) (reader a p.0)) refl)
      where
        go : (q : Bool) → same_reader (reader a cell) (reader a p.0) ≡ q → has_reader x (reader a p.0) ≡ true
        go true e = true_false (has_reader y (reader a p.0)) p.1 (sets.done refl (reader a p.0) e)
        go false e = sym (sets.others (reader a p.0) e) ∙ p.1

-- the last reader of an area
pub cut_gone : (a : Corners) (cell : Addr) (keys new : List Key) (x y : List Reader) → AreCut keys x → has_area y a ≡ false → SetsReaders (same_reader (reader a cell)) false true x y → Sets (is_area_key a) false true keys new → AreCut new y
cut_gone a cell keys new x y cut none sets blocks = cut_set a false keys new x y cut (area_other a cell false true x y sets) none blocks

-- a cell reads a block by the index exactly where one of its areas was cut into it
pub block_read : (s : CellAreas) (keys : List Key) (readers : List Reader) → IsIndexed s keys readers → (b : Block) (c : Addr) → reads_block keys readers b c ≡ is_read (entry_at s c) b
block_read s keys readers indexed b c = both (reads_block keys readers b c) (is_read (entry_at s c) b) to (from (entry_at s c) refl)
  where
    in_areas : (a : Corners) (o : Option (List Area)) → is_area_of o a ≡ true → is_block_of (area_between a) b ≡ true → is_read o b ≡ true
    in_areas a None h k = cc
    in_areas a (Some areas) h k = any_more (λ (r : Area). same_corners (corners r) a) (λ (r : Area). is_block_of r b) (λ (r : Area) e. subst (λ z. is_block_of (area_between z) b ≡ true) (sym (same_corners-true (corners r) a e)) k) areas h

    to : reads_block keys readers b c ≡ true → is_read (entry_at s c) b ≡ true
    to h =
        let p = some_passes (λ (k : Key). same_block b k.block && has_reader readers (reader k.area c)) keys h in
        let k = p.0 in
        let same = same_block-true b k.block (and_first (same_block b k.block) (has_reader readers (reader k.area c)) p.1) in
        let there : has_key keys k ≡ true = p.2 (same_key k) (and_both (same_block k.block k.block) (same_corners k.area k.area) (same_block-refl k.block) (same_corners-refl k.area)) in
        let cut = and_second (has_area readers k.area) (is_block_of (area_between k.area) k.block) (sym (indexed.cut k) ∙ there) in
        in_areas k.area (entry_at s c) (sym (indexed.reads (reader k.area c)) ∙ and_second (same_block b k.block) (has_reader readers (reader k.area c)) p.1) (subst (λ z. is_block_of (area_between k.area) z ≡ true) (sym same) cut)

    from : (o : Option (List Area)) → entry_at s c ≡ o → is_read o b ≡ true → reads_block keys readers b c ≡ true
    from None e h = cc
    from (Some areas) e h =
        let p = some_passes (λ (r : Area). is_block_of r b) areas h in
        let a = corners p.0 in
        let key : Key = record { block = b; area = a } in
        let reads : has_reader readers (reader a c) ≡ true = indexed.reads (reader a c) ∙ (λ i. is_area_of (e i) a) ∙ p.2 (λ (r : Area). same_corners (corners r) a) (same_corners-refl a) in
        let there : has_key keys key ≡ true = indexed.cut key ∙ and_both (has_area readers a) (is_block_of (area_between a) b) (reader_area readers (reader a c) reads) p.1 in
        any_more (same_key key) (λ (k : Key). same_block b k.block && has_reader readers (reader k.area c))
        (λ (k : Key) f. and_both (same_block b k.block) (has_reader readers (reader k.area c)) (and_first (same_block b k.block) (same_corners a k.area) f) (subst (λ z. has_reader readers (reader z c) ≡ true) (same_corners-true a k.area (and_second (same_block b k.block) (same_corners a k.area) f)) reads)) keys there

-- all areas end in the sheet
pub keys_end : (s : CellAreas) (keys : List Key) (readers : List Reader) → IsIndexed s keys readers → EndInSheet keys
keys_end s keys readers indexed k h = (let p = area_reader readers k.area (and_first (has_area readers k.area) (is_block_of (area_between k.area) k.block) (sym (indexed.cut k) ∙ h)) in go (entry_at s p.0) (sym (indexed.reads (reader k.area p.0)) ∙ p.1) (indexed.areas p.0))
  where
    go : (o : Option (List Area)) → is_area_of o k.area ≡ true → IfSome o (All IsArea) → k.area.last.col ≤ 256
    go None e good = cc
    go (Some areas) e good = (let w = one_passes IsArea (λ (r : Area). same_corners (corners r) k.area) areas good e in subst (λ (z : Corners). z.last.col ≤ 256) (same_corners-true (corners w.0) k.area w.2) w.1.right_to)

-- one more area

pub area_more : (c : Addr) (areas : List Area) (i : ℕ) (d : Area) → i < length areas → (x : Reader) → is_cell_reader c (take (i + 1) areas) x ≡ (is_cell_reader c (take i areas) x || same_reader (reader (corners (get_or areas i d)) c) x)
area_more c areas i d h x =
    (λ j. same_addr c x.cell && list_any_more (λ (r : Area). same_corners (corners r) x.area) areas i d h j)
    ∙ and_or (same_addr c x.cell) (is_area_in (take i areas) x.area) (same_corners (corners (get_or areas i d)) x.area)
    ∙ (λ j. is_cell_reader c (take i areas) x || and_comm (same_addr c x.cell) (same_corners (corners (get_or areas i d)) x.area) j)

pub no_areas : (c : Addr) (areas : List Area) (x : Reader) → is_cell_reader c (take 0 areas) x ≡ false
no_areas c areas x = and_none (same_addr c x.cell)

none_of_part : {X : Type 0} (p : X → Bool) (n : ℕ) (xs : List X) → list_any p xs ≡ false → list_any p (take n xs) ≡ false
none_of_part p zero xs h = refl
none_of_part p (suc n) [] h = h
none_of_part p (suc n) (x ∷ xs) h = (let q = or_false (p x) (list_any p xs) h in λ i. q.0 i || none_of_part p n xs q.1 i)

pub some_areas : (c : Addr) (areas : List Area) (n : ℕ) (x : Reader) → is_cell_reader c areas x ≡ false → is_cell_reader c (take n areas) x ≡ false
some_areas c areas n x h = go (same_addr c x.cell) h
  where
    go : (a : Bool) → (a && is_area_in areas x.area) ≡ false → (a && is_area_in (take n areas) x.area) ≡ false
    go false e = refl
    go true e = none_of_part (λ (r : Area). same_corners (corners r) x.area) n areas e
