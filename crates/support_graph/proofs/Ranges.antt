-- The keys of an index from one block of a level up to another, and the readers of an area.
use Rattle.std.proofs.Common.{◌≡◌, ℕ, ◌+◌, ◌<◌, ◌≤◌, Bool, true, false, not, ◌&&◌, ◌||◌, ◌⊎◌, inl, inr, List, [], ◌∷◌, ◌++◌, map, length, get_or, nat_cmp, Ordering, Less, Equal, Greater, Bor, Some, refl, sym, ap, ◌∙◌, subst, arith}
use Rattle.std.specs.Ordering.{ordering_then, is_le}
use Rattle.std.specs.List.{filter, list_any, slice_get}
use Rattle.std.specs.declared.ops.Bound.TheVariants.{Included, Excluded}
use Rattle.std.specs.BTreeMap.Range.{range_contains}
use Rattle.std.proofs.lemmas.List.Folds.{list_any-append, list_any_at}
use Rattle.std.proofs.lemmas.Option.{get_or_from_slice_get}
use Rattle.cell_values.specs.declared.address.Addr.{Addr}
use Rattle.cell_values.specs.Addresses.{same_addr}
use Rattle.cell_values.proofs.Order.{cmp, cmp_equal}
use Rattle.support_graph.specs.declared.block.Block.{Block}
use Rattle.support_graph.specs.declared.block.Corners.{Corners}
use Rattle.support_graph.specs.declared.block.Key.{Key}
use Rattle.support_graph.specs.declared.block.Reader.{Reader}
use Rattle.support_graph.specs.declared.search.Search.{Search}
use Rattle.support_graph.specs.Blocks.{same_block, same_corners, same_key, has_key, has_reader, has_area, zero_addr, key_before, reader_before, next_corners}
use Rattle.support_graph.specs.Steps.{Visits, InBlocks}
use Rattle.support_graph.proofs.Orders.{block_cmp, corners_cmp, key_cmp, reader_cmp, same_block-true, same_block-refl, same_corners-true, same_corners-refl}
use Rattle.support_graph.proofs.Visits.{visits_seen, visits_then, visits_as}
use Rattle.support_graph.proofs.Truths.{not_true, or_right, or_none, and_first, and_second, and_both, and_all, both, any_more, some_passes, filter_any}

is_le-then : (o p : Ordering) → is_le p ≡ true → is_le (ordering_then o p) ≡ is_le o
is_le-then Less p h = refl
is_le-then Equal p h = h
is_le-then Greater p h = refl

pub is_le-both : (o p : Ordering) → is_le o ≡ true → is_le p ≡ true → is_le (ordering_then o p) ≡ true
is_le-both o p h k = is_le-then o p k ∙ h

zero_first : (n : ℕ) → is_le (nat_cmp 0 n) ≡ true
zero_first n = grind arith

zero_addr_first : (c : Addr) → is_le (cmp zero_addr c) ≡ true
zero_addr_first c = is_le-both (nat_cmp 0 c.sheet) (ordering_then (nat_cmp 0 c.row) (nat_cmp 0 c.col)) (zero_first c.sheet) (is_le-both (nat_cmp 0 c.row) (nat_cmp 0 c.col) (zero_first c.row) (zero_first c.col))

-- a key stands behind the first of a block exactly where its block does
from_block : (b : Block) (k : Key) → is_le (key_cmp (key_before b) k) ≡ is_le (block_cmp b k.block)
from_block b k = is_le-then (block_cmp b k.block) (ordering_then (cmp zero_addr k.area.first) (cmp zero_addr k.area.last)) (is_le-both (cmp zero_addr k.area.first) (cmp zero_addr k.area.last) (zero_addr_first k.area.first) (zero_addr_first k.area.last))

-- and a reader behind the first of an area exactly where its area does
from_area : (a : Corners) (x : Reader) → is_le (reader_cmp (reader_before a) x) ≡ is_le (corners_cmp a x.area)
from_area a x = is_le-then (corners_cmp a x.area) (cmp zero_addr x.cell) (zero_addr_first x.cell)

-- what stands between two things that begin alike begins so too
between_then : (o p q : Ordering) → is_le (ordering_then o p) ≡ true → is_le (ordering_then o q) ≡ false → (o ≡ Equal) × (is_le p ≡ true) × (is_le q ≡ false)
between_then Less p q h k = absurd cc
between_then Equal p q h k = (refl, h, k)
between_then Greater p q h k = absurd cc

nat_equal : (m n : ℕ) → nat_cmp m n ≡ Equal → m ≡ n
nat_equal m n e = grind (arith, e)

abbrev pub at_number : Block → ℕ → Block
at_number b n = record b { number = n }

-- the blocks from `b` up to the one with the number `last`
block_between : (b : Block) (last : ℕ) (x : Block) → is_le (block_cmp b x) ≡ true → is_le (block_cmp (at_number b (last + 1)) x) ≡ false → (x ≡ at_number b x.number) × (b.number ≤ x.number) × (x.number ≤ last)
block_between b last x h k =
    let p = between_then (nat_cmp b.sheet x.sheet) (ordering_then (nat_cmp b.col x.col) (ordering_then (nat_cmp b.level x.level) (nat_cmp b.number x.number))) (ordering_then (nat_cmp b.col x.col) (ordering_then (nat_cmp b.level x.level) (nat_cmp (last + 1) x.number))) h k in
    let q = between_then (nat_cmp b.col x.col) (ordering_then (nat_cmp b.level x.level) (nat_cmp b.number x.number)) (ordering_then (nat_cmp b.level x.level) (nat_cmp (last + 1) x.number)) p.1 p.2 in
    let r = between_then (nat_cmp b.level x.level) (nat_cmp b.number x.number) (nat_cmp (last + 1) x.number) q.1 q.2 in
    let s = nat_equal b.sheet x.sheet p.0 in
    let c = nat_equal b.col x.col q.0 in
    let l = nat_equal b.level x.level r.0 in
    (λ i. record { sheet = sym s i; col = sym c i; level = sym l i; number = x.number }, grind (arith, r.1), grind (arith, r.2))

nat_same : (n : ℕ) → nat_cmp n n ≡ Equal
nat_same n = grind arith

block_from : (b : Block) (last number : ℕ) → b.number ≤ number → number ≤ last → (is_le (block_cmp b (at_number b number)) ≡ true) × (is_le (block_cmp (at_number b (last + 1)) (at_number b number)) ≡ false)
block_from b last number h k =
    let low : is_le (nat_cmp b.number number) ≡ true = grind (arith, h) in
    let high : is_le (nat_cmp (last + 1) number) ≡ false = grind (arith, k) in (
      (λ i. is_le (ordering_then (nat_same b.sheet i) (ordering_then (nat_same b.col i) (ordering_then (nat_same b.level i) (nat_cmp b.number number))))) ∙ low,
      (λ i. is_le (ordering_then (nat_same b.sheet i) (ordering_then (nat_same b.col i) (ordering_then (nat_same b.level i) (nat_cmp (last + 1) number))))) ∙ high,
    )

abbrev pub in_range : Block → ℕ → Key → Bool
in_range b last k = range_contains key_cmp (Included (key_before b)) (Excluded (key_before (at_number b (last + 1)))) k

in_range_is : (b : Block) (last : ℕ) (k : Key) → in_range b last k ≡ true → (k.block ≡ at_number b k.block.number) × (b.number ≤ k.block.number) × (k.block.number ≤ last)
in_range_is b last k h =
    let low = and_first (is_le (key_cmp (key_before b) k)) (not (is_le (key_cmp (key_before (at_number b (last + 1))) k))) h in
    let high = not_true (is_le (key_cmp (key_before (at_number b (last + 1))) k)) (and_second (is_le (key_cmp (key_before b) k)) (not (is_le (key_cmp (key_before (at_number b (last + 1))) k))) h) in
    block_between b last k.block (sym (from_block b k) ∙ low) (sym (from_block (at_number b (last + 1)) k) ∙ high)

is_in_range : (b : Block) (last number : ℕ) (a : Corners) → b.number ≤ number → number ≤ last → in_range b last (record { block = at_number b number; area = a }) ≡ true
is_in_range b last number a h k =
    let key : Key = record { block = at_number b number; area = a } in
    let p = block_from b last number h k in
    and_both (is_le (key_cmp (key_before b) key)) (not (is_le (key_cmp (key_before (at_number b (last + 1))) key))) (from_block b key ∙ p.0) (λ i. not ((from_block (at_number b (last + 1)) key ∙ p.1) i))

-- the readers from the first of an area up to the first behind it are those of the area

abbrev pub in_area : Corners → Reader → Bool
in_area a x = range_contains reader_cmp (Included (reader_before a)) (Excluded (reader_before (next_corners a))) x

cmp_refl : (a : Addr) → cmp a a ≡ Equal
cmp_refl a = λ i. ordering_then (nat_same a.sheet i) (ordering_then (nat_same a.row i) (nat_same a.col i))

own_area : (a : Corners) (c : Addr) → in_area a (record { area = a; cell = c }) ≡ true
own_area a c =
    let x : Reader = record { area = a; cell = c } in
    let low : is_le (corners_cmp a a) ≡ true = λ i. is_le (ordering_then (cmp_refl a.first i) (cmp_refl a.last i)) in
    let past : is_le (nat_cmp (a.last.col + 1) a.last.col) ≡ false = grind arith in
    let high : is_le (corners_cmp (next_corners a) a) ≡ false =
    (λ i. is_le (ordering_then (cmp_refl a.first i) (ordering_then (nat_same a.last.sheet i) (ordering_then (nat_same a.last.row i) (nat_cmp (a.last.col + 1) a.last.col))))) ∙ past in
    and_both (is_le (reader_cmp (reader_before a) x)) (not (is_le (reader_cmp (reader_before (next_corners a)) x))) (from_area a x ∙ low) (λ i. not ((from_area (next_corners a) x ∙ high) i))

corners_between : (a y : Corners) → is_le (corners_cmp a y) ≡ true → is_le (corners_cmp (next_corners a) y) ≡ false → same_corners a y ≡ true
corners_between a y h k =
    let p = between_then (cmp a.first y.first) (cmp a.last y.last) (cmp (next_corners a).last y.last) h k in
    let q = between_then (nat_cmp a.last.sheet y.last.sheet) (ordering_then (nat_cmp a.last.row y.last.row) (nat_cmp a.last.col y.last.col)) (ordering_then (nat_cmp a.last.row y.last.row) (nat_cmp (a.last.col + 1) y.last.col)) p.1 p.2 in
    let r = between_then (nat_cmp a.last.row y.last.row) (nat_cmp a.last.col y.last.col) (nat_cmp (a.last.col + 1) y.last.col) q.1 q.2 in
    let first = cmp_equal a.first y.first p.0 in
    let sheet = nat_equal a.last.sheet y.last.sheet q.0 in
    let row = nat_equal a.last.row y.last.row r.0 in
    let low = r.1 in
    let high = r.2 in
    let col : a.last.col ≡ y.last.col = grind (arith, low, high) in
    let same : a ≡ y = λ i. record { first = first i; last = record { sheet = sheet i; row = row i; col = col i } } in
    subst (λ z. same_corners a z ≡ true) same (same_corners-refl a)

pub area_range : (a : Corners) (x : Reader) → in_area a x ≡ same_corners a x.area
area_range a x = both (in_area a x) (same_corners a x.area) to from
  where
    to : in_area a x ≡ true → same_corners a x.area ≡ true
    to h =
        let low = and_first (is_le (reader_cmp (reader_before a) x)) (not (is_le (reader_cmp (reader_before (next_corners a)) x))) h in
        let high = not_true (is_le (reader_cmp (reader_before (next_corners a)) x)) (and_second (is_le (reader_cmp (reader_before a) x)) (not (is_le (reader_cmp (reader_before (next_corners a)) x))) h) in
        corners_between a x.area (sym (from_area a x) ∙ low) (sym (from_area (next_corners a) x) ∙ high)

    from : same_corners a x.area ≡ true → in_area a x ≡ true
    from h = subst (λ z. in_area a (record { area = z; cell = x.cell }) ≡ true) (same_corners-true a x.area h) (own_area a x.cell)

-- the first of them tells whether the area is read

any_in_area : (a : Corners) (readers : List Reader) → list_any (λ (x : Reader). true) (filter (in_area a) readers) ≡ has_area readers a
any_in_area a readers = filter_any (in_area a) (λ (x : Reader). true) readers ∙ (λ i. list_any (λ (x : Reader). sym (and_all (in_area a x)) i) readers) ∙ (λ i. list_any (λ (x : Reader). area_range a x i) readers)

pub none_first : (a : Corners) (readers : List Reader) → filter (in_area a) readers ≡ [] → false ≡ has_area readers a
none_first a readers e = sym (ap (list_any (λ (x : Reader). true)) e) ∙ any_in_area a readers

pub one_first : (a : Corners) (readers : List Reader) (x : Reader) (rest : List Reader) → filter (in_area a) readers ≡ x ∷ rest → true ≡ has_area readers a
one_first a readers x rest e = sym (ap (list_any (λ (y : Reader). true)) e) ∙ any_in_area a readers

-- what a loop goes over

-- the cell passes a test with one of what a loop went over
abbrev pub IsYielded : {X : Type 0} → (Addr → X → Bool) → List (Bor X) → Addr → Type 0
IsYielded test ys c = list_any (λ y. test c y.now) ys ≡ true

pub visits_none : {X : Type 0} (test : Addr → X → Bool) (s : Search) → Visits (IsYielded test []) s s
visits_none {X} test s = visits_seen (IsYielded {X = X} test []) s (λ c h. cc)

pub visits_more : {X : Type 0} (test : Addr → X → Bool) (P : Addr → Type 0) (ys : List (Bor X)) (y : Bor X) → ((c : Addr) → P c → test c y.now ≡ true) → ((c : Addr) → test c y.now ≡ true → P c) → (r s t : Search)
    → Visits (IsYielded test ys) r s → Visits P s t → Visits (IsYielded test (ys ++ y ∷ [])) r t
visits_more {X} test P ys y into out r s t a b = visits_as (λ c. IsYielded test ys c ⊎ P c) (IsYielded test (ys ++ y ∷ [])) r t to from (visits_then (IsYielded test ys) P r s t a b)
  where
    parts : (c : Addr) → list_any (λ (z : Bor X). test c z.now) (ys ++ y ∷ []) ≡ (list_any (λ (z : Bor X). test c z.now) ys || (test c y.now || false))
    parts c = list_any-append (λ (z : Bor X). test c z.now) ys (y ∷ [])

    to : (c : Addr) → IsYielded test ys c ⊎ P c → IsYielded test (ys ++ y ∷ []) c
    to c (inl m) = parts c ∙ (λ i. m i || (test c y.now || false))
    to c (inr m) = parts c ∙ or_right (list_any (λ (z : Bor X). test c z.now) ys) (test c y.now || false) (sym (or_none (test c y.now)) ∙ into c m)

    from : (c : Addr) → IsYielded test (ys ++ y ∷ []) c → IsYielded test ys c ⊎ P c
    from c m = go (list_any (λ (z : Bor X). test c z.now) ys) refl (sym (parts c) ∙ m)
      where
        go : (q : Bool) → list_any (λ (z : Bor X). test c z.now) ys ≡ q → (q || (test c y.now || false)) ≡ true → IsYielded test ys c ⊎ P c
        go true e h = inl e
        go false e h = inr (out c (or_none (test c y.now) ∙ h))

any_yielded : {X : Type 0} (p : X → Bool) (ys : List (Bor X)) → list_any (λ y. p y.now) ys ≡ list_any p (map (λ y. y.now) ys)
any_yielded p [] = refl
any_yielded p (y ∷ ys) = λ i. p y.now || any_yielded p ys i

-- all of what passes a test
yielded_filter : {X : Type 0} (p test : X → Bool) (ys : List (Bor X)) (xs : List X) → map (λ (y : Bor X). y.now) ys ≡ filter p xs → list_any (λ (y : Bor X). test y.now) ys ≡ list_any (λ (x : X). p x && test x) xs
yielded_filter p test ys xs e = any_yielded test ys ∙ ap (list_any test) e ∙ filter_any p test xs

abbrev pub is_of : Addr → Reader → Bool
is_of c x = same_addr c x.cell

pub visits_area : (readers : List Reader) (a : Corners) (ys : List (Bor Reader)) (s t : Search) → map (λ (y : Bor Reader). y.now) ys ≡ filter (in_area a) readers → Visits (IsYielded is_of ys) s t → Visits (λ c. has_reader readers (record { area = a; cell = c }) ≡ true) s t
visits_area readers a ys s t e v = visits_as (IsYielded is_of ys) (λ c. has_reader readers (record { area = a; cell = c }) ≡ true) s t (λ c h. sym (same c) ∙ h) (λ c h. same c ∙ h) v
  where
    same : (c : Addr) → list_any (λ (y : Bor Reader). is_of c y.now) ys ≡ has_reader readers (record { area = a; cell = c })
    same c = yielded_filter (in_area a) (is_of c) ys readers e ∙ (λ i. list_any (λ (x : Reader). area_range a x i && is_of c x) readers)

-- the cell reads the area of a key
abbrev pub reads_key : List Reader → Addr → Key → Bool
reads_key readers c k = has_reader readers (record { area = k.area; cell = c })

pub visits_blocks : (keys : List Key) (readers : List Reader) (b : Block) (last : ℕ) (ys : List (Bor Key)) (s t : Search) → map (λ (y : Bor Key). y.now) ys ≡ filter (in_range b last) keys → Visits (IsYielded (reads_key readers) ys) s t → Visits (InBlocks keys readers b last) s t
visits_blocks keys readers b last ys s t e v = visits_as (IsYielded (reads_key readers) ys) (InBlocks keys readers b last) s t to from v
  where
    same : (c : Addr) → list_any (λ (y : Bor Key). reads_key readers c y.now) ys ≡ list_any (λ (k : Key). in_range b last k && reads_key readers c k) keys
    same c = yielded_filter (in_range b last) (reads_key readers c) ys keys e

    to : (c : Addr) → IsYielded (reads_key readers) ys c → InBlocks keys readers b last c
    to c h =
        let p = some_passes (λ (k : Key). in_range b last k && reads_key readers c k) keys (sym (same c) ∙ h) in
        let k = p.0 in
        let q = in_range_is b last k (and_first (in_range b last k) (reads_key readers c k) p.1) in
        let n = k.block.number in
        let here : same_block (at_number b n) k.block ≡ true = subst (λ z. same_block z k.block ≡ true) q.0 (same_block-refl k.block) in
        record {
          number = n;
          from = q.1;
          to = q.2;
          there = p.2 (λ (x : Key). same_block (at_number b n) x.block && reads_key readers c x) (and_both (same_block (at_number b n) k.block) (reads_key readers c k) here (and_second (in_range b last k) (reads_key readers c k) p.1));
        }

    from : (c : Addr) → InBlocks keys readers b last c → IsYielded (reads_key readers) ys c
    from c m =
        let at = at_number b m.number in
        let p = some_passes (λ (k : Key). same_block at k.block && reads_key readers c k) keys m.there in
        let k = p.0 in
        let here : at ≡ k.block = same_block-true at k.block (and_first (same_block at k.block) (reads_key readers c k) p.1) in
        let range : in_range b last k ≡ true = subst (λ z. in_range b last (record { block = z; area = k.area }) ≡ true) here (is_in_range b last m.number k.area m.from m.to) in
        same c ∙ p.2 (λ (x : Key). in_range b last x && reads_key readers c x) (and_both (in_range b last k) (reads_key readers c k) range (and_second (same_block at k.block) (reads_key readers c k) p.1))

-- what a loop comes to is a key of the index
pub in_filter : (p : Key → Bool) (keys : List Key) (i : ℕ) (k : Key) → i < length (filter p keys) → slice_get (filter p keys) i ≡ Some k → has_key keys k ≡ true
in_filter p keys i k h e =
    let own : same_key k (get_or (filter p keys) i k) ≡ true = subst (λ z. same_key k z ≡ true) (sym (get_or_from_slice_get (filter p keys) i k k e)) (and_both (same_block k.block k.block) (same_corners k.area k.area) (same_block-refl k.block) (same_corners-refl k.area)) in
    let some : list_any (same_key k) (filter p keys) ≡ true = list_any_at (same_key k) (filter p keys) i k h own in
    any_more (λ (x : Key). p x && same_key k x) (same_key k) (λ (x : Key) f. and_second (p x) (same_key k x) f) keys (sym (filter_any p (same_key k) keys) ∙ some)
