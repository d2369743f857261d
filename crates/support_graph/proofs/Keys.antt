-- The keys of an area, in parts.
use Rattle.std.proofs.Common.{◌≡◌, ℕ, suc, ◌+◌, ◌<◌, ◌≤◌, Bool, true, false, ◌&&◌, ◌||◌, ◌⊎◌, inl, inr, ◌%◌, ◌-◌, refl, sym, ◌∙◌, arith}
use Rattle.std.specs.Prelude.{nat_lt, nat_le, if◌then◌else◌, ◌==◌, Option, Some, None}
use Rattle.support_graph.specs.declared.block.Block.{Block}
use Rattle.support_graph.specs.declared.block.Corners.{Corners}
use Rattle.support_graph.specs.declared.block.Key.{Key}
use Rattle.support_graph.specs.Blocks.{halves, up_halves, is_end, is_cut, is_block_of, area_between, same_corners, same_key}
use Rattle.support_graph.specs.Steps.{is_end_key, is_level_key, is_column_key, is_area_key}
use Rattle.support_graph.proofs.Truths.{and_first, and_second, and_comm, and_none, and_or, or_none, or_false}

-- the two ends of a level

end_if : (c : Corners) (b : Block) (q : Bool) (n : ℕ) (k : Key) → is_end_key c b (if q then Some n else None) k ≡ (q && same_key (record { block = record b { number = n }; area = c }) k)
end_if c b true n k = refl
end_if c b false n k = refl

low_turned : (low high num : ℕ) → (nat_lt low high && ((low % 2 == 1) && (num == low))) ≡ ((nat_lt low high && (low % 2 == 1)) && (low == num))
low_turned low high num = grind arith

high_turned : (low high num : ℕ) → (nat_lt low high && ((high % 2 == 1) && (suc num == high))) ≡ ((nat_lt low high && (high % 2 == 1)) && (high - 1 == num))
high_turned low high num = grind arith

-- the parts of the tests in another order
shuffle : (a s c l q n : Bool) → (a && (s && (c && (l && (q && n))))) ≡ (q && ((s && (c && (l && n))) && a))
shuffle a s c l true n = and_comm a (s && (c && (l && n)))
shuffle a s c l false n = (λ i. a && (s && (c && and_none l i))) ∙ (λ i. a && (s && and_none c i)) ∙ (λ i. a && and_none s i) ∙ and_none a

spread : (a s c l x y : Bool) → (a && (s && (c && (l && (x || y))))) ≡ ((a && (s && (c && (l && x)))) || (a && (s && (c && (l && y)))))
spread true true true l x y = and_or l x y
spread true true false l x y = refl
spread true false c l x y = refl
spread false s c l x y = refl

pub ends_are : (c : Corners) (b : Block) (high : ℕ) (o p : Option ℕ) → o ≡ (if nat_lt b.number high && (b.number % 2 == 1) then Some b.number else None) → p ≡ (if nat_lt b.number high && (high % 2 == 1) then Some (high - 1) else None)
    → (k : Key) → is_level_key c b high k ≡ (is_end_key c b o k || is_end_key c b p k)
ends_are c b high o p e f k =
    let a = same_corners c k.area in
    let s = b.sheet == k.block.sheet in
    let l = b.col == k.block.col in
    let m = b.level == k.block.level in
    let q = nat_lt b.number high && (b.number % 2 == 1) in
    let r = nat_lt b.number high && (high % 2 == 1) in
    (λ i. a && (s && (l && (m && and_or (nat_lt b.number high) ((b.number % 2 == 1) && (k.block.number == b.number)) ((high % 2 == 1) && (suc k.block.number == high)) i))))
    ∙ (λ i. a && (s && (l && (m && (low_turned b.number high k.block.number i || high_turned b.number high k.block.number i)))))
    ∙ spread a s l m (q && (b.number == k.block.number)) (r && (high - 1 == k.block.number))
    ∙ (λ i. shuffle a s l m q (b.number == k.block.number) i || shuffle a s l m r (high - 1 == k.block.number) i)
    ∙ (λ i. sym (end_if c b q b.number k) i || sym (end_if c b r (high - 1) k) i)
    ∙ (λ i. is_end_key c b (sym e i) k || is_end_key c b (sym f i) k)

-- what is no key of the level is none at its lower end
pub no_low_end : (c : Corners) (b : Block) (high : ℕ) (o : Option ℕ) → o ≡ (if nat_lt b.number high && (b.number % 2 == 1) then Some b.number else None) → (k : Key) → is_level_key c b high k ≡ false → is_end_key c b o k ≡ false
no_low_end c b high o e k h =
    let p : Option ℕ = if nat_lt b.number high && (high % 2 == 1) then Some (high - 1) else None in
    (or_false (is_end_key c b o k) (is_end_key c b p k) (sym (ends_are c b high o p e refl k) ∙ h)).0

-- one more level

pub no_levels : (c : Corners) (col : ℕ) (k : Key) → is_column_key c col 0 k ≡ false
no_levels c col k = go (same_corners c k.area) (c.first.sheet == k.block.sheet) (col == k.block.col) (nat_lt k.block.level 0) (is_cut c.first.row c.last.row k.block.level k.block.number) (grind arith)
  where
    go : (a s l q x : Bool) → q ≡ false → (a && (s && (l && (q && x)))) ≡ false
    go a s l q x e = (λ i. a && (s && (l && (e i && x)))) ∙ (λ i. a && (s && and_none l i)) ∙ (λ i. a && and_none s i) ∙ and_none a

level_more : (n low high : ℕ) (top bottom : ℕ) → low ≡ up_halves n top → high ≡ halves n (suc bottom) → (level number : ℕ)
    → (nat_lt level (n + 1) && is_cut top bottom level number) ≡ ((nat_lt level n && is_cut top bottom level number) || ((n == level) && is_end low high number))
level_more n low high top bottom e f level number = go (cases level)
  where
    cases : (level : ℕ) → ((nat_lt level (n + 1) ≡ true) × (nat_lt level n ≡ true) × ((n == level) ≡ false)) ⊎ (((nat_lt level (n + 1) ≡ true) × (nat_lt level n ≡ false) × ((n == level) ≡ true)) ⊎ ((nat_lt level (n + 1) ≡ false) × (nat_lt level n ≡ false) × ((n == level) ≡ false)))
    cases level = grind arith

    same_cut : n ≡ level → is_cut top bottom level number ≡ is_end low high number
    same_cut p = (λ i. is_end (up_halves (sym p i) top) (halves (sym p i) (suc bottom)) number) ∙ (λ i. is_end (sym e i) (sym f i) number)

    go : ((nat_lt level (n + 1) ≡ true) × (nat_lt level n ≡ true) × ((n == level) ≡ false)) ⊎ (((nat_lt level (n + 1) ≡ true) × (nat_lt level n ≡ false) × ((n == level) ≡ true)) ⊎ ((nat_lt level (n + 1) ≡ false) × (nat_lt level n ≡ false) × ((n == level) ≡ false)))
        → (nat_lt level (n + 1) && is_cut top bottom level number) ≡ ((nat_lt level n && is_cut top bottom level number) || ((n == level) && is_end low high number))
    go (inl p) = (λ i. p.0 i && is_cut top bottom level number) ∙ or_none (is_cut top bottom level number) ∙ sym (λ i. (p.1 i && is_cut top bottom level number) || (p.2 i && is_end low high number))
    go (inr (inl p)) = (λ i. p.0 i && is_cut top bottom level number) ∙ same_cut (grind (arith, p.2)) ∙ sym (λ i. (p.1 i && is_cut top bottom level number) || (p.2 i && is_end low high number))
    go (inr (inr p)) = (λ i. p.0 i && is_cut top bottom level number) ∙ sym (λ i. (p.1 i && is_cut top bottom level number) || (p.2 i && is_end low high number))

spread_column : (a s c x y : Bool) → (a && (s && (c && (x || y)))) ≡ ((a && (s && (c && x))) || (a && (s && (c && y))))
spread_column true true true x y = refl
spread_column true true false x y = refl
spread_column true false c x y = refl
spread_column false s c x y = refl

pub column_more : (c : Corners) (col n low high : ℕ) → low ≡ up_halves n c.first.row → high ≡ halves n (suc c.last.row) → (k : Key)
    → is_column_key c col (n + 1) k ≡ (is_column_key c col n k || is_level_key c (record { sheet = c.first.sheet; col = col; level = n; number = low }) high k)
column_more c col n low high e f k =
    let a = same_corners c k.area in
    let s = c.first.sheet == k.block.sheet in
    let l = col == k.block.col in
    (λ i. a && (s && (l && level_more n low high c.first.row c.last.row e f k.block.level k.block.number i)))
    ∙ spread_column a s l (nat_lt k.block.level n && is_cut c.first.row c.last.row k.block.level k.block.number) ((n == k.block.level) && is_end low high k.block.number)

pub column_below : (c : Corners) (col n m : ℕ) → n ≤ m → (k : Key) → is_column_key c col m k ≡ false → is_column_key c col n k ≡ false
column_below c col n m h k p = go (nat_lt k.block.level n) refl
  where
    a : Bool
    a = same_corners c k.area

    s : Bool
    s = c.first.sheet == k.block.sheet

    l : Bool
    l = col == k.block.col

    cut : Bool
    cut = is_cut c.first.row c.last.row k.block.level k.block.number

    go : (q : Bool) → nat_lt k.block.level n ≡ q → (a && (s && (l && (q && cut)))) ≡ false
    go false e = (λ i. a && (s && and_none l i)) ∙ (λ i. a && and_none s i) ∙ and_none a
    go true e = (let f : nat_lt k.block.level m ≡ true = grind (arith, e, h) in sym (λ i. a && (s && (l && (f i && cut)))) ∙ p)

-- one more column

abbrev pub columns_before : Corners → ℕ → Key → Bool
columns_before c end k = is_area_key c k && nat_lt k.block.col end

pub column_step : (c : Corners) (n : ℕ) → c.first.col ≤ n → n ≤ c.last.col → (k : Key) → columns_before c (n + 1) k ≡ (columns_before c n k || is_column_key c n 16 k)
column_step c n low high k = go (cases k.block.col)
  where
    cases : (m : ℕ) → ((nat_lt m (n + 1) ≡ true) × (nat_lt m n ≡ true) × ((n == m) ≡ false)) ⊎ (((nat_lt m (n + 1) ≡ true) × (nat_lt m n ≡ false) × ((n == m) ≡ true)) ⊎ ((nat_lt m (n + 1) ≡ false) × (nat_lt m n ≡ false) × ((n == m) ≡ false)))
    cases m = grind arith

    a : Bool
    a = same_corners c k.area

    s : Bool
    s = c.first.sheet == k.block.sheet

    w : Bool
    w = nat_le c.first.col k.block.col && nat_le k.block.col c.last.col

    x : Bool
    x = nat_lt k.block.level 16 && is_cut c.first.row c.last.row k.block.level k.block.number

    before : (a s w x : Bool) → ((a && ((s && w) && x)) && true) ≡ (((a && ((s && w) && x)) && true) || (a && (s && (false && x))))
    before true true w x = or_none ((w && x) && true)
    before true false w x = refl
    before false s w x = refl

    here : (a s x : Bool) → ((a && ((s && true) && x)) && true) ≡ (((a && ((s && true) && x)) && false) || (a && (s && (true && x))))
    here true true true = refl
    here true true false = refl
    here true false x = refl
    here false s x = refl

    behind : (a s w x : Bool) → ((a && ((s && w) && x)) && false) ≡ (((a && ((s && w) && x)) && false) || (a && (s && (false && x))))
    behind true true w x = or_none ((w && x) && false)
    behind true false w x = refl
    behind false s w x = refl

    wide : (n == k.block.col) ≡ true → w ≡ true
    wide e = (let same : n ≡ k.block.col = grind (arith, e) in let l : nat_le c.first.col k.block.col ≡ true = grind (arith, low, same) in let h : nat_le k.block.col c.last.col ≡ true = grind (arith, high, same) in (λ i. l i && h i))

    go : ((nat_lt k.block.col (n + 1) ≡ true) × (nat_lt k.block.col n ≡ true) × ((n == k.block.col) ≡ false)) ⊎ (((nat_lt k.block.col (n + 1) ≡ true) × (nat_lt k.block.col n ≡ false) × ((n == k.block.col) ≡ true)) ⊎ ((nat_lt k.block.col (n + 1) ≡ false) × (nat_lt k.block.col n ≡ false) × ((n == k.block.col) ≡ false)))
        → columns_before c (n + 1) k ≡ (columns_before c n k || is_column_key c n 16 k)
    go (inl p) = (λ i. (a && ((s && w) && x)) && p.0 i) ∙ before a s w x ∙ sym (λ i. ((a && ((s && w) && x)) && p.1 i) || (a && (s && (p.2 i && x))))
    go (inr (inl p)) = (λ i. (a && ((s && wide p.2 i) && x)) && p.0 i) ∙ here a s x ∙ sym (λ i. ((a && ((s && wide p.2 i) && x)) && p.1 i) || (a && (s && (p.2 i && x))))
    go (inr (inr p)) = (λ i. (a && ((s && w) && x)) && p.0 i) ∙ behind a s w x ∙ sym (λ i. ((a && ((s && w) && x)) && p.1 i) || (a && (s && (p.2 i && x))))

-- a key of the area is in its width
area_column : (c : Corners) (k : Key) → is_area_key c k ≡ true → (c.first.col ≤ k.block.col) × (k.block.col ≤ c.last.col)
area_column c k h =
    let p = and_second (same_corners c k.area) (is_block_of (area_between c) k.block) h in
    let q = and_first ((c.first.sheet == k.block.sheet) && (nat_le c.first.col k.block.col && nat_le k.block.col c.last.col)) (nat_lt k.block.level 16 && is_cut c.first.row c.last.row k.block.level k.block.number) p in
    let w = and_second (c.first.sheet == k.block.sheet) (nat_le c.first.col k.block.col && nat_le k.block.col c.last.col) q in
    let l = and_first (nat_le c.first.col k.block.col) (nat_le k.block.col c.last.col) w in
    let m = and_second (nat_le c.first.col k.block.col) (nat_le k.block.col c.last.col) w in
    (grind (arith, l), grind (arith, m))

none_before : (m n : ℕ) → m ≤ n → nat_lt n m ≡ false
none_before m n h = grind (arith, h)

pub no_columns : (c : Corners) (k : Key) → columns_before c c.first.col k ≡ false
no_columns c k = go (is_area_key c k) refl
  where
    go : (q : Bool) → is_area_key c k ≡ q → (q && nat_lt k.block.col c.first.col) ≡ false
    go false e = refl
    go true e = none_before c.first.col k.block.col (area_column c k e).0

pub all_columns : (c : Corners) (n : ℕ) → c.last.col < n → (k : Key) → is_area_key c k ≡ columns_before c n k
all_columns c n w k = go (is_area_key c k) refl
  where
    go : (q : Bool) → is_area_key c k ≡ q → q ≡ (q && nat_lt k.block.col n)
    go false e = refl
    go true e = (let h = (area_column c k e).1 in grind (arith, h, w))

pub some_columns : (c : Corners) (n : ℕ) (k : Key) → is_area_key c k ≡ false → columns_before c n k ≡ false
some_columns c n k h = λ i. h i && nat_lt k.block.col n
