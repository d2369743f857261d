-- Rows that are cut into blocks meet other rows exactly where one of the blocks does, at some level.
use Rattle.std.proofs.Common.{◌≡◌, ℕ, zero, suc, ◌+◌, ◌-◌, ◌<◌, ◌≤◌, ◌/◌, ◌%◌, true, ◌⊎◌, inl, inr, refl, subst, arith}
use Rattle.support_graph.specs.Blocks.{halves, up_halves, is_end}

-- a block at an end that lies from x to y
abbrev pub EndBetween : ℕ → ℕ → ℕ → ℕ → Type 0
EndBetween l r x y = (e : ℕ) × (is_end l r e ≡ true) × (x ≤ e) × (e ≤ y)

-- the blocks from l up to and without r meet those from x to y
pub record Meet (l r x y : ℕ) : Type 0 where
  pub some : l < r
  pub low : l ≤ y
  pub high : x < r

low_is_end : (l r : ℕ) → l < r → l % 2 ≡ 1 → is_end l r l ≡ true
low_is_end l r h o = grind (arith, h, o)

high_is_end : (l r : ℕ) → l < r → r % 2 ≡ 1 → is_end l r (r - 1) ≡ true
high_is_end l r h o = grind (arith, h, o)

parity : (n : ℕ) → (n % 2 ≡ 0) ⊎ (n % 2 ≡ 1)
parity n = grind arith

split : (m n : ℕ) → (m ≤ n) ⊎ (n < m)
split m n = grind arith

-- blocks that meet have an end there, or the larger blocks among them meet
pub meet_down : (l r x y : ℕ) → x ≤ y → Meet l r x y → EndBetween l r x y ⊎ Meet (suc l / 2) (r / 2) (x / 2) (y / 2)
meet_down l r x y w m = at_low (parity l) (split x l)
  where
    inner : (l % 2 ≡ 0) ⊎ (l < x) → (r % 2 ≡ 0) ⊎ (y < r - 1) → Meet (suc l / 2) (r / 2) (x / 2) (y / 2)
    inner p q = let a = m.some in let b = m.low in let c = m.high in record { some = omega arith; low = omega arith; high = omega arith }

    at_high : (l % 2 ≡ 0) ⊎ (l < x) → (r % 2 ≡ 0) ⊎ (r % 2 ≡ 1) → (r - 1 ≤ y) ⊎ (y < r - 1) → EndBetween l r x y ⊎ Meet (suc l / 2) (r / 2) (x / 2) (y / 2)
    at_high p (inl q) s = inr (inner p (inl q))
    at_high p (inr q) (inl s) = (let a = m.some in let b = m.high in inl (r - 1, high_is_end l r m.some q, omega arith, s))
    at_high p (inr q) (inr s) = inr (inner p (inr s))

    at_low : (l % 2 ≡ 0) ⊎ (l % 2 ≡ 1) → (x ≤ l) ⊎ (l < x) → EndBetween l r x y ⊎ Meet (suc l / 2) (r / 2) (x / 2) (y / 2)
    at_low (inl p) s = at_high (inl p) (parity r) (split (r - 1) y)
    at_low (inr p) (inl s) = inl (l, low_is_end l r m.some p, s, m.low)
    at_low (inr p) (inr s) = at_high (inr s) (parity r) (split (r - 1) y)

-- an end that lies there, or larger blocks that meet
pub meet_from_end : (l r x y e : ℕ) → is_end l r e ≡ true → x ≤ e → e ≤ y → Meet l r x y
meet_from_end l r x y e h a b = record { some = end_some; low = grind (arith, h, a, b); high = grind (arith, h, a, b) }
  where
    end_some : l < r
    end_some = grind (arith, h)

pub meet_up : (l r x y : ℕ) → Meet (suc l / 2) (r / 2) (x / 2) (y / 2) → Meet l r x y
meet_up l r x y m = (let a = m.some in let b = m.low in let c = m.high in record { some = omega arith; low = omega arith; high = omega arith })

-- halves

pub halves_le : (n x y : ℕ) → x ≤ y → halves n x ≤ halves n y
halves_le zero x y h = h
halves_le (suc n) x y h = let k : halves n x ≤ halves n y = halves_le n x y h in omega arith

up_halves_some : (n x : ℕ) → 1 ≤ x → 1 ≤ up_halves n x
up_halves_some zero x h = h
up_halves_some (suc n) x h = let k : 1 ≤ up_halves n x = up_halves_some n x h in omega arith

-- the blocks of a level, from row `top` up to and without row `end`, meet those of the rows from x to y
abbrev pub MeetAt : ℕ → ℕ → ℕ → ℕ → ℕ → Type 0
MeetAt n top end x y = Meet (up_halves n top) (halves n end) (halves n x) (halves n y)

-- a block at a level below 16 that lies from x to y
pub record CutBetween (top end x y : ℕ) : Type 0 where
  pub level : ℕ
  pub below : level < 16
  pub between : EndBetween (up_halves level top) (halves level end) (halves level x) (halves level y)

no_last : (top end x y : ℕ) → 1 ≤ top → end ≤ 65537 → MeetAt 16 top end x y → ⊥
no_last top end x y h k m =
    let a : halves 16 end ≤ halves 16 65537 = halves_le 16 end 65537 k in
    let b : 1 ≤ up_halves 16 top = up_halves_some 16 top h in
    let c : up_halves 16 top < halves 16 end = m.some in
    let d : halves 16 65537 ≡ 1 = refl in
    omega arith

find_cut : (top end x y : ℕ) → 1 ≤ top → end ≤ 65537 → x ≤ y → (m n : ℕ) → m + n ≡ 16 → MeetAt n top end x y → CutBetween top end x y
find_cut top end x y h k w zero n s p = (let e : n ≡ 16 = omega (arith, s) in absurd (no_last top end x y h k (subst (λ z. MeetAt z top end x y) e p)))
find_cut top end x y h k w (suc m) n s p = go (meet_down (up_halves n top) (halves n end) (halves n x) (halves n y) (halves_le n x y w) p) (find_cut top end x y h k w m (suc n) (omega (arith, s)))
  where
    go : EndBetween (up_halves n top) (halves n end) (halves n x) (halves n y) ⊎ MeetAt (suc n) top end x y → (MeetAt (suc n) top end x y → CutBetween top end x y) → CutBetween top end x y
    go (inl e) f = record { level = n; below = omega (arith, s); between = e }
    go (inr q) f = f q

-- rows that meet have a block in common
pub cut_from_meet : (top end x y : ℕ) → 1 ≤ top → end ≤ 65537 → x ≤ y → Meet top end x y → CutBetween top end x y
cut_from_meet top end x y h k w p = find_cut top end x y h k w 16 0 refl p

meet_all_up : (n top end x y : ℕ) → MeetAt n top end x y → Meet top end x y
meet_all_up zero top end x y m = m
meet_all_up (suc n) top end x y m = meet_all_up n top end x y (meet_up (up_halves n top) (halves n end) (halves n x) (halves n y) m)

pub meet_from_cut : (top end x y level e : ℕ) → is_end (up_halves level top) (halves level end) e ≡ true → halves level x ≤ e → e ≤ halves level y → Meet top end x y
meet_from_cut top end x y level e h a b = meet_all_up level top end x y (meet_from_end (up_halves level top) (halves level end) (halves level x) (halves level y) e h a b)
