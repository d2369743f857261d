-- Which cells stand in a walk.
use Rattle.std.proofs.Common.{◌≡◌, ℕ, zero, suc, ◌+◌, ◌-◌, ◌<◌, ◌≤◌, min, ◌⊎◌, inl, inr, ⊎_elim, List, [], ◌∷◌, ◌++◌, map, flat_map, sym, ap, ◌∙◌, subst, arith}
use Rattle.cell_values.specs.declared.address.Addr.{Addr}
use Rattle.cell_values.specs.declared.address.Area.{Area}
use Rattle.cell_values.specs.Areas.{between_cells, numbers_from, height, width, cell_of, row_of, column_of, walk}
use Rattle.demand_spec.specs.Laws.{In}

pub in_left : (x : Addr) (xs ys : List Addr) → In x xs → In x (xs ++ ys)
in_left x [] ys k = absurd k
in_left x (y ∷ xs) ys (inl e) = inl e
in_left x (y ∷ xs) ys (inr k) = inr (in_left x xs ys k)

pub in_right : (x : Addr) (xs ys : List Addr) → In x ys → In x (xs ++ ys)
in_right x [] ys k = k
in_right x (y ∷ xs) ys k = inr (in_right x xs ys k)

pub in_either : (x : Addr) (xs ys : List Addr) → In x (xs ++ ys) → In x xs ⊎ In x ys
in_either x [] ys k = inr k
in_either x (y ∷ xs) ys (inl e) = inl (inl e)
in_either x (y ∷ xs) ys (inr k) = ⊎_elim (λ m. inl (inr m)) (λ m. inr m) (in_either x xs ys k)

-- a list of cells by numbers

pub in_mapped : (f : ℕ → Addr) (n m i : ℕ) → n ≤ i → i < n + m → In (f i) (map f (numbers_from n m))
in_mapped f n zero i l h = absurd (omega arith)
in_mapped f n (suc m) i l h = ⊎_elim (λ (e : i ≡ n). inl (ap f e)) (λ (k : suc n ≤ i). inr (in_mapped f (suc n) m i k (omega arith))) (cases n i l)
  where
    cases : (n i : ℕ) → n ≤ i → (i ≡ n) ⊎ (suc n ≤ i)
    cases n i l = grind arith

pub mapped_parts : (f : ℕ → Addr) (n m : ℕ) (x : Addr) → In x (map f (numbers_from n m)) → (i : ℕ) × (n ≤ i) × (i < n + m) × (x ≡ f i)
mapped_parts f n zero x k = absurd k
mapped_parts f n (suc m) x (inl e) = (n, omega arith, omega arith, e)
mapped_parts f n (suc m) x (inr k) = (let p = mapped_parts f (suc n) m x k in (p.0, omega (arith, p.1), omega (arith, p.2), p.3))

in_rows : (f : ℕ → List Addr) (x : Addr) (n m i : ℕ) → n ≤ i → i < n + m → In x (f i) → In x (flat_map f (numbers_from n m))
in_rows f x n zero i l h k = absurd (omega arith)
in_rows f x n (suc m) i l h k =
    ⊎_elim (λ (e : i ≡ n). in_left x (f n) (flat_map f (numbers_from (suc n) m)) (subst (λ z. In x (f z)) e k))
    (λ (q : suc n ≤ i). in_right x (f n) (flat_map f (numbers_from (suc n) m)) (in_rows f x (suc n) m i q (omega arith) k))
    (cases n i l)
  where
    cases : (n i : ℕ) → n ≤ i → (i ≡ n) ⊎ (suc n ≤ i)
    cases n i l = grind arith

rows_parts : (f : ℕ → List Addr) (n m : ℕ) (x : Addr) → In x (flat_map f (numbers_from n m)) → (i : ℕ) × (n ≤ i) × (i < n + m) × In x (f i)
rows_parts f n zero x k = absurd k
rows_parts f n (suc m) x k =
    ⊎_elim (λ (p : In x (f n)). (n, omega arith, omega arith, p))
    (λ p. let q = rows_parts f (suc n) m x p in (q.0, omega (arith, q.1), omega (arith, q.2), q.3))
    (in_either x (f n) (flat_map f (numbers_from (suc n) m)) k)

pub in_walk : (r : Area) (i j : ℕ) → i < height r → j < width r → In (cell_of r i j) (walk r)
in_walk r i j h w = in_rows (row_of r) (cell_of r i j) 0 (height r) i (omega arith) (omega arith) (in_mapped (cell_of r i) 0 (width r) j (omega arith) (omega arith))

pub record WalkParts (r : Area) (x : Addr) : Type 0 where
  pub i : ℕ
  pub j : ℕ
  pub high : i < height r
  pub wide : j < width r
  pub same : x ≡ cell_of r i j

pub walk_parts : (r : Area) (x : Addr) → In x (walk r) → WalkParts r x
walk_parts r x k =
    let p = rows_parts (row_of r) 0 (height r) x k in
    let q = mapped_parts (cell_of r p.0) 0 (width r) x p.3 in
    record { i = p.0; j = q.0; high = omega (arith, p.2); wide = omega (arith, q.2); same = q.3 }

-- the walk of one cell
pub walk_one : (a x : Addr) → In x (walk (between_cells a a)) → x ≡ a
unfolding height width
walk_one a x k =
    let p = walk_parts (between_cells a a) x k in
    let r : min a.row a.row + p.i ≡ a.row = omega (arith, p.high) in
    let c : min a.col a.col + p.j ≡ a.col = omega (arith, p.wide) in
    p.same ∙ (λ k. record { sheet = a.sheet; row = r k; col = c k })

pub in_column : (r : Area) (x : Addr) → 0 < width r → In x (column_of r 0) → In x (walk r)
in_column r x w k =
    let p = mapped_parts (λ i. cell_of r i 0) 0 (height r) x k in
    subst (λ z. In z (walk r)) (sym p.3) (in_walk r p.0 0 (omega (arith, p.2)) w)

pub in_row : (r : Area) (x : Addr) → 0 < height r → In x (row_of r 0) → In x (walk r)
in_row r x h k =
    let p = mapped_parts (cell_of r 0) 0 (width r) x k in
    subst (λ z. In z (walk r)) (sym p.3) (in_walk r 0 p.0 h (omega (arith, p.2)))

-- the walk goes on by one
pub numbers_more : (i m : ℕ) → i < m → numbers_from i (m - i) ≡ i ∷ numbers_from (i + 1) (m - (i + 1))
numbers_more i m l =
    let e : m - i ≡ suc (m - (i + 1)) = omega arith in
    let f : suc i ≡ i + 1 = omega arith in
    ap (numbers_from i) e ∙ ap (λ z. i ∷ numbers_from z (m - (i + 1))) f

pub numbers_all : (i m : ℕ) → m ≤ i → numbers_from i (m - i) ≡ []
numbers_all i m l = (let e : m - i ≡ 0 = omega arith in ap (numbers_from i) e)
