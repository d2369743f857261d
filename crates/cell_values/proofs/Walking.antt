-- The cells of an area by one number.
use Rattle.std.proofs.Common.{◌≡◌, ℕ, zero, suc, ◌+◌, ◌*◌, ◌/◌, ◌%◌, ◌<◌, ◌≤◌, List, [], ◌∷◌, ◌++◌, map, length, drop, flat_map, refl, sym, ap, ◌∙◌, subst, arith, length-append}
use Rattle.std.proofs.lemmas.List.{length-map, drop-append-le}
use Rattle.std.proofs.Math.Seq.{drop-append-add}
use Rattle.std.proofs.Math.Nat.{div-lt_iff_lt-mul, mul-pos}
use Rattle.std.proofs.lemmas.Nat.{div-add-mod'}
use Rattle.cell_values.specs.declared.address.Addr.{Addr}
use Rattle.cell_values.specs.declared.address.Area.{Area}
use Rattle.cell_values.specs.Areas.{numbers_from, height, width, cell_of, row_of, column_of, walk, IsArea}

pub length-numbers_from : (n m : ℕ) → length (numbers_from n m) ≡ m
length-numbers_from n zero = refl
length-numbers_from n (suc m) = ap suc (length-numbers_from (suc n) m)

length-row : (g : ℕ → Addr) (n m : ℕ) → length (map g (numbers_from n m)) ≡ m
length-row g n m = length-map (numbers_from n m) g ∙ length-numbers_from n m

drop_row : (g : ℕ → Addr) (n m j : ℕ) → j < m → drop j (map g (numbers_from n m)) ≡ g (n + j) ∷ drop (suc j) (map g (numbers_from n m))
drop_row g n zero j l = absurd (omega arith)
drop_row g n (suc m) zero l = (let e : n ≡ n + 0 = omega arith in ap (λ z. g z ∷ map g (numbers_from (suc n) m)) e)
drop_row g n (suc m) (suc j) l = (let e : suc n + j ≡ n + suc j = omega arith in drop_row g (suc n) m j (omega arith) ∙ ap (λ z. g z ∷ drop (suc j) (map g (numbers_from (suc n) m))) e)

rows : (ℕ → ℕ → Addr) → ℕ → ℕ → ℕ → List Addr
rows f w n m = flat_map (λ i. map (f i) (numbers_from 0 w)) (numbers_from n m)

length-rows : (f : ℕ → ℕ → Addr) (w n m : ℕ) → length (rows f w n m) ≡ m * w
unfolding rows
length-rows f w n zero = omega arith
length-rows f w n (suc m) = length-append (map (f n) (numbers_from 0 w)) (rows f w (suc n) m) ∙ (λ i. length-row (f n) 0 w i + length-rows f w (suc n) m i) ∙ omega arith

drop_rows : (f : ℕ → ℕ → Addr) (w n m i j : ℕ) → i < m → j < w → drop (i * w + j) (rows f w n m) ≡ f (n + i) j ∷ drop (suc (i * w + j)) (rows f w n m)
unfolding rows
drop_rows f w n zero i j l h = absurd (omega arith)
drop_rows f w n (suc m) zero j l h =
    let row : List Addr = map (f n) (numbers_from 0 w) in
    let rest : List Addr = rows f w (suc n) m in
    let long : length row ≡ w = length-row (f n) 0 w in
    let at : 0 * w + j ≡ j = omega arith in
    let here : n ≡ n + 0 = omega arith in
    let one : drop j (row ++ rest) ≡ drop j row ++ rest = drop-append-le j row rest (omega arith) in
    let two : drop (suc j) (row ++ rest) ≡ drop (suc j) row ++ rest = drop-append-le (suc j) row rest (omega arith) in
    let three : drop j row ≡ f n (0 + j) ∷ drop (suc j) row = drop_row (f n) 0 w j h in
    let four : 0 + j ≡ j = omega arith in
    let all : drop j (row ++ rest) ≡ f (n + 0) j ∷ drop (suc j) (row ++ rest) = one ∙ ap (λ z. z ++ rest) three ∙ (λ k. f (here k) (four k) ∷ sym two k) in
    subst (λ z. drop z (row ++ rest) ≡ f (n + 0) j ∷ drop (suc z) (row ++ rest)) (sym at) all
drop_rows f w n (suc m) (suc i) j l h =
    let row : List Addr = map (f n) (numbers_from 0 w) in
    let rest : List Addr = rows f w (suc n) m in
    let at : length row + (i * w + j) ≡ suc i * w + j = omega (arith, length-row (f n) 0 w) in
    let next : length row + suc (i * w + j) ≡ suc (suc i * w + j) = omega (arith, length-row (f n) 0 w) in
    let here : suc n + i ≡ n + suc i = omega arith in
    let one : drop (suc i * w + j) (row ++ rest) ≡ drop (i * w + j) rest = ap (λ z. drop z (row ++ rest)) (sym at) ∙ drop-append-add row rest (i * w + j) in
    let two : drop (suc (suc i * w + j)) (row ++ rest) ≡ drop (suc (i * w + j)) rest = ap (λ z. drop z (row ++ rest)) (sym next) ∙ drop-append-add row rest (suc (i * w + j)) in
    one ∙ drop_rows f w (suc n) m i j (omega arith) h ∙ (λ k. f (here k) j ∷ sym two k)

pub length-walk : (r : Area) → length (walk r) ≡ height r * width r
unfolding rows
length-walk r = length-rows (cell_of r) (width r) 0 (height r)

pub drop_walk : (r : Area) (n : ℕ) → 0 < width r → n < height r * width r → drop n (walk r) ≡ cell_of r (n / width r) (n % width r) ∷ drop (n + 1) (walk r)
unfolding rows
drop_walk r n w l =
    let h : n / width r < height r = (div-lt_iff_lt-mul {k = width r} {x = n} {y = height r} w).1 l in
    let m : n % width r < width r = omega arith in
    let e : n / width r * width r + n % width r ≡ n = div-add-mod' n (width r) in
    let all = drop_rows (cell_of r) (width r) 0 (height r) (n / width r) (n % width r) h m in
    let zero_plus : 0 + n / width r ≡ n / width r = omega arith in
    let plus : suc n ≡ n + 1 = omega arith in
    let moved : drop n (walk r) ≡ cell_of r (0 + n / width r) (n % width r) ∷ drop (suc n) (walk r) = subst (λ z. drop z (walk r) ≡ cell_of r (0 + n / width r) (n % width r) ∷ drop (suc z) (walk r)) e all in
    moved ∙ (λ k. cell_of r (zero_plus k) (n % width r) ∷ drop (plus k) (walk r))

pub area_counted : (r : Area) (n : ℕ) → n ≡ height r * width r → n ≡ length (walk r)
area_counted r n h = h ∙ sym (length-walk r)

pub row_within : (n w h : ℕ) → 0 < w → n < h * w → n / w < h
row_within n w h l m = (div-lt_iff_lt-mul {k = w} {x = n} {y = h} l).1 m

pub drop_walk_at : (r : Area) (n w : ℕ) → w ≡ width r → 0 < w → n < length (walk r) → drop n (walk r) ≡ cell_of r (n / w) (n % w) ∷ drop (n + 1) (walk r)
drop_walk_at r n w e l m = subst (λ z. drop n (walk r) ≡ cell_of r (n / z) (n % z) ∷ drop (n + 1) (walk r)) (sym e) (drop_walk r n (subst (λ z. 0 < z) e l) (subst (λ z. n < z) (length-walk r) m))

pub walk_some : (r : Area) → IsArea r → 0 < length (walk r)
unfolding height width
walk_some r a = (let h : 0 < height r * width r = mul-pos {m = height r} {n = width r} (omega (arith, a.top_to)) (omega (arith, a.left_to)) in subst (λ z. 0 < z) (sym (length-walk r)) h)

-- The first column and the first row

plus_one : (k : ℕ) → suc k ≡ k + 1
plus_one k = omega arith

pub length-column : (r : Area) → length (column_of r 0) ≡ height r
length-column r = length-row (λ i. cell_of r i 0) 0 (height r)

pub length-first_row : (r : Area) → length (row_of r 0) ≡ width r
length-first_row r = length-row (cell_of r 0) 0 (width r)

pub drop_column : (r : Area) (n : ℕ) → n < height r → drop n (column_of r 0) ≡ cell_of r n 0 ∷ drop (n + 1) (column_of r 0)
drop_column r n l = (let z : 0 + n ≡ n = omega arith in drop_row (λ i. cell_of r i 0) 0 (height r) n l ∙ (λ i. cell_of r (z i) 0 ∷ drop (plus_one n i) (column_of r 0)))

pub drop_first_row : (r : Area) (n : ℕ) → n < width r → drop n (row_of r 0) ≡ cell_of r 0 n ∷ drop (n + 1) (row_of r 0)
drop_first_row r n l = (let z : 0 + n ≡ n = omega arith in drop_row (cell_of r 0) 0 (width r) n l ∙ (λ i. cell_of r 0 (z i) ∷ drop (plus_one n i) (row_of r 0)))

pub drop_past : (cs : List Addr) (n : ℕ) → length cs ≤ n → drop n cs ≡ []
drop_past [] zero h = refl
drop_past [] (suc n) h = refl
drop_past (c ∷ cs) zero h = absurd (omega arith)
drop_past (c ∷ cs) (suc n) h = drop_past cs n (omega arith)
