-- Which addresses an area has, each once.
use Rattle.std.proofs.Common.{◌≡◌, ℕ, ◌⊎◌, inl, inr, zero, suc, ◌+◌, ◌≤◌, ◌<◌, ◌||◌, Bool, true, false, [], map, refl, sym, ap, ◌∙◌, arith}
use Rattle.std.specs.List.{flat_map, IsDistinct}
use Rattle.cell_values.specs.declared.address.Addr.{Addr}
use Rattle.cell_values.specs.declared.address.Area.{Area}
use Rattle.cell_values.specs.Addresses.{same_addr}
use Rattle.cell_values.specs.Areas.{height, width, cell_of, numbers_from, row_of, walk, is_inside}
use Rattle.std.proofs.lemmas.Map.Keys.{IsDistinct-cons}
use Rattle.cell_values.proofs.Order.{same_addr-true}
use Rattle.workbook_core.specs.Copies.{among}
use Rattle.workbook_core.proofs.Counting.{any_append, distinct_append, none_among}

-- which addresses an area has

or_cases : (t u : Bool) → (t || u) ≡ true → (t ≡ true) ⊎ (u ≡ true)
or_cases true u e = inl refl
or_cases false u e = inr e

pub record IsInRow (r : Area) (i : ℕ) (k n : ℕ) (a : Addr) : Type 0 where
  pub sheet : a.sheet ≡ r.sheet
  pub row : a.row ≡ r.top + i
  pub from : r.left + k ≤ a.col
  pub to : a.col < r.left + (k + n)

in_row : (r : Area) (i k n : ℕ) (a : Addr) → among (map (cell_of r i) (numbers_from k n)) a ≡ true → IsInRow r i k n a
in_row r i k zero a e = absurd (cc)
in_row r i k (suc n) a e = go (or_cases (same_addr a (cell_of r i k)) (among (map (cell_of r i) (numbers_from (suc k) n)) a) e) (in_row r i (suc k) n a)
  where
    go : (same_addr a (cell_of r i k) ≡ true) ⊎ (among (map (cell_of r i) (numbers_from (suc k) n)) a ≡ true) → (among (map (cell_of r i) (numbers_from (suc k) n)) a ≡ true → IsInRow r i (suc k) n a) → IsInRow r i k (suc n) a
    go (inl f) later =
        let is : a ≡ cell_of r i k = same_addr-true a (cell_of r i k) f in
        let col : a.col ≡ r.left + k = ap (λ b. b.col) is in
        record { sheet = ap (λ b. b.sheet) is; row = ap (λ b. b.row) is; from = omega arith; to = omega arith }
    go (inr f) later = (let h = later f in record { sheet = h.sheet; row = h.row; from = omega (arith, h.from); to = omega (arith, h.to) })

pub record IsInRows (r : Area) (k n : ℕ) (a : Addr) : Type 0 where
  pub sheet : a.sheet ≡ r.sheet
  pub from : r.top + k ≤ a.row
  pub to : a.row < r.top + (k + n)
  pub left : r.left ≤ a.col
  pub right : a.col < r.left + width r

in_rows : (r : Area) (k n : ℕ) (a : Addr) → among (flat_map (row_of r) (numbers_from k n)) a ≡ true → IsInRows r k n a
in_rows r k zero a e = absurd (cc)
in_rows r k (suc n) a e = go (or_cases (among (row_of r k) a) (among (flat_map (row_of r) (numbers_from (suc k) n)) a) (sym (any_append a (row_of r k) (flat_map (row_of r) (numbers_from (suc k) n))) ∙ e)) (in_rows r (suc k) n a)
  where
    go : (among (row_of r k) a ≡ true) ⊎ (among (flat_map (row_of r) (numbers_from (suc k) n)) a ≡ true) → (among (flat_map (row_of r) (numbers_from (suc k) n)) a ≡ true → IsInRows r (suc k) n a) → IsInRows r k (suc n) a
    go (inl f) later = (let h = in_row r k 0 (width r) a f in record { sheet = h.sheet; from = omega (arith, h.row); to = omega (arith, h.row); left = omega (arith, h.from); right = omega (arith, h.to) })
    go (inr f) later = (let h = later f in record { sheet = h.sheet; from = omega (arith, h.from); to = omega (arith, h.to); left = h.left; right = h.right })

pub record IsInArea (r : Area) (a : Addr) : Type 0 where
  pub sheet : a.sheet ≡ r.sheet
  pub top : r.top ≤ a.row
  pub bottom : a.row ≤ r.bottom
  pub left : r.left ≤ a.col
  pub right : a.col ≤ r.right

pub inside_tells : (r : Area) (a : Addr) → is_inside r a ≡ true → IsInArea r a
inside_tells r a e = record { sheet = grind arith; top = grind arith; bottom = grind arith; left = grind arith; right = grind arith }

-- the walk has each cell once

distinct_none : IsDistinct same_addr []
unfolding IsDistinct
distinct_none = tt

is_not : (t : Bool) → (t ≡ true → ⊥) → t ≡ false
is_not true f = absurd (f refl)
is_not false f = refl

row_distinct : (r : Area) (i k n : ℕ) → IsDistinct same_addr (map (cell_of r i) (numbers_from k n))
row_distinct r i k zero = distinct_none
row_distinct r i k (suc n) = IsDistinct-cons same_addr (cell_of r i k) (map (cell_of r i) (numbers_from (suc k) n)) (none_among (cell_of r i k) (map (cell_of r i) (numbers_from (suc k) n)) (is_not (among (map (cell_of r i) (numbers_from (suc k) n)) (cell_of r i k)) never)) (row_distinct r i (suc k) n)
  where
    never : among (map (cell_of r i) (numbers_from (suc k) n)) (cell_of r i k) ≡ true → ⊥
    never e = (let h = in_row r i (suc k) n (cell_of r i k) e in let x : r.left + suc k ≤ r.left + k = h.from in omega arith)

rows_distinct : (r : Area) (k n : ℕ) → IsDistinct same_addr (flat_map (row_of r) (numbers_from k n))
rows_distinct r k zero = distinct_none
rows_distinct r k (suc n) = distinct_append (row_of r k) (flat_map (row_of r) (numbers_from (suc k) n)) (row_distinct r k 0 (width r)) (rows_distinct r (suc k) n)
    (λ a e. is_not (among (flat_map (row_of r) (numbers_from (suc k) n)) a) (never a e))
  where
    never : (a : Addr) → among (row_of r k) a ≡ true → among (flat_map (row_of r) (numbers_from (suc k) n)) a ≡ true → ⊥
    never a e f = (let h = in_row r k 0 (width r) a e in let g = in_rows r (suc k) n a f in omega (arith, h.row, g.from))

pub walk_distinct : (r : Area) → IsDistinct same_addr (walk r)
walk_distinct r = rows_distinct r 0 (height r)
