-- The first and the last row of a range after a change, from its first and its last row before.
use Rattle.std.proofs.Common.{◌≡◌, ℕ, zero, suc, ◌+◌, ◌-◌, ◌*◌, ◌<◌, ◌≤◌, Bool, true, false, cond, ◌&&◌, ◌==◌, ◌⊎◌, inl, inr, ⊎_elim, nat_lt, List, [], ◌∷◌, length, Option, Some, None, refl, sym, ap, ◌∙◌, subst, arith}
use Rattle.std.specs.Prelude.{nat_le, unwrap_or, filter_map, option_map, option_and_then}
use Rattle.std.specs.List.{cons_option}
use Rattle.std.proofs.lemmas.Bool.{cases_lt, and_from, and_left, and_right, lt-ltb, le-ltb, le-leb, lt-leb, leb-true}
use Rattle.cell_values.specs.declared.TheConstants.{LAST_ROW, MAX_RANGE_CELLS}
use Rattle.cell_values.specs.declared.address.Area.{Area}
use Rattle.cell_values.specs.Areas.{numbers_from, height, width, cell_of, IsArea}
use Rattle.row_shift.specs.declared.change.RowChange.{RowChange}
use Rattle.row_shift.specs.Moves.{IsChange, sheet_of, moved_row, row_on, in_row, move_cell, places, loses_row, ends, in_rows, if_small, moved_rows, moved_area}

pub some_same : {A : Type 0} → (x y : A) → Some x ≡ Some y → x ≡ y
some_same x y e = cc

-- one more number before the others
abbrev joined : Option ℕ → Option (ℕ × ℕ) → Option (ℕ × ℕ)
joined None e = e
joined (Some x) None = Some (x, x)
joined (Some x) (Some p) = Some (x, p.1)

ends_cons : (o : Option ℕ) (ns : List ℕ) → ends (cons_option o ns) ≡ joined o (ends ns)
ends_cons None ns = refl
ends_cons (Some x) [] = refl
ends_cons (Some x) (n ∷ ns) = refl

-- numbers that all have a place

all_ends : (f : ℕ → Option ℕ) (g : ℕ → ℕ) (t n : ℕ) → ((i : ℕ) → t ≤ i → i ≤ t + n → f i ≡ Some (g i)) → ends (filter_map f (numbers_from t (suc n))) ≡ Some (g t, g (t + n))
all_ends f g t zero h =
    let here : f t ≡ Some (g t) = h t (omega arith) (omega arith) in
    let same : t ≡ t + 0 = omega arith in
    ap (λ (o : Option ℕ). ends (cons_option o [])) here ∙ ap (λ (k : ℕ). Some (g t, g k)) same
all_ends f g t (suc n) h =
    let here : f t ≡ Some (g t) = h t (omega arith) (omega arith) in
    let rest : ends (filter_map f (numbers_from (suc t) (suc n))) ≡ Some (g (suc t), g (suc t + n)) = all_ends f g (suc t) n (λ i l k. h i (omega arith) (omega arith)) in
    let same : suc t + n ≡ t + suc n = omega arith in
    ends_cons (f t) (filter_map f (numbers_from (suc t) (suc n))) ∙ (λ i. joined (here i) (rest i)) ∙ ap (λ (k : ℕ). Some (g t, g k)) same

all_length : (f : ℕ → Option ℕ) (g : ℕ → ℕ) (t n : ℕ) → ((i : ℕ) → t ≤ i → i < t + n → f i ≡ Some (g i)) → length (filter_map f (numbers_from t n)) ≡ n
all_length f g t zero h = refl
all_length f g t (suc n) h =
    let here : f t ≡ Some (g t) = h t (omega arith) (omega arith) in
    ap (λ (o : Option ℕ). length (cons_option o (filter_map f (numbers_from (suc t) n)))) here ∙ ap suc (all_length f g (suc t) n (λ i l k. h i (omega arith) (omega arith)))

-- the last number has none

cons_length : (o : Option ℕ) (ns : List ℕ) → length (cons_option o ns) ≤ suc (length ns)
cons_length None ns = omega arith
cons_length (Some x) ns = omega arith

less_length : (f : ℕ → Option ℕ) (t n : ℕ) → f (t + n) ≡ None → length (filter_map f (numbers_from t (suc n))) ≤ n
less_length f t zero h =
    let same : t + 0 ≡ t = omega arith in
    let here : f t ≡ None = subst (λ (k : ℕ). f k ≡ None) same h in
    subst (λ (o : Option ℕ). length (cons_option o []) ≤ 0) (sym here) (omega arith)
less_length f t (suc n) h =
    let same : t + suc n ≡ suc t + n = omega arith in
    let rest : length (filter_map f (numbers_from (suc t) (suc n))) ≤ n = less_length f (suc t) n (subst (λ (k : ℕ). f k ≡ None) same h) in
    let more : length (cons_option (f t) (filter_map f (numbers_from (suc t) (suc n)))) ≤ suc (length (filter_map f (numbers_from (suc t) (suc n)))) = cons_length (f t) (filter_map f (numbers_from (suc t) (suc n))) in
    omega arith

-- a row of the changed sheet

pub row_stays : (s row count r : ℕ) → r < row → moved_row (RowChange.Insert s row count) r ≡ Some r
row_stays s row count r h = rw (lt-ltb r row h) refl

pub row_pushed : (s row count r : ℕ) → row ≤ r → r + count ≤ LAST_ROW → moved_row (RowChange.Insert s row count) r ≡ Some (r + count)
row_pushed s row count r h k = rw (le-ltb r row h, le-leb (r + count) LAST_ROW k) refl

pub row_lost : (s row count r : ℕ) → row ≤ r → LAST_ROW < r + count → moved_row (RowChange.Insert s row count) r ≡ None
row_lost s row count r h k = rw (le-ltb r row h, lt-leb (r + count) LAST_ROW k) refl

pub row_above : (s row count r : ℕ) → r < row → moved_row (RowChange.Delete s row count) r ≡ Some r
row_above s row count r h = rw (lt-ltb r row h) refl

pub row_gone : (s row count r : ℕ) → row ≤ r → r < row + count → moved_row (RowChange.Delete s row count) r ≡ None
row_gone s row count r h k = rw (le-ltb r row h, lt-ltb r (row + count) k) refl

pub row_up : (s row count r : ℕ) → row ≤ r → row + count ≤ r → moved_row (RowChange.Delete s row count) r ≡ Some (r - count)
row_up s row count r h k = rw (le-ltb r row h, le-ltb r (row + count) k) refl

-- rows of which some are deleted

module _ (s row count : ℕ) where
  abbrev D : ℕ → Option ℕ
  D r = moved_row (RowChange.Delete s row count) r

  abbrev last : ℕ → ℕ
  last b = unwrap_or (D b) (row - 1)

  -- from the first row `t` to the last row `b`
  abbrev left_rows : ℕ → ℕ → Option (ℕ × ℕ)
  left_rows t b = cond (nat_le row t && nat_lt b (row + count)) None (Some (unwrap_or (D t) row, last b))

  pub left_none : (t b : ℕ) → row ≤ t → b < row + count → left_rows t b ≡ None
  left_none t b h k = ap (λ (q : Bool). cond q None (Some (unwrap_or (D t) row, last b))) (and_from (nat_le row t) (nat_lt b (row + count)) (le-leb row t h) (lt-ltb b (row + count) k))

  not_all : (t b : ℕ) → (t < row) ⊎ (row + count ≤ b) → (nat_le row t && nat_lt b (row + count)) ≡ false
  not_all t b (inl l) = and_left (nat_le row t) (nat_lt b (row + count)) (lt-leb row t l)
  not_all t b (inr l) = and_right (nat_le row t) (nat_lt b (row + count)) (le-ltb b (row + count) l)

  pub left_some : (t b x y : ℕ) → (t < row) ⊎ (row + count ≤ b) → unwrap_or (D t) row ≡ x → last b ≡ y → left_rows t b ≡ Some (x, y)
  left_some t b x y h p q = (λ i. cond (not_all t b h i) None (Some (p i, q i)))

  first_is : (t x : ℕ) → D t ≡ Some x → unwrap_or (D t) row ≡ x
  first_is t x e = ap (λ (o : Option ℕ). unwrap_or o row) e

  first_gone : (t : ℕ) → row ≤ t → t < row + count → unwrap_or (D t) row ≡ row
  first_gone t h k = ap (λ (o : Option ℕ). unwrap_or o row) (row_gone s row count t h k)

  -- either nothing is left of the rows or something is
  all_or_some : (t b : ℕ) → ((row ≤ t) × (b < row + count)) ⊎ ((t < row) ⊎ (row + count ≤ b))
  all_or_some t b = ⊎_elim (λ (k : t < row). inr (inl k)) (λ (k : row ≤ t). ⊎_elim (λ (m : b < row + count). inl (k, m)) (λ (m : row + count ≤ b). inr (inr m)) (cases_lt b (row + count))) (cases_lt t row)

  -- what is left of the rows that end at `b`, of which the first comes before the others

  more_above : (t b : ℕ) → t < b → t < row → joined (D t) (left_rows (suc t) b) ≡ left_rows t b
  more_above t b l h = go (all_or_some (suc t) b)
    where
      here : D t ≡ Some t
      here = row_above s row count t h

      right : left_rows t b ≡ Some (t, last b)
      right = left_some t b t (last b) (inl h) (first_is t t here) refl

      go : ((row ≤ suc t) × (b < row + count)) ⊎ ((suc t < row) ⊎ (row + count ≤ b)) → joined (D t) (left_rows (suc t) b) ≡ left_rows t b
      go (inl m) =
          let from = m.0 in
          let to = m.1 in
          let at : row ≤ b = omega (arith, from, l) in
          let same : row - 1 ≡ t = omega (arith, from, h) in
          let least : last b ≡ t = ap (λ (o : Option ℕ). unwrap_or o (row - 1)) (row_gone s row count b at to) ∙ same in
          (λ i. joined (here i) (left_none (suc t) b from to i)) ∙ ap (λ (z : ℕ). Some (t, z)) (sym least) ∙ sym right
      go (inr m) = (λ i. joined (here i) (left_some (suc t) b (unwrap_or (D (suc t)) row) (last b) m refl refl i)) ∙ sym right

  next_row : (t : ℕ) → row ≤ t → t < row + count → unwrap_or (D (suc t)) row ≡ row
  next_row t h k = ⊎_elim
      (λ (m : suc t < row + count). first_gone (suc t) (omega (arith, h)) m)
      (λ (m : row + count ≤ suc t). let same : suc t - count ≡ row = omega (arith, h, k, m) in first_is (suc t) (suc t - count) (row_up s row count (suc t) (omega (arith, h)) m) ∙ same)
      (cases_lt (suc t) (row + count))

  more_gone : (t b : ℕ) → row ≤ t → t < row + count → joined (D t) (left_rows (suc t) b) ≡ left_rows t b
  more_gone t b h k = ap (λ (o : Option ℕ). joined o (left_rows (suc t) b)) (row_gone s row count t h k) ∙ go (cases_lt b (row + count))
    where
      go : (b < row + count) ⊎ (row + count ≤ b) → left_rows (suc t) b ≡ left_rows t b
      go (inl m) = left_none (suc t) b (omega (arith, h)) m ∙ sym (left_none t b h m)
      go (inr m) = left_some (suc t) b row (last b) (inr m) (next_row t h k) refl ∙ sym (left_some t b row (last b) (inr m) (first_gone t h k) refl)

  more_below : (t b : ℕ) → t < b → row ≤ t → row + count ≤ t → joined (D t) (left_rows (suc t) b) ≡ left_rows t b
  more_below t b l h k =
      let here : D t ≡ Some (t - count) = row_up s row count t h k in
      let m : row + count ≤ b = omega (arith, k, l) in
      (λ i. joined (here i) (left_some (suc t) b (unwrap_or (D (suc t)) row) (last b) (inr m) refl refl i))
      ∙ sym (left_some t b (t - count) (last b) (inr m) (first_is t (t - count) here) refl)

  left_more : (t b : ℕ) → t < b → joined (D t) (left_rows (suc t) b) ≡ left_rows t b
  left_more t b l = ⊎_elim (λ (h : t < row). more_above t b l h) (λ (h : row ≤ t). ⊎_elim (λ (k : t < row + count). more_gone t b h k) (λ (k : row + count ≤ t). more_below t b l h k) (cases_lt t (row + count))) (cases_lt t row)

  one_left : (t : ℕ) → ends (cons_option (D t) []) ≡ left_rows t t
  one_left t = ⊎_elim above (λ (h : row ≤ t). ⊎_elim (gone h) (below h) (cases_lt t (row + count))) (cases_lt t row)
    where
      some : (x : ℕ) → (t < row) ⊎ (row + count ≤ t) → D t ≡ Some x → ends (cons_option (D t) []) ≡ left_rows t t
      some x h here = ap (λ (o : Option ℕ). ends (cons_option o [])) here ∙ sym (left_some t t x x h (first_is t x here) (ap (λ (o : Option ℕ). unwrap_or o (row - 1)) here))

      above : t < row → ends (cons_option (D t) []) ≡ left_rows t t
      above h = some t (inl h) (row_above s row count t h)

      gone : row ≤ t → t < row + count → ends (cons_option (D t) []) ≡ left_rows t t
      gone h k = ap (λ (o : Option ℕ). ends (cons_option o [])) (row_gone s row count t h k) ∙ sym (left_none t t h k)

      below : row ≤ t → row + count ≤ t → ends (cons_option (D t) []) ≡ left_rows t t
      below h k = some (t - count) (inr k) (row_up s row count t h k)

  pub left_ends : (t n : ℕ) → ends (filter_map D (numbers_from t (suc n))) ≡ left_rows t (t + n)
  left_ends t zero = (let same : t ≡ t + 0 = omega arith in one_left t ∙ ap (left_rows t) same)
  left_ends t (suc n) =
      let same : suc t + n ≡ t + suc n = omega arith in
      ends_cons (D t) (filter_map D (numbers_from (suc t) (suc n)))
      ∙ ap (joined (D t)) (left_ends (suc t) n ∙ ap (left_rows (suc t)) same)
      ∙ left_more t (t + suc n) (omega arith)

-- the rows of a range

height_is : (r : Area) → r.top ≤ r.bottom → height r ≡ suc (r.bottom - r.top)
unfolding height
height_is r l = omega arith

end_row : (t b : ℕ) → t ≤ b → t + (b - t) ≡ b
end_row t b h = omega arith

-- each row of the range has a place
abbrev AllPlaced : RowChange → Area → (ℕ → ℕ) → Type 0
AllPlaced change r g = (i : ℕ) → r.top ≤ i → i ≤ r.bottom → row_on change r.sheet i ≡ Some (g i)

placed_ends : (change : RowChange) (r : Area) (g : ℕ → ℕ) → r.top ≤ r.bottom → AllPlaced change r g → ends (places change r) ≡ Some (g r.top, g r.bottom)
placed_ends change r g l h =
    ap (λ (n : ℕ). ends (filter_map (row_on change r.sheet) (numbers_from r.top n))) (height_is r l)
    ∙ all_ends (row_on change r.sheet) g r.top (r.bottom - r.top) (λ i m n. h i m (omega (arith, l)))
    ∙ ap (λ (n : ℕ). Some (g r.top, g n)) (end_row r.top r.bottom l)

placed_count : (change : RowChange) (r : Area) (g : ℕ → ℕ) → r.top ≤ r.bottom → AllPlaced change r g → length (places change r) ≡ height r
placed_count change r g l h = (let high = height_is r l in all_length (row_on change r.sheet) g r.top (height r) (λ i m n. h i m (omega (arith, l, high))))

none_lost : (change : RowChange) (r : Area) → length (places change r) ≡ height r → loses_row change r ≡ false
none_lost (RowChange.Insert s row count) r e = le-ltb (length (places (RowChange.Insert s row count) r)) (height r) (omega (arith, e))
none_lost (RowChange.Delete s row count) r e = refl

-- the rows that all have a place
pub rows_placed : (change : RowChange) (r : Area) (g : ℕ → ℕ) → r.top ≤ r.bottom → AllPlaced change r g → moved_rows change r ≡ Some (g r.top, g r.bottom)
unfolding moved_rows
rows_placed change r g l h = ap (λ (q : Bool). cond q None (ends (places change r))) (none_lost change r (placed_count change r g l h)) ∙ placed_ends change r g l h

-- rows of another sheet stay
pub rows_elsewhere : (change : RowChange) (r : Area) → r.top ≤ r.bottom → (r.sheet == sheet_of change) ≡ false → moved_rows change r ≡ Some (r.top, r.bottom)
rows_elsewhere change r l e = rows_placed change r (λ i. i) l (λ i m n. ap (λ (q : Bool). cond q (moved_row change i) (Some i)) e)

on_sheet : (change : RowChange) (s i : ℕ) → (s == sheet_of change) ≡ true → row_on change s i ≡ moved_row change i
on_sheet change s i e = ap (λ (q : Bool). cond q (moved_row change i) (Some i)) e

pub fits : (row count b i : ℕ) → i ≤ b → row ≤ i → (b < row) ⊎ (b + count ≤ LAST_ROW) → i + count ≤ LAST_ROW
fits row count b i n k (inl m) = absurd (omega arith)
fits row count b i n k (inr m) = omega arith

-- an insertion whose last row has a place
pub rows_pushed : (s row count : ℕ) (r : Area) → r.top ≤ r.bottom → (r.sheet == s) ≡ true → (r.bottom < row) ⊎ (r.bottom + count ≤ LAST_ROW) →
    moved_rows (RowChange.Insert s row count) r ≡ Some (cond (nat_lt r.top row) r.top (r.top + count), cond (nat_lt r.bottom row) r.bottom (r.bottom + count))
rows_pushed s row count r l e h = rows_placed (RowChange.Insert s row count) r (λ i. cond (nat_lt i row) i (i + count)) l (λ i m n. on_sheet (RowChange.Insert s row count) r.sheet i e ∙ one i n)
  where
    one : (i : ℕ) → i ≤ r.bottom → moved_row (RowChange.Insert s row count) i ≡ Some (cond (nat_lt i row) i (i + count))
    one i n = ⊎_elim
        (λ (k : i < row). row_stays s row count i k ∙ ap (λ (q : Bool). Some (cond q i (i + count))) (sym (lt-ltb i row k)))
        (λ (k : row ≤ i). row_pushed s row count i k (fits row count r.bottom i n k h) ∙ ap (λ (q : Bool). Some (cond q i (i + count))) (sym (le-ltb i row k)))
        (cases_lt i row)

-- an insertion that pushes the last row past the last one
pub rows_lost : (s row count : ℕ) (r : Area) → r.top ≤ r.bottom → (r.sheet == s) ≡ true → row ≤ r.bottom → LAST_ROW < r.bottom + count → moved_rows (RowChange.Insert s row count) r ≡ None
unfolding moved_rows
rows_lost s row count r l e h k =
    let gone : row_on (RowChange.Insert s row count) r.sheet (r.top + (r.bottom - r.top)) ≡ None = ap (row_on (RowChange.Insert s row count) r.sheet) (end_row r.top r.bottom l) ∙ on_sheet (RowChange.Insert s row count) r.sheet r.bottom e ∙ row_lost s row count r.bottom h k in
    let few : length (filter_map (row_on (RowChange.Insert s row count) r.sheet) (numbers_from r.top (suc (r.bottom - r.top)))) ≤ r.bottom - r.top = less_length (row_on (RowChange.Insert s row count) r.sheet) r.top (r.bottom - r.top) gone in
    let some : length (places (RowChange.Insert s row count) r) < height r = subst (λ (n : ℕ). length (filter_map (row_on (RowChange.Insert s row count) r.sheet) (numbers_from r.top n)) < n) (sym (height_is r l)) (omega (arith, few)) in
    ap (λ (q : Bool). cond q None (ends (places (RowChange.Insert s row count) r))) (lt-ltb (length (places (RowChange.Insert s row count) r)) (height r) some)

-- a deletion
pub rows_left : (s row count : ℕ) (r : Area) → r.top ≤ r.bottom → (r.sheet == s) ≡ true → moved_rows (RowChange.Delete s row count) r ≡ left_rows s row count r.top r.bottom
unfolding moved_rows
rows_left s row count r l e =
    (λ i. ends (filter_map (λ (k : ℕ). cond (e i) (moved_row (RowChange.Delete s row count) k) (Some k)) (numbers_from r.top (height_is r l i))))
    ∙ left_ends s row count r.top (r.bottom - r.top) ∙ ap (left_rows s row count r.top) (end_row r.top r.bottom l)

-- what becomes of the rows of a range

-- rows of a sheet
pub record AreRows (p : ℕ × ℕ) : Type 0 where
  pub from : 1 ≤ p.0
  pub ordered : p.0 ≤ p.1
  pub to : p.1 ≤ LAST_ROW

-- no place for the range, a place for each row one behind the other, or another number of rows
data Outcome (change : RowChange) (r : Area) : Type 0 where
  lost : moved_rows change r ≡ None → Outcome change r
  kept : (p : ℕ × ℕ) → moved_rows change r ≡ Some p → AreRows p → ((i : ℕ) → r.top ≤ i → i ≤ r.bottom → row_on change r.sheet i ≡ Some (p.0 + (i - r.top))) → Outcome change r
  changed : (p : ℕ × ℕ) → moved_rows change r ≡ Some p → AreRows p → (suc p.1 - p.0 ≡ suc r.bottom - r.top → ⊥) → Outcome change r

from_placed : (change : RowChange) (r : Area) (g : ℕ → ℕ) → r.top ≤ r.bottom → ((i : ℕ) → r.top ≤ i → i ≤ r.bottom → row_on change r.sheet i ≡ Some (g i)) → ((i : ℕ) → r.top ≤ i → i ≤ r.bottom → g i ≡ g r.top + (i - r.top)) → 1 ≤ g r.top → g r.bottom ≤ LAST_ROW → Outcome change r
from_placed change r g l h k one last =
    let over : g r.bottom ≡ g r.top + (r.bottom - r.top) = k r.bottom l (omega arith) in
    kept (g r.top, g r.bottom) (rows_placed change r g l h) (record { from = one; ordered = omega (arith, over); to = last }) (λ i m n. h i m n ∙ ap Some (k i m n))

inserted : (s row count : ℕ) (r : Area) → IsArea r → 0 < count → (r.sheet == s) ≡ true → Outcome (RowChange.Insert s row count) r
inserted s row count r a more e = ⊎_elim above (λ (h : row ≤ r.bottom). ⊎_elim (λ (k : LAST_ROW < r.bottom + count). lost (rows_lost s row count r a.top_to e h k)) (λ (k : r.bottom + count ≤ LAST_ROW). ⊎_elim (across h k) (below k) (cases_lt r.top row)) (cases_lt LAST_ROW (r.bottom + count))) (cases_lt r.bottom row)
  where
    on : (i : ℕ) → row_on (RowChange.Insert s row count) r.sheet i ≡ moved_row (RowChange.Insert s row count) i
    on i = on_sheet (RowChange.Insert s row count) r.sheet i e

    above : r.bottom < row → Outcome (RowChange.Insert s row count) r
    above h = from_placed (RowChange.Insert s row count) r (λ i. i) a.top_to (λ i m n. on i ∙ row_stays s row count i (omega (arith, h, n))) (λ i m n. omega (arith, m)) a.top_from a.bottom_to

    below : r.bottom + count ≤ LAST_ROW → row ≤ r.top → Outcome (RowChange.Insert s row count) r
    below k h = from_placed (RowChange.Insert s row count) r (λ i. i + count) a.top_to (λ i m n. on i ∙ row_pushed s row count i (omega (arith, h, m)) (omega (arith, k, n))) (λ i m n. omega (arith, m)) (let one = a.top_from in omega (arith, one)) k

    across : row ≤ r.bottom → r.bottom + count ≤ LAST_ROW → r.top < row → Outcome (RowChange.Insert s row count) r
    across h k l =
        let one = a.top_from in
        let ordered = a.top_to in
        let rows : moved_rows (RowChange.Insert s row count) r ≡ Some (r.top, r.bottom + count) = rows_pushed s row count r a.top_to e (inr k) ∙ (λ i. Some (cond (lt-ltb r.top row l i) r.top (r.top + count), cond (le-ltb r.bottom row h i) r.bottom (r.bottom + count))) in
        changed (r.top, r.bottom + count) rows (record { from = one; ordered = omega (arith, ordered); to = k }) (λ same. absurd (omega (arith, ordered, more, same)))

deleted : (s row count : ℕ) (r : Area) → IsArea r → 1 ≤ row → 0 < count → (r.sheet == s) ≡ true → Outcome (RowChange.Delete s row count) r
deleted s row count r a first more e = ⊎_elim above (λ (h : row ≤ r.bottom). ⊎_elim (λ (k : r.bottom < row + count). ⊎_elim (upper h k) (nothing k) (cases_lt r.top row)) (λ (k : row + count ≤ r.bottom). ⊎_elim (across k) (λ (l : row ≤ r.top). ⊎_elim (lower k l) (below k l) (cases_lt r.top (row + count))) (cases_lt r.top row)) (cases_lt r.bottom (row + count))) (cases_lt r.bottom row)
  where
    on : (i : ℕ) → row_on (RowChange.Delete s row count) r.sheet i ≡ moved_row (RowChange.Delete s row count) i
    on i = on_sheet (RowChange.Delete s row count) r.sheet i e

    last_is : (x : ℕ) → moved_row (RowChange.Delete s row count) r.bottom ≡ Some x → unwrap_or (moved_row (RowChange.Delete s row count) r.bottom) (row - 1) ≡ x
    last_is x h = ap (λ (o : Option ℕ). unwrap_or o (row - 1)) h

    rows_are : (x y : ℕ) → (r.top < row) ⊎ (row + count ≤ r.bottom) → unwrap_or (moved_row (RowChange.Delete s row count) r.top) row ≡ x → unwrap_or (moved_row (RowChange.Delete s row count) r.bottom) (row - 1) ≡ y → moved_rows (RowChange.Delete s row count) r ≡ Some (x, y)
    rows_are x y h p q = rows_left s row count r a.top_to e ∙ left_some s row count r.top r.bottom x y h p q

    above : r.bottom < row → Outcome (RowChange.Delete s row count) r
    above h = from_placed (RowChange.Delete s row count) r (λ i. i) a.top_to (λ i m n. on i ∙ row_above s row count i (omega (arith, h, n))) (λ i m n. omega (arith, m)) a.top_from a.bottom_to

    nothing : r.bottom < row + count → row ≤ r.top → Outcome (RowChange.Delete s row count) r
    nothing k l = lost (rows_left s row count r a.top_to e ∙ left_none s row count r.top r.bottom l k)

    -- the last rows are deleted
    upper : row ≤ r.bottom → r.bottom < row + count → r.top < row → Outcome (RowChange.Delete s row count) r
    upper h k l =
        let one = a.top_from in
        let end = a.bottom_to in
        let rows : moved_rows (RowChange.Delete s row count) r ≡ Some (r.top, row - 1) = rows_are r.top (row - 1) (inl l) (first_is s row count r.top r.top (row_above s row count r.top l)) (ap (λ (o : Option ℕ). unwrap_or o (row - 1)) (row_gone s row count r.bottom h k)) in
        changed (r.top, row - 1) rows (record { from = one; ordered = omega (arith, l); to = omega (arith, h, end) }) (λ same. absurd (omega (arith, h, l, same)))

    -- rows in the middle are deleted
    across : row + count ≤ r.bottom → r.top < row → Outcome (RowChange.Delete s row count) r
    across k l =
        let one = a.top_from in
        let end = a.bottom_to in
        let rows : moved_rows (RowChange.Delete s row count) r ≡ Some (r.top, r.bottom - count) = rows_are r.top (r.bottom - count) (inl l) (first_is s row count r.top r.top (row_above s row count r.top l)) (last_is (r.bottom - count) (row_up s row count r.bottom (omega (arith, k)) k)) in
        changed (r.top, r.bottom - count) rows (record { from = one; ordered = omega (arith, k, l); to = omega (arith, end) }) (λ same. absurd (omega (arith, k, l, more, same)))

    -- the first rows are deleted
    lower : row + count ≤ r.bottom → row ≤ r.top → r.top < row + count → Outcome (RowChange.Delete s row count) r
    lower k l m =
        let end = a.bottom_to in
        let rows : moved_rows (RowChange.Delete s row count) r ≡ Some (row, r.bottom - count) = rows_are row (r.bottom - count) (inr k) (first_gone s row count r.top l m) (last_is (r.bottom - count) (row_up s row count r.bottom (omega (arith, k)) k)) in
        changed (row, r.bottom - count) rows (record { from = first; ordered = omega (arith, k); to = omega (arith, end) }) (λ same. absurd (omega (arith, k, l, m, same)))

    below : row + count ≤ r.bottom → row ≤ r.top → row + count ≤ r.top → Outcome (RowChange.Delete s row count) r
    below k l m = from_placed (RowChange.Delete s row count) r (λ i. i - count) a.top_to (λ i n o. on i ∙ row_up s row count i (omega (arith, l, n)) (omega (arith, m, n))) (λ i n o. omega (arith, m, n)) (omega (arith, first, m)) (let end = a.bottom_to in omega (arith, end))

outcome : (change : RowChange) (r : Area) → IsArea r → IsChange change → Outcome change r
outcome change r a h = go (r.sheet == sheet_of change) refl
  where
    here : (change : RowChange) → IsChange change → (r.sheet == sheet_of change) ≡ true → Outcome change r
    here (RowChange.Insert s row count) h e = inserted s row count r a h.some e
    here (RowChange.Delete s row count) h e = deleted s row count r a h.row_from h.some e

    go : (q : Bool) → (r.sheet == sheet_of change) ≡ q → Outcome change r
    go true e = here change h e
    go false e = from_placed change r (λ i. i) a.top_to (λ i m n. ap (λ (q : Bool). cond q (moved_row change i) (Some i)) e) (λ i m n. omega (arith, m)) a.top_from a.bottom_to

pub rows_within : (change : RowChange) (r : Area) (p : ℕ × ℕ) → IsArea r → IsChange change → moved_rows change r ≡ Some p → AreRows p
rows_within change r p a h e = go (outcome change r a h)
  where
    go : Outcome change r → AreRows p
    go (lost f) = (let never : None ≡ Some p = sym f ∙ e in cc)
    go (kept q f w k) = (let same : q ≡ p = some_same q p (sym f ∙ e) in subst AreRows same w)
    go (changed q f w k) = (let same : q ≡ p = some_same q p (sym f ∙ e) in subst AreRows same w)

-- where the number of rows stays, each row has a place, one behind the other
pub kept_rows : (change : RowChange) (r : Area) (p : ℕ × ℕ) → IsArea r → IsChange change → moved_rows change r ≡ Some p → suc p.1 - p.0 ≡ suc r.bottom - r.top → (i : ℕ) → r.top ≤ i → i ≤ r.bottom → row_on change r.sheet i ≡ Some (p.0 + (i - r.top))
kept_rows change r p a h e high i m n = go (outcome change r a h)
  where
    go : Outcome change r → row_on change r.sheet i ≡ Some (p.0 + (i - r.top))
    go (lost f) = (let never : None ≡ Some p = sym f ∙ e in cc)
    go (kept q f w k) = (let same : q ≡ p = some_same q p (sym f ∙ e) in subst (λ (z : ℕ × ℕ). row_on change r.sheet i ≡ Some (z.0 + (i - r.top))) same (k i m n))
    go (changed q f w k) = (let same : q ≡ p = some_same q p (sym f ∙ e) in absurd (subst (λ (z : ℕ × ℕ). suc z.1 - z.0 ≡ suc r.bottom - r.top → ⊥) same k high))

-- the area

pub record IsMovedArea (change : RowChange) (r n : Area) : Type 0 where
  pub rows : ℕ × ℕ
  pub are : moved_rows change r ≡ Some rows
  pub same : n ≡ in_rows r rows
  pub small : height n * width n ≤ MAX_RANGE_CELLS

pub area_moved : (change : RowChange) (r n : Area) → moved_area change r ≡ Some n → IsMovedArea change r n
unfolding moved_area
area_moved change r n e = go (moved_rows change r) refl e
  where
    by_test : (p : ℕ × ℕ) (q : Bool) → moved_rows change r ≡ Some p → nat_le (height (in_rows r p) * width (in_rows r p)) MAX_RANGE_CELLS ≡ q → cond q (Some (in_rows r p)) None ≡ Some n → IsMovedArea change r n
    by_test p true f t k =
        let same : in_rows r p ≡ n = some_same (in_rows r p) n k in
        record { rows = p; are = f; same = sym same; small = subst (λ (z : Area). height z * width z ≤ MAX_RANGE_CELLS) same (leb-true (height (in_rows r p) * width (in_rows r p)) MAX_RANGE_CELLS t) }
    by_test p false f t k = cc

    go : (o : Option (ℕ × ℕ)) → moved_rows change r ≡ o → option_and_then (λ (rows : ℕ × ℕ). if_small (in_rows r rows)) o ≡ Some n → IsMovedArea change r n
    go (Some p) f k = by_test p (nat_le (height (in_rows r p) * width (in_rows r p)) MAX_RANGE_CELLS) f refl k
    go None f k = cc

pub area_within : (change : RowChange) (r n : Area) → IsArea r → IsChange change → moved_area change r ≡ Some n → IsArea n
area_within change r n a h e =
    let m = area_moved change r n e in
    let w = rows_within change r m.rows a h m.are in
    subst IsArea (sym m.same) (record { top_from = w.from; top_to = w.ordered; bottom_to = w.to; left_from = a.left_from; left_to = a.left_to; right_to = a.right_to })

pub same_width : (change : RowChange) (r n : Area) → moved_area change r ≡ Some n → width n ≡ width r
unfolding width
same_width change r n e = (let m = area_moved change r n e in subst (λ (z : Area). suc z.right - z.left ≡ suc r.right - r.left) (sym m.same) refl)

-- where the number of rows stays, the cells of the area are the places of the range's cells
pub kept_cells : (change : RowChange) (r n : Area) → IsArea r → IsChange change → moved_area change r ≡ Some n → height n ≡ height r → (i j : ℕ) → i < height r → move_cell change (cell_of r i j) ≡ Some (cell_of n i j)
unfolding height
kept_cells change r n a h e high i j l =
    let m = area_moved change r n e in
    let tall : suc m.rows.1 - m.rows.0 ≡ suc r.bottom - r.top = subst (λ (z : Area). suc z.bottom - z.top ≡ suc r.bottom - r.top) m.same high in
    let row : row_on change r.sheet (r.top + i) ≡ Some (m.rows.0 + (r.top + i - r.top)) = kept_rows change r m.rows a h m.are tall (r.top + i) (omega arith) (omega (arith, l)) in
    let back : m.rows.0 + (r.top + i - r.top) ≡ m.rows.0 + i = omega arith in
    let there : move_cell change (cell_of r i j) ≡ Some (cell_of (in_rows r m.rows) i j) = ap (option_map (in_row (cell_of r i j))) (row ∙ ap Some back) in
    subst (λ (z : Area). move_cell change (cell_of r i j) ≡ Some (cell_of z i j)) (sym m.same) there
