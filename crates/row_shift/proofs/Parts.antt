-- The places of cells, and what references and ranges name at a formula's place.
use Rattle.std.proofs.Common.{◌≡◌, ℕ, ◌+◌, ◌-◌, ◌<◌, ◌≤◌, min, max, ℤ, pos, negsuc, Bool, true, false, cond, ◌&&◌, ◌==◌, ◌⊎◌, inl, inr, ⊎_elim, Option, Some, None, refl, sym, ap, ◌∙◌, subst, arith}
use Rattle.std.specs.Prelude.{nat_le, unwrap_or, option_map, IfSome}
use Rattle.std.proofs.lemmas.Bool.{cases_lt, and_from, le-leb, leb-true}
use Rattle.std.proofs.lemmas.Int.{ints}
use Rattle.cell_values.specs.declared.TheConstants.{LAST_ROW, LAST_COLUMN}
use Rattle.cell_values.specs.declared.address.Addr.{Addr}
use Rattle.cell_values.specs.declared.address.Area.{Area}
use Rattle.cell_values.specs.Addresses.{IsBefore, IsOnSheet}
use Rattle.cell_values.specs.Areas.{between_cells, IsArea}
use Rattle.formula_trees.specs.declared.tree.Part.{Part}
use Rattle.formula_trees.specs.declared.tree.Reference.{Reference}
use Rattle.formula_trees.specs.References.{part_at, up_to, cell_at, resolve, area_between, area_of}
use Rattle.row_shift.specs.declared.change.RowChange.{RowChange}
use Rattle.row_shift.specs.Moves.{IsChange, sheet_of, row_of, moved_row, row_on, in_row, move_cell, in_rows, moved_area, part_for, to_row}
use Rattle.row_shift.proofs.Ranges.{some_same, row_stays, row_pushed, row_lost, row_above, row_gone, row_up, area_moved, area_within}

-- the place of a row of the changed sheet: it stays, or goes down or up

pub went_down : (s row count i n : ℕ) → moved_row (RowChange.Insert s row count) i ≡ Some n → ((i < row) × (n ≡ i)) ⊎ ((row ≤ i) × (n ≡ i + count) × (n ≤ LAST_ROW))
went_down s row count i n e = ⊎_elim
    (λ (h : i < row). inl (h, some_same n i (sym e ∙ row_stays s row count i h)))
    (λ (h : row ≤ i). ⊎_elim
    (λ (k : LAST_ROW < i + count). let never : Some n ≡ None = sym e ∙ row_lost s row count i h k in cc)
    (λ (k : i + count ≤ LAST_ROW). let same : n ≡ i + count = some_same n (i + count) (sym e ∙ row_pushed s row count i h k) in inr (h, same, subst (λ (z : ℕ). z ≤ LAST_ROW) (sym same) k))
    (cases_lt LAST_ROW (i + count)))
    (cases_lt i row)

pub went_up : (s row count i n : ℕ) → moved_row (RowChange.Delete s row count) i ≡ Some n → ((i < row) × (n ≡ i)) ⊎ ((row + count ≤ i) × (n ≡ i - count))
went_up s row count i n e = ⊎_elim
    (λ (h : i < row). inl (h, some_same n i (sym e ∙ row_above s row count i h)))
    (λ (h : row ≤ i). ⊎_elim
    (λ (k : i < row + count). let never : Some n ≡ None = sym e ∙ row_gone s row count i h k in cc)
    (λ (k : row + count ≤ i). inr (k, some_same n (i - count) (sym e ∙ row_up s row count i h k)))
    (cases_lt i (row + count)))
    (cases_lt i row)

row_within : (change : RowChange) (i n : ℕ) → 1 ≤ row_of change → 1 ≤ i → i ≤ LAST_ROW → moved_row change i ≡ Some n → (1 ≤ n) × (n ≤ LAST_ROW)
row_within (RowChange.Insert s row count) i n f h k e = go (went_down s row count i n e)
  where
    go : ((i < row) × (n ≡ i)) ⊎ ((row ≤ i) × (n ≡ i + count) × (n ≤ LAST_ROW)) → (1 ≤ n) × (n ≤ LAST_ROW)
    go (inl m) = (let same = m.1 in (omega (arith, same), omega (arith, same)))
    go (inr m) = (let same = m.1 in let end = m.2 in (omega (arith, same), end))
row_within (RowChange.Delete s row count) i n f h k e = go (went_up s row count i n e)
  where
    go : ((i < row) × (n ≡ i)) ⊎ ((row + count ≤ i) × (n ≡ i - count)) → (1 ≤ n) × (n ≤ LAST_ROW)
    go (inl m) = (let same = m.1 in (omega (arith, same), omega (arith, same)))
    go (inr m) = (let past = m.0 in let same = m.1 in (omega (arith, past, same, f), omega (arith, past, same)))

-- places keep the order of rows
row_order : (change : RowChange) (i j n m : ℕ) → moved_row change i ≡ Some n → moved_row change j ≡ Some m → i < j → n < m
row_order (RowChange.Insert s row count) i j n m e f l = go (went_down s row count i n e) (went_down s row count j m f)
  where
    go : ((i < row) × (n ≡ i)) ⊎ ((row ≤ i) × (n ≡ i + count) × (n ≤ LAST_ROW)) → ((j < row) × (m ≡ j)) ⊎ ((row ≤ j) × (m ≡ j + count) × (m ≤ LAST_ROW)) → n < m
    go (inl p) (inl q) = (let a = p.1 in let b = q.1 in omega (arith, a, b))
    go (inl p) (inr q) = (let a = p.1 in let b = q.1 in omega (arith, a, b))
    go (inr p) (inl q) = (let a = p.0 in let b = q.0 in absurd (omega (arith, a, b)))
    go (inr p) (inr q) = (let a = p.1 in let b = q.1 in omega (arith, a, b))
row_order (RowChange.Delete s row count) i j n m e f l = go (went_up s row count i n e) (went_up s row count j m f)
  where
    go : ((i < row) × (n ≡ i)) ⊎ ((row + count ≤ i) × (n ≡ i - count)) → ((j < row) × (m ≡ j)) ⊎ ((row + count ≤ j) × (m ≡ j - count)) → n < m
    go (inl p) (inl q) = (let a = p.1 in let b = q.1 in omega (arith, a, b))
    go (inl p) (inr q) = (let a = p.0 in let b = p.1 in let c = q.0 in let d = q.1 in omega (arith, a, b, c, d))
    go (inr p) (inl q) = (let a = p.0 in let b = q.0 in absurd (omega (arith, a, b)))
    go (inr p) (inr q) = (let a = p.0 in let b = p.1 in let c = q.0 in let d = q.1 in omega (arith, a, b, c, d))

-- the same on any sheet

row_on_within : (change : RowChange) (s i n : ℕ) → 1 ≤ row_of change → 1 ≤ i → i ≤ LAST_ROW → row_on change s i ≡ Some n → (1 ≤ n) × (n ≤ LAST_ROW)
row_on_within change s i n f h k e = go (s == sheet_of change) e
  where
    go : (q : Bool) → cond q (moved_row change i) (Some i) ≡ Some n → (1 ≤ n) × (n ≤ LAST_ROW)
    go true e = row_within change i n f h k e
    go false e = (let same : i ≡ n = some_same i n e in (omega (arith, same), omega (arith, same)))

row_on_order : (change : RowChange) (s i j n m : ℕ) → row_on change s i ≡ Some n → row_on change s j ≡ Some m → i < j → n < m
row_on_order change s i j n m e f l = go (s == sheet_of change) e f
  where
    go : (q : Bool) → cond q (moved_row change i) (Some i) ≡ Some n → cond q (moved_row change j) (Some j) ≡ Some m → n < m
    go true e f = row_order change i j n m e f l
    go false e f = (let a : i ≡ n = some_same i n e in let b : j ≡ m = some_same j m f in omega (arith, a, b))

-- the place of a cell

pub record IsPlaceOf (change : RowChange) (a x : Addr) : Type 0 where
  pub row : row_on change a.sheet a.row ≡ Some x.row
  pub same : in_row a x.row ≡ x

pub place_of_cell : (change : RowChange) (a x : Addr) → move_cell change a ≡ Some x → IsPlaceOf change a x
place_of_cell change a x e = go (row_on change a.sheet a.row) refl e
  where
    go : (o : Option ℕ) → row_on change a.sheet a.row ≡ o → option_map (in_row a) o ≡ Some x → IsPlaceOf change a x
    go (Some n) f k =
        let same : in_row a n ≡ x = some_same (in_row a n) x k in
        let row : n ≡ x.row = ap (λ (z : Addr). z.row) same in
        record { row = f ∙ ap Some row; same = ap (in_row a) (sym row) ∙ same }
    go None f k = cc

pub same_sheet : (change : RowChange) (a x : Addr) → move_cell change a ≡ Some x → x.sheet ≡ a.sheet
same_sheet change a x e = ap (λ (z : Addr). z.sheet) (sym (place_of_cell change a x e).same)

pub same_column : (change : RowChange) (a x : Addr) → move_cell change a ≡ Some x → x.col ≡ a.col
same_column change a x e = ap (λ (z : Addr). z.col) (sym (place_of_cell change a x e).same)

pub place_within : (change : RowChange) (a x : Addr) → 1 ≤ row_of change → IsOnSheet a → move_cell change a ≡ Some x → IsOnSheet x
place_within change a x f h e =
    let p = place_of_cell change a x e in
    let w = row_on_within change a.sheet a.row x.row f h.row_from h.row_to p.row in
    subst IsOnSheet p.same (record { row_from = w.0; row_to = w.1; col_from = h.col_from; col_to = h.col_to })

-- what a call gives as a place
pub place_to : (change : RowChange) (a : Addr) (o : Option Addr) → IsChange change → IsOnSheet a → o ≡ move_cell change a → IfSome o (λ x. x.row ≤ LAST_ROW)
place_to change a (Some x) f h e = (place_within change a x f.row_from h (sym e)).row_to
place_to change a None f h e = tt

pub place_row : (change : RowChange) (a x : Addr) → IsChange change → IsOnSheet a → move_cell change a ≡ Some x → x.row ≤ LAST_ROW
place_row change a x ok h e = (place_within change a x ok.row_from h e).row_to

-- two cells have two places
pub place_back : (change : RowChange) (a c x : Addr) → move_cell change a ≡ Some x → move_cell change c ≡ Some x → a ≡ c
place_back change a c x e f =
    let p = place_of_cell change a x e in
    let q = place_of_cell change c x f in
    let sheet : a.sheet ≡ c.sheet = sym (same_sheet change a x e) ∙ same_sheet change c x f in
    let col : a.col ≡ c.col = sym (same_column change a x e) ∙ same_column change c x f in
    let row : a.row ≡ c.row = rows p.row (subst (λ (s : ℕ). row_on change s c.row ≡ Some x.row) (sym sheet) q.row) in
    λ i. record { sheet = sheet i; row = row i; col = col i }
  where
    rows : row_on change a.sheet a.row ≡ Some x.row → row_on change a.sheet c.row ≡ Some x.row → a.row ≡ c.row
    rows k l = ⊎_elim
        (λ (m : a.row < c.row). let never : x.row < x.row = row_on_order change a.sheet a.row c.row x.row x.row k l m in absurd (omega arith))
        (λ (m : c.row ≤ a.row). ⊎_elim
        (λ (n : c.row < a.row). let never : x.row < x.row = row_on_order change a.sheet c.row a.row x.row x.row l k n in absurd (omega arith))
        (λ (n : a.row ≤ c.row). omega arith)
        (cases_lt c.row a.row))
        (cases_lt a.row c.row)

-- places keep the order of cells
pub place_before : (change : RowChange) (a c x y : Addr) → move_cell change a ≡ Some x → move_cell change c ≡ Some y → IsBefore a c → IsBefore x y
place_before change a c x y e f h = go h
  where
    sx : x.sheet ≡ a.sheet
    sx = same_sheet change a x e

    sy : y.sheet ≡ c.sheet
    sy = same_sheet change c y f

    cx : x.col ≡ a.col
    cx = same_column change a x e

    cy : y.col ≡ c.col
    cy = same_column change c y f

    on_one : a.sheet ≡ c.sheet → row_on change a.sheet c.row ≡ Some y.row
    on_one s = subst (λ (z : ℕ). row_on change z c.row ≡ Some y.row) (sym s) (place_of_cell change c y f).row

    go : IsBefore a c → IsBefore x y
    go (inl l) = inl (omega (arith, sx, sy))
    go (inr (s, inl l)) = inr (sx ∙ s ∙ sym sy, inl (row_on_order change a.sheet a.row c.row x.row y.row (place_of_cell change a x e).row (on_one s) l))
    go (inr (s, inr (r, l))) = inr (sx ∙ s ∙ sym sy, inr (some_same x.row y.row (sym (place_of_cell change a x e).row ∙ ap (row_on change a.sheet) r ∙ on_one s), omega (arith, cx, cy)))

-- what references name

up_to_some : (most n : ℕ) → 1 ≤ n → n ≤ most → up_to most (pos n) ≡ Some n
up_to_some most n h k = ap (λ (q : Bool). cond q (Some n) None) (and_from (nat_le 1 n) (nat_le n most) (le-leb 1 n h) (le-leb n most k))

up_to_within : (most : ℕ) (z : ℤ) (n : ℕ) → up_to most z ≡ Some n → (1 ≤ n) × (n ≤ most)
up_to_within most (pos m) n e = go (nat_le 1 m) (nat_le m most) refl refl e
  where
    go : (a b : Bool) → nat_le 1 m ≡ a → nat_le m most ≡ b → cond (a && b) (Some m) None ≡ Some n → (1 ≤ n) × (n ≤ most)
    go true true p q k = (let same : m ≡ n = some_same m n k in (subst (λ (z : ℕ). 1 ≤ z) same (leb-true 1 m p), subst (λ (z : ℕ). z ≤ most) same (leb-true m most q)))
    go true false p q k = cc
    go false b p q k = cc
up_to_within most (negsuc m) n e = cc

part_is : (own row : ℕ) (p : Part) → part_at own (part_for own row p) ≡ pos row
part_is own row (Part.At n) = refl
part_is own row (Part.By d) = omega (arith, ints)

named_within : (s : ℕ) (row col : ℤ) (a : Addr) → cell_at s (up_to LAST_ROW row) (up_to LAST_COLUMN col) ≡ Some a → IsOnSheet a
named_within s row col a e = go (up_to LAST_ROW row) (up_to LAST_COLUMN col) refl refl e
  where
    go : (o p : Option ℕ) → up_to LAST_ROW row ≡ o → up_to LAST_COLUMN col ≡ p → cell_at s o p ≡ Some a → IsOnSheet a
    go (Some x) (Some y) f g k =
        let w = up_to_within LAST_ROW row x f in
        let v = up_to_within LAST_COLUMN col y g in
        subst IsOnSheet (some_same {A = Addr} (record { sheet = s; row = x; col = y }) a k) (record { row_from = w.0; row_to = w.1; col_from = v.0; col_to = v.1 })
    go (Some x) None f g k = cc
    go None (Some y) f g k = cc
    go None None f g k = cc

pub resolved_within : (at : Addr) (r : Reference) (a : Addr) → resolve at r ≡ Some a → IsOnSheet a
unfolding resolve
resolved_within at r a e = named_within (unwrap_or r.sheet at.sheet) (part_at at.row r.row) (part_at at.col r.col) a e

-- a reference to another row names the cell there
pub resolved_there : (at to : Addr) (r : Reference) (a : Addr) (row : ℕ) → to.sheet ≡ at.sheet → to.col ≡ at.col → resolve at r ≡ Some a → 1 ≤ row → row ≤ LAST_ROW → resolve to (to_row to.row r row) ≡ Some (in_row a row)
unfolding resolve
resolved_there at to r a row s c e h k = go (up_to LAST_ROW (part_at at.row r.row)) (up_to LAST_COLUMN (part_at at.col r.col)) refl e
  where
    rows : up_to LAST_ROW (part_at to.row (part_for to.row row r.row)) ≡ Some row
    rows = ap (up_to LAST_ROW) (part_is to.row row r.row) ∙ up_to_some LAST_ROW row h k

    go : (o p : Option ℕ) → up_to LAST_COLUMN (part_at at.col r.col) ≡ p → cell_at (unwrap_or r.sheet at.sheet) o p ≡ Some a →
        cell_at (unwrap_or r.sheet to.sheet) (up_to LAST_ROW (part_at to.row (part_for to.row row r.row))) (up_to LAST_COLUMN (part_at to.col r.col)) ≡ Some (in_row a row)
    go (Some x) (Some y) f g =
        let cols : up_to LAST_COLUMN (part_at to.col r.col) ≡ Some y = ap (λ (z : ℕ). up_to LAST_COLUMN (part_at z r.col)) c ∙ f in
        let same = some_same {A = Addr} (record { sheet = unwrap_or r.sheet at.sheet; row = x; col = y }) a g in
        (λ i. cell_at (unwrap_or r.sheet (s i)) (rows i) (cols i)) ∙ ap (λ (z : Addr). Some (in_row z row)) same
    go (Some x) None f g = cc
    go None (Some y) f g = cc
    go None None f g = cc

-- a range between two cells names an area of a sheet
pub between_area : (a b : Addr) → IsOnSheet a → IsOnSheet b → IsArea (between_cells a b)
between_area a b h k = record {
  top_from = (let x = h.row_from in let y = k.row_from in omega (arith, x, y));
  top_to = omega arith;
  bottom_to = (let x = h.row_to in let y = k.row_to in omega (arith, x, y));
  left_from = (let x = h.col_from in let y = k.col_from in omega (arith, x, y));
  left_to = omega arith;
  right_to = (let x = h.col_to in let y = k.col_to in omega (arith, x, y));
}

-- corners in two other rows, the upper one for the upper one
between_rows : (a b : Addr) (top bottom : ℕ) (down : Bool) → top ≤ bottom → between_cells (in_row a (cond down top bottom)) (in_row b (cond down bottom top)) ≡ in_rows (between_cells a b) (top, bottom)
between_rows a b top bottom true h = (let low : min top bottom ≡ top = omega arith in let high : max top bottom ≡ bottom = omega arith in λ i. record { sheet = a.sheet; top = low i; left = min a.col b.col; bottom = high i; right = max a.col b.col })
between_rows a b top bottom false h = (let low : min bottom top ≡ top = omega arith in let high : max bottom top ≡ bottom = omega arith in λ i. record { sheet = a.sheet; top = low i; left = min a.col b.col; bottom = high i; right = max a.col b.col })

row_of_both : (down : Bool) (x y : ℕ) → 1 ≤ x → 1 ≤ y → x ≤ LAST_ROW → y ≤ LAST_ROW → (1 ≤ cond down x y) × (cond down x y ≤ LAST_ROW)
row_of_both true x y h k l m = (h, l)
row_of_both false x y h k l m = (k, m)

-- a range with its corners in the rows of what became of its area names just that
pub area_there : (change : RowChange) (at to : Addr) (r s : Reference) (a b : Addr) (n : Area) (down : Bool) → IsChange change → to.sheet ≡ at.sheet → to.col ≡ at.col → resolve at r ≡ Some a → resolve at s ≡ Some b → moved_area change (between_cells a b) ≡ Some n →
    area_of to (to_row to.row r (cond down n.top n.bottom)) (to_row to.row s (cond down n.bottom n.top)) ≡ Some n
area_there change at to r s a b n down h sheet col e f g =
    let whole = between_area a b (resolved_within at r a e) (resolved_within at s b f) in
    let w = area_within change (between_cells a b) n whole h g in
    let last : 1 ≤ n.bottom = (let x = w.top_from in let y = w.top_to in omega (arith, x, y)) in
    let first : n.top ≤ LAST_ROW = (let x = w.top_to in let y = w.bottom_to in omega (arith, x, y)) in
    let one = row_of_both down n.top n.bottom w.top_from last first w.bottom_to in
    let other = row_of_both down n.bottom n.top last w.top_from w.bottom_to first in
    let m = area_moved change (between_cells a b) n g in
    let columns : in_rows (between_cells a b) (n.top, n.bottom) ≡ n = subst (λ (z : Area). in_rows (between_cells a b) (z.top, z.bottom) ≡ z) (sym m.same) refl in
    (λ i. area_between (resolved_there at to r a (cond down n.top n.bottom) sheet col e one.0 one.1 i) (resolved_there at to s b (cond down n.bottom n.top) sheet col f other.0 other.1 i))
    ∙ ap Some (between_rows a b n.top n.bottom down w.top_to ∙ columns)
