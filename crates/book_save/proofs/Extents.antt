-- How far the cells of a sheet reach.
use Rattle.std.proofs.Common.{◌≡◌, ℕ, ◌<◌, ◌≤◌, ◌==◌, Bool, true, false, cond, max, fold, [], ◌∷◌, Option, Some, None, refl, sym, ap, subst, ◌∙◌, arith}
use Rattle.cell_values.specs.declared.TheConstants.{LAST_COLUMN, LAST_ROW}
use Rattle.cell_values.specs.declared.address.Addr.{Addr}
use Rattle.cell_values.specs.Addresses.{same_addr, IsOnSheet}
use Rattle.cell_values.specs.Order.{entry_at}
use Rattle.cell_values.proofs.Order.{same_addr-refl, same_addr-true}
use Rattle.demand_spec.specs.Book.{Content}
use Rattle.demand_spec.specs.Edits.{Cells}
use Rattle.demand_spec.specs.Sheets.{last_column, last_row}
use Rattle.workbook_core.specs.Books.{extent_in, IsWorkbook, SharedBook}

-- the greatest number of a sheet's cells, behind a first number
abbrev greater : (Addr → ℕ) → ℕ → ℕ → Addr × Content → ℕ
greater f sheet n c = cond (c.0.sheet == sheet) (max n (f c.0)) n

abbrev greatest : (Addr → ℕ) → ℕ → ℕ → Cells → ℕ
greatest f sheet n cells = fold (greater f sheet) n cells

least_step : (f : Addr → ℕ) (sheet n : ℕ) (x : Addr × Content) → n ≤ greater f sheet n x
least_step f sheet n x = go (x.0.sheet == sheet)
  where
    go : (t : Bool) → n ≤ cond t (max n (f x.0)) n
    go true = omega arith
    go false = omega arith

least : (f : Addr → ℕ) (sheet n : ℕ) (cells : Cells) → n ≤ greatest f sheet n cells
least f sheet n [] = omega arith
least f sheet n (x ∷ cells) = (let a = least_step f sheet n x in let b = least f sheet (greater f sheet n x) cells in omega (arith, a, b))

same_number : (m n : ℕ) → m ≡ n → (m == n) ≡ true
same_number m n e = grind (arith, e)

-- each cell of the sheet is counted
counted : (f : Addr → ℕ) (sheet n : ℕ) (cells : Cells) (a : Addr) (c : Content) → a.sheet ≡ sheet → entry_at cells a ≡ Some c → f a ≤ greatest f sheet n cells
counted f sheet n [] a c s e = cc
counted f sheet n (x ∷ cells) a c s e = go (same_addr a x.0) refl e (counted f sheet (greater f sheet n x) cells a c s)
  where
    first : a ≡ x.0 → f a ≤ greater f sheet n x
    first is =
        let on : (x.0.sheet == sheet) ≡ true = same_number x.0.sheet sheet (sym (ap (λ (z : Addr). z.sheet) is) ∙ s) in
        let low : f x.0 ≤ max n (f x.0) = omega arith in
        subst (λ t. f a ≤ cond t (max n (f x.0)) n) (sym on) (subst (λ z. f z ≤ max n (f x.0)) (sym is) low)

    go : (t : Bool) → same_addr a x.0 ≡ t → cond t (Some x.1) (entry_at cells a) ≡ Some c → (entry_at cells a ≡ Some c → f a ≤ greatest f sheet (greater f sheet n x) cells) → f a ≤ greatest f sheet (greater f sheet n x) cells
    go true p k rest = (let h = first (same_addr-true a x.0 p) in let l = least f sheet (greater f sheet n x) cells in omega (arith, h, l))
    go false p k rest = rest k

pub row_counted : (sheet : ℕ) (cells : Cells) (a : Addr) (c : Content) → a.sheet ≡ sheet → entry_at cells a ≡ Some c → a.row ≤ last_row sheet cells
row_counted sheet cells a c s e = counted (λ z. z.row) sheet 0 cells a c s e

pub column_counted : (sheet : ℕ) (cells : Cells) (a : Addr) (c : Content) → a.sheet ≡ sheet → entry_at cells a ≡ Some c → a.col ≤ last_column sheet cells
column_counted sheet cells a c s e = counted (λ z. z.col) sheet 0 cells a c s e

-- what holds of all cells holds of the first one, and of the others

first_cell : (x : Addr × Content) (cells : Cells) → entry_at (x ∷ cells) x.0 ≡ Some x.1
first_cell x cells = ap (λ t. cond t (Some x.1) (entry_at cells x.0)) (same_addr-refl x.0)

-- a cell of the others has a content in the whole
other_cell : (x : Addr × Content) (cells : Cells) (a : Addr) (c : Content) → entry_at cells a ≡ Some c → (d : Content) × (entry_at (x ∷ cells) a ≡ Some d)
other_cell x cells a c h = go (same_addr a x.0)
  where
    go : (t : Bool) → (d : Content) × (cond t (Some x.1) (entry_at cells a) ≡ Some d)
    go true = (x.1, refl)
    go false = (c, h)

-- all cells lie on a sheet
abbrev AreOnSheets : Cells → Type 0
AreOnSheets cells = (a : Addr) (c : Content) → entry_at cells a ≡ Some c → IsOnSheet a

others : (x : Addr × Content) (cells : Cells) → AreOnSheets (x ∷ cells) → AreOnSheets cells
others x cells h = λ a c e. (let d = other_cell x cells a c e in h a d.0 d.1)

-- no cell lies further than a number that none exceeds
most : (f : Addr → ℕ) (sheet n r : ℕ) (cells : Cells) → AreOnSheets cells → ((a : Addr) → IsOnSheet a → f a ≤ r) → n ≤ r → greatest f sheet n cells ≤ r
most f sheet n r [] h k l = l
most f sheet n r (x ∷ cells) h k l = most f sheet (greater f sheet n x) r cells (others x cells h) k (go (x.0.sheet == sheet) (k x.0 (h x.0 x.1 (first_cell x cells))))
  where
    go : (t : Bool) → f x.0 ≤ r → cond t (max n (f x.0)) n ≤ r
    go true m = omega (arith, l, m)
    go false m = l

wide : (sheet n m : ℕ) (cells : Cells) → AreOnSheets cells → (0 < n → 0 < m) → 0 < greatest (λ a. a.row) sheet n cells → 0 < greatest (λ a. a.col) sheet m cells
wide sheet n m [] h k low = k low
wide sheet n m (x ∷ cells) h k low =
    wide sheet (greater (λ a. a.row) sheet n x) (greater (λ a. a.col) sheet m x) cells (others x cells h) (go (x.0.sheet == sheet) (h x.0 x.1 (first_cell x cells)).col_from) low
  where
    go : (t : Bool) → 1 ≤ x.0.col → 0 < cond t (max n x.0.row) n → 0 < cond t (max m x.0.col) m
    go true c p = omega arith
    go false c p = k p

on_sheets : (w : SharedBook) → IsWorkbook w → AreOnSheets w.book.cells
on_sheets w h = λ a c e. (h.cells a c e).on_sheet

pub rows_within : (w : SharedBook) (sheet : ℕ) → IsWorkbook w → last_row sheet w.book.cells ≤ LAST_ROW
rows_within w sheet h = most (λ a. a.row) sheet 0 LAST_ROW w.book.cells (on_sheets w h) (λ a on. on.row_to) (omega arith)

pub columns_within : (w : SharedBook) (sheet : ℕ) → IsWorkbook w → last_column sheet w.book.cells ≤ LAST_COLUMN
columns_within w sheet h = most (λ a. a.col) sheet 0 LAST_COLUMN w.book.cells (on_sheets w h) (λ a on. on.col_to) (omega arith)

-- a sheet with a row has a column
pub is_wide : (w : SharedBook) (sheet : ℕ) → IsWorkbook w → 0 < last_row sheet w.book.cells → 0 < last_column sheet w.book.cells
is_wide w sheet h low = wide sheet 0 0 w.book.cells (on_sheets w h) (λ z. z) low

-- ---- the extent

abbrev rows_of : Option (ℕ × ℕ) → ℕ
rows_of None = 0
rows_of (Some p) = p.0

abbrev columns_of : Option (ℕ × ℕ) → ℕ
columns_of None = 0
columns_of (Some p) = p.1

no_last : (last : ℕ × ℕ) → Some last ≡ None → ⊥
no_last last e = cc

pub record IsLast (last : ℕ × ℕ) (sheet : ℕ) (cells : Cells) : Type 0 where
  pub rows_are : last.0 ≡ last_row sheet cells
  pub columns_are : last.1 ≡ last_column sheet cells
  pub some : 0 < last_row sheet cells

abbrev both_last : ℕ → Cells → ℕ × ℕ
both_last sheet cells = (last_row sheet cells, last_column sheet cells)

pub extent_some : (last : ℕ × ℕ) (sheet : ℕ) (cells : Cells) → Some last ≡ extent_in sheet cells → IsLast last sheet cells
extent_some last sheet cells e = go (last_row sheet cells == 0) refl e
  where
    go : (t : Bool) → (last_row sheet cells == 0) ≡ t → Some last ≡ cond t None (Some (both_last sheet cells)) → IsLast last sheet cells
    go true p q = absurd (no_last last q)
    go false p q = record { rows_are = ap (λ o. rows_of o) q; columns_are = ap (λ o. columns_of o) q; some = grind (arith, p) }

pub last_wide : (w : SharedBook) (sheet : ℕ) (last : ℕ × ℕ) → IsWorkbook w → IsLast last sheet w.book.cells → 0 < last.1
last_wide w sheet last h l = subst (λ n. 0 < n) (sym l.columns_are) (is_wide w sheet h l.some)

abbrev extent_by : Bool → ℕ × ℕ → Option (ℕ × ℕ)
extent_by t last = cond t None (Some last)

pub extent_none : (sheet : ℕ) (cells : Cells) → None ≡ extent_in sheet cells → last_row sheet cells ≡ 0
extent_none sheet cells e = go (last_row sheet cells == 0) refl (sym e)
  where
    go : (t : Bool) → (last_row sheet cells == 0) ≡ t → extent_by t (both_last sheet cells) ≡ None → last_row sheet cells ≡ 0
    go true p q = grind (arith, p)
    go false p q = absurd (no_last (both_last sheet cells) q)
