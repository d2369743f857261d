-- The next cell and the last row and column, as the list of the cells has them.
use Rattle.std.proofs.Common.{◌≡◌, ℕ, ◌≤◌, Bool, true, false, cond, inl, inr, [], ◌∷◌, max, Option, Some, None, IfSome, IfNone, refl, sym, ap, subst, ◌∙◌, arith}
use Rattle.std.specs.Prelude.{◌==◌, fold}
use Rattle.cell_values.specs.declared.address.Addr.{Addr}
use Rattle.cell_values.specs.Addresses.{same_addr, IsBefore, IsOnSheet}
use Rattle.cell_values.specs.Order.{InOrder, addresses, entry_at}
use Rattle.cell_values.proofs.Order.{same_addr-true, same_addr-refl}
use Rattle.demand_spec.specs.Book.{Content}
use Rattle.demand_spec.specs.Edits.{Cells, is_before}
use Rattle.demand_spec.specs.Sheets.{last_row, last_column}
use Rattle.demand_spec.proofs.OneList.{before_found}
use Rattle.workbook_core.specs.Books.{LiesAfter, lies_after, next_in, extent_in, IsNextCell, IsLastCell, IsExtent, IsEmptySheet}

before_true : (a b : Addr) → is_before a b ≡ true → IsBefore a b
before_true a b h = grind (arith, h)

true_before : (a b : Addr) → IsBefore a b → is_before a b ≡ true
true_before a b (inl h) = grind (arith, h)
true_before a b (inr (e, inl h)) = grind (arith, e, h)
true_before a b (inr (e, inr (f, h))) = grind (arith, e, f, h)

after_true : (o : Option Addr) (a : Addr) → lies_after o a ≡ true → LiesAfter o a
after_true None a h = tt
after_true (Some b) a h = before_true b a h

true_after : (o : Option Addr) (a : Addr) → LiesAfter o a → lies_after o a ≡ true
true_after None a h = refl
true_after (Some b) a h = true_before b a h

-- what stands at the first address, and behind it

here : (e : Addr × Content) (es : Cells) → entry_at (e ∷ es) e.0 ≡ Some e.1
here e es = ap (λ t. cond t (Some e.1) (entry_at es e.0)) (same_addr-refl e.0)

-- what stands in the rest has a content in the whole
some_content : (e : Addr × Content) (es : Cells) (a : Addr) (c : Content) → entry_at es a ≡ Some c → (d : Content) × (entry_at (e ∷ es) a ≡ Some d)
some_content e es a c h = go (same_addr a e.0)
  where
    go : (t : Bool) → (d : Content) × (cond t (Some e.1) (entry_at es a) ≡ Some d)
    go true = (e.1, refl)
    go false = (c, h)

next_some : (cells : Cells) → InOrder (addresses cells) → (after : Option Addr) (next : Addr) → IsNextCell cells after next → Some next ≡ next_in cells after
next_some [] order after next h = (let e = h.cell.1 in cc)
next_some (x ∷ cells) order after next h = go (lies_after after x.0) refl (same_addr next x.0) refl (λ q. next_some cells order.1 after next (later q))
  where
    found : same_addr next x.0 ≡ false → entry_at cells next ≡ Some h.cell.0
    found p = ap (λ t. cond t (Some x.1) (entry_at cells next)) (sym p) ∙ h.cell.1

    later : same_addr next x.0 ≡ false → IsNextCell cells after next
    later p = record {
      cell = (h.cell.0, found p);
      behind = h.behind;
      least = λ a c e. h.least a (some_content x cells a c e).0 (some_content x cells a c e).1;
    }

    go : (t : Bool) → lies_after after x.0 ≡ t → (u : Bool) → same_addr next x.0 ≡ u → (same_addr next x.0 ≡ false → Some next ≡ next_in cells after) → Some next ≡ cond t (Some x.0) (next_in cells after)
    go true p true q rest = ap Some (same_addr-true next x.0 q)
    go true p false q rest = absurd (h.least x.0 x.1 (here x cells) (after_true after x.0 p) (before_found x.0 cells next h.cell.0 order.0 (found q)))
    go false p true q rest = (let m : lies_after after x.0 ≡ true = subst (λ z. lies_after after z ≡ true) (same_addr-true next x.0 q) (true_after after next h.behind) in absurd (let k : true ≡ false = sym m ∙ p in cc))
    go false p false q rest = rest q

next_none : (cells : Cells) (after : Option Addr) → ((a : Addr) (c : Content) → entry_at cells a ≡ Some c → LiesAfter after a → ⊥) → None ≡ next_in cells after
next_none [] after h = refl
next_none (x ∷ cells) after h = go (lies_after after x.0) refl (next_none cells after (λ a c e. h a (some_content x cells a c e).0 (some_content x cells a c e).1))
  where
    go : (t : Bool) → lies_after after x.0 ≡ t → None ≡ next_in cells after → None ≡ cond t (Some x.0) (next_in cells after)
    go true p rest = absurd (h x.0 x.1 (here x cells) (after_true after x.0 p))
    go false p rest = rest

pub next_is_first : (cells : Cells) → InOrder (addresses cells) → (after : Option Addr) (r : Option Addr) → IfSome r (IsNextCell cells after) → IfNone r (IsLastCell cells after) → r ≡ next_in cells after
next_is_first cells order after (Some next) h k = next_some cells order after next h
next_is_first cells order after None h k = next_none cells after (λ a c e l. let n : None ≡ Some c = sym (k a l) ∙ e in cc)

-- the greatest number of a sheet's cells

abbrev greater_in : (Addr → ℕ) → ℕ → ℕ → Addr × Content → ℕ
greater_in f sheet n c = cond (c.0.sheet == sheet) (max n (f c.0)) n

abbrev greatest : (Addr → ℕ) → ℕ → ℕ → Cells → ℕ
greatest f sheet n cells = fold (greater_in f sheet) n cells

step_least : (f : Addr → ℕ) (sheet n : ℕ) (x : Addr × Content) → n ≤ greater_in f sheet n x
step_least f sheet n x = go (x.0.sheet == sheet)
  where
    go : (t : Bool) → n ≤ cond t (max n (f x.0)) n
    go true = omega arith
    go false = omega arith

start_least : (f : Addr → ℕ) (sheet n : ℕ) (cells : Cells) → n ≤ greatest f sheet n cells
start_least f sheet n [] = omega arith
start_least f sheet n (x ∷ cells) = (let a = step_least f sheet n x in let b = start_least f sheet (greater_in f sheet n x) cells in omega (arith, a, b))

same_sheet : (m n : ℕ) → m ≡ n → (m == n) ≡ true
same_sheet m n e = grind (arith, e)

sheet_same : (m n : ℕ) → (m == n) ≡ true → m ≡ n
sheet_same m n e = grind (arith, e)

-- each cell of the sheet is counted
cell_least : (f : Addr → ℕ) (sheet n : ℕ) (cells : Cells) (a : Addr) (c : Content) → a.sheet ≡ sheet → entry_at cells a ≡ Some c → f a ≤ greatest f sheet n cells
cell_least f sheet n [] a c s e = cc
cell_least f sheet n (x ∷ cells) a c s e = go (same_addr a x.0) refl e (cell_least f sheet (greater_in f sheet n x) cells a c s)
  where
    first : a ≡ x.0 → f a ≤ greater_in f sheet n x
    first is = (let on : (x.0.sheet == sheet) ≡ true = same_sheet x.0.sheet sheet (sym (ap (λ (z : Addr). z.sheet) is) ∙ s) in let low : f x.0 ≤ max n (f x.0) = omega arith in subst (λ t. f a ≤ cond t (max n (f x.0)) n) (sym on) (subst (λ z. f z ≤ max n (f x.0)) (sym is) low))

    go : (t : Bool) → same_addr a x.0 ≡ t → cond t (Some x.1) (entry_at cells a) ≡ Some c → (entry_at cells a ≡ Some c → f a ≤ greatest f sheet (greater_in f sheet n x) cells) → f a ≤ greatest f sheet (greater_in f sheet n x) cells
    go true p k rest = (let h = first (same_addr-true a x.0 p) in let l = start_least f sheet (greater_in f sheet n x) cells in omega (arith, h, l))
    go false p k rest = rest k

-- and no more than they
cells_most : (f : Addr → ℕ) (sheet n r : ℕ) (cells : Cells) → n ≤ r → ((a : Addr) (c : Content) → a.sheet ≡ sheet → entry_at cells a ≡ Some c → f a ≤ r) → greatest f sheet n cells ≤ r
cells_most f sheet n r [] l h = l
cells_most f sheet n r (x ∷ cells) l h = cells_most f sheet (greater_in f sheet n x) r cells (go (x.0.sheet == sheet) refl) (λ a c s e. h a (some_content x cells a c e).0 s (some_content x cells a c e).1)
  where
    go : (t : Bool) → (x.0.sheet == sheet) ≡ t → cond t (max n (f x.0)) n ≤ r
    go true p = (let m = h x.0 x.1 (sheet_same x.0.sheet sheet p) (here x cells) in omega (arith, l, m))
    go false p = l

greatest_is : (f : Addr → ℕ) (sheet r : ℕ) (cells : Cells) → ((a : Addr) × (c : Content) × (a.sheet ≡ sheet) × (f a ≡ r) × (entry_at cells a ≡ Some c)) → ((a : Addr) (c : Content) → a.sheet ≡ sheet → entry_at cells a ≡ Some c → f a ≤ r) → greatest f sheet 0 cells ≡ r
greatest_is f sheet r cells there most = (let l = cell_least f sheet 0 cells there.0 there.1 there.2 there.4 in let e = there.3 in let m = cells_most f sheet 0 r cells (omega arith) most in omega (arith, l, e, m))

not_zero : (n : ℕ) → 1 ≤ n → (n == 0) ≡ false
not_zero n h = grind (arith, h)

pub extent_is : (cells : Cells) (sheet : ℕ) → ((a : Addr) (c : Content) → entry_at cells a ≡ Some c → IsOnSheet a) → (r : Option (ℕ × ℕ)) → IfSome r (IsExtent cells sheet) → IfNone r (IsEmptySheet cells sheet) → r ≡ extent_in sheet cells
extent_is cells sheet on (Some last) h k =
    let row : last_row sheet cells ≡ last.0 = greatest_is (λ a. a.row) sheet last.0 cells h.0.there h.0.within in
    let col : last_column sheet cells ≡ last.1 = greatest_is (λ a. a.col) sheet last.1 cells h.1.there h.1.within in
    let first = h.0.there in
    let low = (on first.0 first.1 first.4).row_from in
    let is = first.3 in
    let some : (last_row sheet cells == 0) ≡ false = not_zero (last_row sheet cells) (omega (arith, low, is, row)) in
    sym (ap (λ t. cond t None (Some (last_row sheet cells, last_column sheet cells))) some ∙ (λ i. Some (row i, col i)))
extent_is cells sheet on None h k =
    let most : last_row sheet cells ≤ 0 = cells_most (λ a. a.row) sheet 0 0 cells (omega arith) (λ a c s e. let n : None ≡ Some c = sym (k a s) ∙ e in cc) in
    let none : (last_row sheet cells == 0) ≡ true = grind (arith, most) in
    sym (ap (λ t. cond t None (Some (last_row sheet cells, last_column sheet cells))) none)
