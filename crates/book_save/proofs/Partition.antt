-- The cells of a book are those of its sheets, one sheet after the other.
use Rattle.std.proofs.Common.{◌≡◌, ℕ, zero, suc, ◌+◌, ◌<◌, ◌≤◌, ◌==◌, ◌&&◌, Bool, true, false, cond, nat_le, nat_lt, [], ◌∷◌, ◌++◌, inl, inr, refl, sym, ap, ◌∙◌, arith}
use Rattle.std.specs.List.{filter, flat_map}
use Rattle.cell_values.specs.declared.address.Addr.{Addr}
use Rattle.cell_values.specs.Addresses.{IsBefore}
use Rattle.cell_values.specs.Areas.{numbers_from}
use Rattle.cell_values.specs.Order.{InOrder, IsBeforeAll, addresses}
use Rattle.demand_spec.specs.Book.{Content}
use Rattle.demand_spec.specs.Edits.{Cells}
use Rattle.book_save.specs.Rows.{cells_on}
use Rattle.book_save.proofs.Each.{EachCell}

-- on one of the sheets from `first` on, before `last`
abbrev within : ℕ → ℕ → Addr × Content → Bool
within first last c = nat_le first c.0.sheet && nat_lt c.0.sheet last

abbrev cells_within : ℕ → ℕ → Cells → Cells
cells_within first last cells = filter (within first last) cells

neither : (n s : ℕ) → (nat_le n s && nat_lt s n) ≡ false
neither n s = grind arith

none_within : (n : ℕ) (cells : Cells) → cells_within n n cells ≡ []
none_within n [] = refl
none_within n (x ∷ cells) = (let e : within n n x ≡ false = neither n x.0.sheet in rw e (none_within n cells))

-- behind a cell of a later sheet there is none of the sheet
later_sheet : (a b : Addr) → IsBefore a b → a.sheet ≤ b.sheet
later_sheet a b (inl h) = omega (arith, h)
later_sheet a b (inr h) = (let e = h.0 in omega (arith, e))

none_on : (sheet : ℕ) (a : Addr) (cells : Cells) → sheet < a.sheet → IsBeforeAll a (addresses cells) → cells_on sheet cells ≡ []
none_on sheet a [] l h = refl
none_on sheet a (x ∷ cells) l h =
    let further = later_sheet a x.0 h.0 in
    let other : (x.0.sheet == sheet) ≡ false = differs x.0.sheet sheet (omega (arith, l, further)) in
    rw other (none_on sheet a cells l h.1)
  where
    differs : (m n : ℕ) → n < m → (m == n) ≡ false
    differs m n k = grind (arith, k)

here : (s sheet last : ℕ) → (s == sheet) ≡ true → sheet < last → ((nat_le sheet s && nat_lt s last) ≡ true) × ((nat_le (suc sheet) s && nat_lt s last) ≡ false)
here s sheet last e l = (grind (arith, e, l), grind (arith, e, l))

elsewhere : (s sheet last : ℕ) → (s == sheet) ≡ false → (nat_le sheet s && nat_lt s last) ≡ (nat_le (suc sheet) s && nat_lt s last)
elsewhere s sheet last e = grind (arith, e)

above : (s sheet last : ℕ) → (nat_le (suc sheet) s && nat_lt s last) ≡ true → sheet < s
above s sheet last e = grind (arith, e)

one_sheet : (sheet last : ℕ) (cells : Cells) → sheet < last → InOrder (addresses cells) → cells_on sheet cells ++ cells_within (suc sheet) last cells ≡ cells_within sheet last cells
one_sheet sheet last [] l o = refl
one_sheet sheet last (x ∷ cells) l o = go (x.0.sheet == sheet) refl (within (suc sheet) last x) refl (one_sheet sheet last cells l o.1)
  where
    go : (t : Bool) → (x.0.sheet == sheet) ≡ t → (u : Bool) → within (suc sheet) last x ≡ u → cells_on sheet cells ++ cells_within (suc sheet) last cells ≡ cells_within sheet last cells →
        cond (x.0.sheet == sheet) (x ∷ cells_on sheet cells) (cells_on sheet cells) ++ cond (within (suc sheet) last x) (x ∷ cells_within (suc sheet) last cells) (cells_within (suc sheet) last cells)
        ≡ cond (within sheet last x) (x ∷ cells_within sheet last cells) (cells_within sheet last cells)
    go true p u q h = (let k = here x.0.sheet sheet last p l in rw (p, k.0, k.1) (ap (λ (cs : Cells). x ∷ cs) h))
    go false p true q h =
        let k : within sheet last x ≡ true = elsewhere x.0.sheet sheet last p ∙ q in
        let none = none_on sheet x.0 cells (above x.0.sheet sheet last q) o.0 in
        rw (p, q, k, none) (ap (λ (cs : Cells). x ∷ cs) (ap (λ (cs : Cells). cs ++ cells_within (suc sheet) last cells) (sym none) ∙ h))
    go false p false q h = (let k : within sheet last x ≡ false = elsewhere x.0.sheet sheet last p ∙ q in rw (p, q, k) h)

sheets_within : (sheet n : ℕ) (cells : Cells) → InOrder (addresses cells) → flat_map (λ s. cells_on s cells) (numbers_from sheet n) ≡ cells_within sheet (sheet + n) cells
sheets_within sheet zero cells o = (let e : sheet ≡ sheet + 0 = omega arith in sym (none_within sheet cells) ∙ ap (λ last. cells_within sheet last cells) e)
sheets_within sheet (suc n) cells o =
    let e : suc sheet + n ≡ sheet + suc n = omega arith in
    ap (λ (cs : Cells). cells_on sheet cells ++ cs) (sheets_within (suc sheet) n cells o ∙ ap (λ last. cells_within (suc sheet) last cells) e)
    ∙ one_sheet sheet (sheet + suc n) cells (omega arith) o

all_within : (n : ℕ) (cells : Cells) → EachCell (λ a c. a.sheet < n) cells → cells_within 0 (0 + n) cells ≡ cells
all_within n [] h = refl
all_within n (x ∷ cells) h = (let e = low x.0.sheet h.0 in rw e (ap (λ (cs : Cells). x ∷ cs) (all_within n cells h.1)))
  where
    low : (s : ℕ) → s < n → (nat_le 0 s && nat_lt s (0 + n)) ≡ true
    low s l = grind (arith, l)

pub all_sheets : (n : ℕ) (cells : Cells) → InOrder (addresses cells) → EachCell (λ a c. a.sheet < n) cells → flat_map (λ s. cells_on s cells) (numbers_from 0 n) ≡ cells
all_sheets n cells o h = sheets_within 0 n cells o ∙ all_within n cells h
