-- The cells at all places of a sheet are the cells of the sheet.
use Rattle.std.proofs.Common.{◌≡◌, ℕ, ◌==◌, ◌||◌, Bool, true, false, cond, List, [], ◌∷◌, Option, Some, None, option_map, refl, sym, ap, subst, ◌∙◌, arith}
use Rattle.std.specs.List.{cons_option, list_any}
use Rattle.cell_values.specs.declared.address.Addr.{Addr}
use Rattle.cell_values.specs.Addresses.{same_addr}
use Rattle.cell_values.specs.Order.{InOrder, IsBeforeAll, addresses, entry_at}
use Rattle.cell_values.proofs.Order.{same_addr-true}
use Rattle.demand_spec.specs.Book.{Content}
use Rattle.demand_spec.specs.Edits.{Cells}
use Rattle.demand_spec.specs.Laws.{In}
use Rattle.demand_spec.specs.Sheets.{last_column, last_row}
use Rattle.demand_spec.proofs.Members.{found_member, member_found}
use Rattle.demand_spec.proofs.OneList.{one_map}
use Rattle.workbook_core.specs.Books.{IsWorkbook, SharedBook}
use Rattle.book_save.specs.Rows.{cells_at, cells_on, place, places}
use Rattle.book_save.proofs.Extents.{column_counted, row_counted}
use Rattle.book_save.proofs.Places.{in_places, places_order, places_sheet}

-- ---- the cells at places

-- what stands at a place, and other cells behind it
abbrev and_at : Addr → Option Content → Cells → Cells
and_at a o rest = cons_option (option_map (λ c. (a, c)) o) rest

and_before : (a x : Addr) (o : Option Content) (rest : Cells) → (IsBeforeAll a (x ∷ [])) → IsBeforeAll a (addresses rest) → IsBeforeAll a (addresses (and_at x o rest))
and_before a x None rest h k = k
and_before a x (Some c) rest h k = (h.0, k)

at_before : (cells : Cells) (a : Addr) (xs : List Addr) → IsBeforeAll a xs → IsBeforeAll a (addresses (cells_at cells xs))
at_before cells a [] h = tt
at_before cells a (x ∷ xs) h = and_before a x (entry_at cells x) (cells_at cells xs) (h.0, tt) (at_before cells a xs h.1)

and_order : (x : Addr) (o : Option Content) (rest : Cells) → IsBeforeAll x (addresses rest) → InOrder (addresses rest) → InOrder (addresses (and_at x o rest))
and_order x None rest h k = k
and_order x (Some c) rest h k = (h, k)

at_order : (cells : Cells) (xs : List Addr) → InOrder xs → InOrder (addresses (cells_at cells xs))
at_order cells [] h = tt
at_order cells (x ∷ xs) h = and_order x (entry_at cells x) (cells_at cells xs) (at_before cells x xs h.0) (at_order cells xs h.1)

and_entry : (t q : Bool) (o e : Option Content) (a x : Addr) (rest : Cells) → same_addr a x ≡ t → (t ≡ true → e ≡ o) → entry_at rest a ≡ cond q e None → entry_at (and_at x o rest) a ≡ cond (t || q) e None
and_entry true q (Some c) e a x rest p is h = ap (λ s. cond s (Some c) (entry_at rest a)) p ∙ sym (is refl)
and_entry true true None e a x rest p is h = h
and_entry true false None e a x rest p is h = h ∙ sym (is refl)
and_entry false q (Some c) e a x rest p is h = ap (λ s. cond s (Some c) (entry_at rest a)) p ∙ h
and_entry false q None e a x rest p is h = h

-- what is found at an address is what stands there, where it is one of the places
at_entry : (cells : Cells) (xs : List Addr) (a : Addr) → entry_at (cells_at cells xs) a ≡ cond (list_any (same_addr a) xs) (entry_at cells a) None
at_entry cells [] a = refl
at_entry cells (x ∷ xs) a =
    and_entry (same_addr a x) (list_any (same_addr a) xs) (entry_at cells x) (entry_at cells a) a x (cells_at cells xs) refl (λ p. ap (entry_at cells) (same_addr-true a x p)) (at_entry cells xs a)

-- ---- the cells of a sheet

on_before : (sheet : ℕ) (a : Addr) (cells : Cells) → IsBeforeAll a (addresses cells) → IsBeforeAll a (addresses (cells_on sheet cells))
on_before sheet a [] h = tt
on_before sheet a (x ∷ cells) h = go (x.0.sheet == sheet) (on_before sheet a cells h.1)
  where
    go : (t : Bool) → IsBeforeAll a (addresses (cells_on sheet cells)) → IsBeforeAll a (addresses (cond t (x ∷ cells_on sheet cells) (cells_on sheet cells)))
    go true k = (h.0, k)
    go false k = k

on_order : (sheet : ℕ) (cells : Cells) → InOrder (addresses cells) → InOrder (addresses (cells_on sheet cells))
on_order sheet [] h = tt
on_order sheet (x ∷ cells) h = go (x.0.sheet == sheet) (on_order sheet cells h.1)
  where
    go : (t : Bool) → InOrder (addresses (cells_on sheet cells)) → InOrder (addresses (cond t (x ∷ cells_on sheet cells) (cells_on sheet cells)))
    go true k = (on_before sheet x.0 cells h.0, k)
    go false k = k

on_entry : (sheet : ℕ) (cells : Cells) (a : Addr) → entry_at (cells_on sheet cells) a ≡ cond (a.sheet == sheet) (entry_at cells a) None
on_entry sheet [] a = none (a.sheet == sheet)
  where
    none : (t : Bool) → ◌≡◌ {A = Option Content} None (cond t None None)
    none true = refl
    none false = refl
on_entry sheet (x ∷ cells) a = go (x.0.sheet == sheet) refl (same_addr a x.0) refl (on_entry sheet cells a)
  where
    there : same_addr a x.0 ≡ true → (a.sheet == sheet) ≡ (x.0.sheet == sheet)
    there p = ap (λ (z : Addr). z.sheet == sheet) (same_addr-true a x.0 p)

    go : (t : Bool) → (x.0.sheet == sheet) ≡ t → (u : Bool) → same_addr a x.0 ≡ u → entry_at (cells_on sheet cells) a ≡ cond (a.sheet == sheet) (entry_at cells a) None
        → entry_at (cond t (x ∷ cells_on sheet cells) (cells_on sheet cells)) a ≡ cond (a.sheet == sheet) (cond (same_addr a x.0) (Some x.1) (entry_at cells a)) None
    go true p true q h = rw (q, there q ∙ p) refl
    go true p false q h = rw q h
    go false p true q h = h ∙ rw (there q ∙ p) refl
    go false p false q h = rw q h

-- ---- both

abbrev all_of : ℕ → Cells → List Addr
all_of sheet cells = places sheet (last_column sheet cells) (last_row sheet cells)

same_tests : (t u : Bool) → (t ≡ true → u ≡ true) → (u ≡ true → t ≡ true) → t ≡ u
same_tests true u f g = sym (f refl)
same_tests false true f g = g refl
same_tests false false f g = refl

number_is : (m n : ℕ) → (m == n) ≡ true → m ≡ n
number_is m n e = grind (arith, e)

is_number : (m n : ℕ) → m ≡ n → (m == n) ≡ true
is_number m n e = grind (arith, e)

same_entries : (w : SharedBook) (sheet : ℕ) → IsWorkbook w → (a : Addr) (o : Option Content) → entry_at w.book.cells a ≡ o →
    cond (a.sheet == sheet) o None ≡ cond (list_any (same_addr a) (all_of sheet w.book.cells)) o None
same_entries w sheet h a None e = none (a.sheet == sheet) ∙ sym (none (list_any (same_addr a) (all_of sheet w.book.cells)))
  where
    none : (t : Bool) → cond {A = Option Content} t None None ≡ None
    none true = refl
    none false = refl
same_entries w sheet h a (Some c) e = ap (λ t. cond t (Some c) None) (same_tests (a.sheet == sheet) (list_any (same_addr a) (all_of sheet w.book.cells)) inside outside)
  where
    inside : (a.sheet == sheet) ≡ true → list_any (same_addr a) (all_of sheet w.book.cells) ≡ true
    inside p =
        let on = (h.cells a c e).on_sheet in
        let s : a.sheet ≡ sheet = number_is a.sheet sheet p in
        member_found a (all_of sheet w.book.cells)
        (subst (λ n. In (place n a.row a.col) (all_of sheet w.book.cells)) (sym s)
        (in_places sheet (last_column sheet w.book.cells) (last_row sheet w.book.cells) a.row a.col on.row_from (row_counted sheet w.book.cells a c s e) on.col_from (column_counted sheet w.book.cells a c s e)))

    outside : list_any (same_addr a) (all_of sheet w.book.cells) ≡ true → (a.sheet == sheet) ≡ true
    outside p =
        is_number a.sheet sheet (places_sheet sheet (last_column sheet w.book.cells) (last_row sheet w.book.cells) a (found_member a (all_of sheet w.book.cells) p))

-- all cells of a sheet, by their places
pub all_places : (w : SharedBook) (sheet : ℕ) → IsWorkbook w → cells_at w.book.cells (all_of sheet w.book.cells) ≡ cells_on sheet w.book.cells
all_places w sheet h =
    let all = all_of sheet w.book.cells in
    one_map (cells_at w.book.cells all) (cells_on sheet w.book.cells) (at_order w.book.cells all (places_order sheet (last_column sheet w.book.cells) (last_row sheet w.book.cells))) (on_order sheet w.book.cells h.order)
    (λ a. at_entry w.book.cells all a ∙ sym (same_entries w sheet h a (entry_at w.book.cells a) refl) ∙ sym (on_entry sheet w.book.cells a))
