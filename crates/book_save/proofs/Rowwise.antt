-- The rows of a sheet, one field and one row more at a time.
use Rattle.std.proofs.Common.{◌≡◌, ℕ, ◌+◌, ◌<◌, true, List, [], ◌∷◌, ◌++◌, length, map, All, Option, Some, None, inl, inr, String, string_bytes, refl, ap, sym, subst, ◌∙◌, arith}
use Rattle.std.specs.Str.{is_utf8}
use Rattle.std.proofs.lemmas.List.{length-map, map-append}
use Rattle.std.proofs.lemmas.List.Elements.{All-append, All-cons, All-head, All-nil, All-tail}
use Rattle.std.proofs.lemmas.Str.{IsUtf8-nil, IsUtf8-string_bytes, is_utf8-from_IsUtf8}
use Rattle.cell_values.specs.declared.address.Addr.{Addr}
use Rattle.cell_values.specs.Areas.{numbers_from}
use Rattle.cell_values.specs.Order.{entry_at}
use Rattle.cell_values.proofs.Walking.{length-numbers_from}
use Rattle.demand_spec.specs.Book.{Book, Content}
use Rattle.sheet_csv.specs.Row.{row_text}
use Rattle.demand_spec.specs.Laws.{In}
use Rattle.demand_spec.specs.Sheets.{last_column, last_row}
use Rattle.workbook_core.specs.Books.{IsWorkbook, SharedBook}
use Rattle.book_save.specs.declared.faults.SaveFault.{SaveFault}
use Rattle.book_save.specs.Fields.{saved_cell}
use Rattle.book_save.specs.Rows.{AreUtf8, first_long, first_long_at, first_long_in, place, places, row_fields, row_places, saved_row, HaveUtf8, IsSaveFault}
use Rattle.book_save.proofs.Extents.{IsLast, column_counted, row_counted}
use Rattle.book_save.proofs.Longs.{cell_is, fault_of_whole, none_more}
use Rattle.book_save.proofs.Parts.{joined_cut, joined_more, mapped_cut, mapped_more}
use Rattle.book_save.proofs.Places.{in_places}
use Rattle.book_save.proofs.Standing.{all_places}

-- ---- the fields of a row

pub fields_more : {A : Type 0} (g : A → List ℕ) (names : List (List ℕ)) (b : Book) (sheet row n : ℕ) (xs : List A) (x : A) → map g xs ≡ row_fields names b sheet n row → g x ≡ saved_cell names b (place sheet row (n + 1)) →
    map g (xs ++ x ∷ []) ≡ row_fields names b sheet (n + 1) row
fields_more g names b sheet row n xs x h e =
    map-append g xs (x ∷ []) ∙ (λ i. h i ++ e i ∷ [])
    ∙ sym (ap (map (saved_cell names b)) (mapped_more (place sheet row) n) ∙ map-append (saved_cell names b) (row_places sheet n row) (place sheet row (n + 1) ∷ []))

pub row_short : (names : List (List ℕ)) (b : Book) (sheet row n : ℕ) → first_long_at names b (row_places sheet n row) ≡ None → first_long_at names b (place sheet row (n + 1) ∷ []) ≡ None → first_long_at names b (row_places sheet (n + 1) row) ≡ None
row_short names b sheet row n h k = none_more names b (row_places sheet n row) (place sheet row (n + 1) ∷ []) (row_places sheet (n + 1) row) (mapped_more (place sheet row) n) h k

pub row_fault : (names : List (List ℕ)) (b : Book) (sheet row n columns : ℕ) (fault : SaveFault) → n < columns → first_long_at names b (row_places sheet n row) ≡ None → IsSaveFault (first_long_at names b (place sheet row (n + 1) ∷ [])) fault →
    IsSaveFault (first_long_at names b (row_places sheet columns row)) fault
row_fault names b sheet row n columns fault l h k =
    let cut = mapped_cut (place sheet row) n columns l in
    fault_of_whole names b (row_places sheet n row) (place sheet row (n + 1) ∷ []) cut.0 (row_places sheet columns row) fault cut.1 h k

pub row_count : (names : List (List ℕ)) (b : Book) (sheet columns row : ℕ) → length (row_fields names b sheet columns row) ≡ columns
row_count names b sheet columns row =
    length-map (row_places sheet columns row) (saved_cell names b) ∙ length-map (numbers_from 1 columns) (place sheet row) ∙ length-numbers_from 1 columns

-- ---- UTF-8

first_of : List (List ℕ) → List ℕ
first_of [] = []
first_of (x ∷ xs) = x

others_of : List (List ℕ) → List (List ℕ)
others_of [] = []
others_of (x ∷ xs) = xs

-- fields that were written as texts
pub row_utf8 : {Z : Type 0} (names : List (List ℕ)) (b : Book) (fields : List (String Z)) (ps : List Addr) → map string_bytes fields ≡ map (saved_cell names b) ps → All (HaveUtf8 names b) ps
unfolding first_of others_of
row_utf8 names b fields [] e = All-nil (HaveUtf8 names b)
row_utf8 names b [] (p ∷ ps) e = cc
row_utf8 names b (f ∷ fields) (p ∷ ps) e =
    All-cons (HaveUtf8 names b) p ps (subst (λ (x : List ℕ). is_utf8 x ≡ true) (ap (λ xs. first_of xs) e) (is_utf8-from_IsUtf8 (string_bytes f) (IsUtf8-string_bytes f)))
    (row_utf8 names b fields ps (ap (λ xs. others_of xs) e))

all_in : (P : Addr → Type 0) (xs : List Addr) (a : Addr) → All P xs → In a xs → P a
all_in P [] a h k = absurd k
all_in P (x ∷ xs) a h (inl e) = subst P (sym e) (All-head P x xs h)
all_in P (x ∷ xs) a h (inr k) = all_in P xs a (All-tail P x xs h) k

pub all_utf8 : (w : SharedBook) (sheet : ℕ) → IsWorkbook w → All (HaveUtf8 w.names w.book) (places sheet (last_column sheet w.book.cells) (last_row sheet w.book.cells)) → AreUtf8 w.names w.book sheet
all_utf8 w sheet h all row col = go (entry_at w.book.cells (place sheet row col)) refl
  where
    go : (o : Option Content) → entry_at w.book.cells (place sheet row col) ≡ o → is_utf8 (saved_cell w.names w.book (place sheet row col)) ≡ true
    go None e = subst (λ (x : List ℕ). is_utf8 x ≡ true) (sym (cell_is w.names w.book (place sheet row col) None e)) (is_utf8-from_IsUtf8 [] IsUtf8-nil)
    go (Some c) e =
        let on = (h.cells (place sheet row col) c e).on_sheet in
        all_in (HaveUtf8 w.names w.book) (places sheet (last_column sheet w.book.cells) (last_row sheet w.book.cells)) (place sheet row col) all
        (in_places sheet (last_column sheet w.book.cells) (last_row sheet w.book.cells) row col on.row_from (row_counted sheet w.book.cells (place sheet row col) c refl e) on.col_from (column_counted sheet w.book.cells (place sheet row col) c refl e))

-- ---- rows

pub rows_more : {A : Type 0} (g : A → List ℕ) (f : ℕ → List ℕ) (n : ℕ) (xs : List A) (x : A) → map g xs ≡ map f (numbers_from 1 n) → g x ≡ f (n + 1) → map g (xs ++ x ∷ []) ≡ map f (numbers_from 1 (n + 1))
rows_more g f n xs x h e = map-append g xs (x ∷ []) ∙ (λ i. h i ++ e i ∷ []) ∙ sym (mapped_more f n)

pub all_short : (names : List (List ℕ)) (b : Book) (sheet columns n : ℕ) → first_long_at names b (places sheet columns n) ≡ None → first_long_at names b (row_places sheet columns (n + 1)) ≡ None → first_long_at names b (places sheet columns (n + 1)) ≡ None
all_short names b sheet columns n h k = none_more names b (places sheet columns n) (row_places sheet columns (n + 1)) (places sheet columns (n + 1)) (joined_more (row_places sheet columns) n) h k

pub all_fault : (names : List (List ℕ)) (b : Book) (sheet columns n rows : ℕ) (fault : SaveFault) → n < rows → first_long_at names b (places sheet columns n) ≡ None → IsSaveFault (first_long_at names b (row_places sheet columns (n + 1))) fault →
    IsSaveFault (first_long_at names b (places sheet columns rows)) fault
all_fault names b sheet columns n rows fault l h k =
    let cut = joined_cut (row_places sheet columns) n rows l in
    fault_of_whole names b (places sheet columns n) (row_places sheet columns (n + 1)) cut.0 (places sheet columns rows) fault cut.1 h k

pub utf8_more : (names : List (List ℕ)) (b : Book) (sheet columns n : ℕ) → All (HaveUtf8 names b) (places sheet columns n) → All (HaveUtf8 names b) (row_places sheet columns (n + 1)) → All (HaveUtf8 names b) (places sheet columns (n + 1))
utf8_more names b sheet columns n h k = subst (All (HaveUtf8 names b)) (sym (joined_more (row_places sheet columns) n)) (All-append (HaveUtf8 names b) (places sheet columns n) (row_places sheet columns (n + 1)) h k)

-- ---- the whole sheet

pub first_is : (w : SharedBook) (sheet : ℕ) → IsWorkbook w → first_long_at w.names w.book (places sheet (last_column sheet w.book.cells) (last_row sheet w.book.cells)) ≡ first_long w.names w.book sheet
first_is w sheet h = ap (first_long_in w.names w.book.texts) (all_places w sheet h)

-- the same by the last row and column
module _ (w : SharedBook) (sheet : ℕ) (last : ℕ × ℕ) (h : IsWorkbook w) (l : IsLast last sheet w.book.cells) where
  pub last_is : first_long_at w.names w.book (places sheet last.1 last.0) ≡ first_long w.names w.book sheet
  last_is = (λ i. first_long_at w.names w.book (places sheet (l.columns_are i) (l.rows_are i))) ∙ first_is w sheet h

  pub last_utf8 : All (HaveUtf8 w.names w.book) (places sheet last.1 last.0) → AreUtf8 w.names w.book sheet
  last_utf8 all =
      all_utf8 w sheet h (subst (λ n. All (HaveUtf8 w.names w.book) (places sheet n (last_row sheet w.book.cells))) l.columns_are (subst (λ n. All (HaveUtf8 w.names w.book) (places sheet last.1 n)) l.rows_are all))

-- an empty sheet

pub none_utf8 : (w : SharedBook) (sheet : ℕ) → IsWorkbook w → last_row sheet w.book.cells ≡ 0 → AreUtf8 w.names w.book sheet
none_utf8 w sheet h e = all_utf8 w sheet h (subst (λ n. All (HaveUtf8 w.names w.book) (places sheet (last_column sheet w.book.cells) n)) (sym e) (All-nil (HaveUtf8 w.names w.book)))

pub none_short : (w : SharedBook) (sheet : ℕ) → IsWorkbook w → last_row sheet w.book.cells ≡ 0 → first_long w.names w.book sheet ≡ None
none_short w sheet h e = sym (first_is w sheet h) ∙ ap (λ n. first_long_at w.names w.book (places sheet (last_column sheet w.book.cells) n)) e

-- a row of fields, as it is written

pub some_fields : {Z : Type 0} (names : List (List ℕ)) (b : Book) (sheet columns row : ℕ) (items fields : List (String Z)) → items ≡ fields → map string_bytes fields ≡ row_fields names b sheet columns row → 0 < columns → 0 < length items
some_fields names b sheet columns row items fields same e some =
    let m = length-map fields string_bytes in
    let n = ap length e ∙ row_count names b sheet columns row in
    let k = ap length same in
    omega (arith, m, n, k, some)

pub row_is : {Z : Type 0} (names : List (List ℕ)) (b : Book) (sheet columns row : ℕ) (items fields : List (String Z)) (text : List ℕ) → text ≡ row_text (map string_bytes items) → items ≡ fields → map string_bytes fields ≡ row_fields names b sheet columns row → columns ≡ last_column sheet b.cells →
    text ≡ saved_row names b sheet row
unfolding saved_row
row_is names b sheet columns row items fields text is same e last = is ∙ ap row_text (ap (map string_bytes) same ∙ e ∙ ap (λ n. row_fields names b sheet n row) last)
