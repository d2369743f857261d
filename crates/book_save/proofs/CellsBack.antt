-- The saved rows of a sheet are read as its cells.
use Rattle.std.proofs.Common.{◌≡◌, ℕ, zero, suc, ◌+◌, ◌<◌, ◌≤◌, true, false, List, [], ◌∷◌, ◌++◌, length, map, fold, get_or, nat_lt, Option, Some, None, option_map, refl, ap, sym, subst, ◌∙◌, append_assoc, arith, All}
use Rattle.std.specs.List.{concat, cons_option, enumerate_from, flat_map}
use Rattle.std.specs.Str.{is_utf8}
use Rattle.std.proofs.lemmas.List.{append-nil, length-map, map-append}
use Rattle.std.proofs.lemmas.List.Elements.{All-map, filter_map-append}
use Rattle.cell_values.specs.declared.TheConstants.{LAST_COLUMN}
use Rattle.cell_values.specs.declared.address.Addr.{Addr}
use Rattle.cell_values.specs.declared.fields.Raw.{Raw}
use Rattle.cell_values.specs.Areas.{numbers_from}
use Rattle.cell_values.specs.Interned.{AreDistinct}
use Rattle.cell_values.specs.Order.{entry_at}
use Rattle.cell_values.specs.Texts.{Texts}
use Rattle.cell_values.proofs.Walking.{length-numbers_from}
use Rattle.sheet_csv.specs.Row.{row_text}
use Rattle.sheet_csv.specs.Sheet.{cells_of, first_fault, sheet_fields}
use Rattle.formula_trees.specs.declared.TheConstants.{MAX_FORMULA_BYTES}
use Rattle.formula_grammar.specs.Printed.{printed}
use Rattle.formula_grammar.specs.Reading.{Means}
use Rattle.formula_grammar.proofs.ReadBack.{printed_interns_nothing, printed_reads_back}
use Rattle.demand_spec.specs.Book.{Book, Content}
use Rattle.demand_spec.specs.Edits.{Cells}
use Rattle.demand_spec.specs.Sheets.{last_column, last_row}
use Rattle.workbook_core.specs.Books.{IsCell, IsWorkbook, SharedBook}
use Rattle.book_save.specs.Fields.{field_or_empty, saved_cell}
use Rattle.book_save.specs.Laws.{CellReadsBack, SheetReadsBack, field_read, fields_on, rows_text}
use Rattle.book_save.specs.Rows.{AreUtf8, cells_at, cells_on, place, row_places, saved_row, saved_rows}
use Rattle.book_save.proofs.Extents.{columns_within, is_wide, rows_within}
use Rattle.book_save.proofs.Each.{EachCell, each_cell, each_on}
use Rattle.book_save.proofs.FieldsBack.{AsRead, IsSavable, raw_field, read_again}
use Rattle.book_save.proofs.Places.{row_from, rows_from}
use Rattle.book_save.proofs.SheetBack.{AreSavable, FitSheet, cell_there, cells_of_row, cells_of_rows, fields_of_rows, sheet_is_taken, sheet_reads_over, taken_in}
use Rattle.book_save.proofs.Standing.{all_places}

abbrev pub Fields : Type 0
Fields = List (Addr × Raw)

-- ---- what stands at each place, as it is read

abbrev pub read_or_nothing : List (List ℕ) → Texts → Addr → Option Content → Raw
read_or_nothing names ts a None = Raw.Nothing
read_or_nothing names ts a (Some c) = field_read names ts a c

abbrev pub read_at : List (List ℕ) → Book → Addr → Raw
read_at names b a = read_or_nothing names b.texts a (entry_at b.cells a)

abbrev pub read_row : List (List ℕ) → Book → ℕ → ℕ → ℕ → List Raw
read_row names b sheet columns row = map (read_at names b) (row_places sheet columns row)

abbrev pub read_rows : List (List ℕ) → Book → ℕ → List (List Raw)
read_rows names b sheet = map (read_row names b sheet (last_column sheet b.cells)) (numbers_from 1 (last_row sheet b.cells))

abbrev pub as_read : List (List ℕ) → Texts → Addr × Content → Addr × Raw
as_read names ts c = (c.0, field_read names ts c.0 c.1)

-- ---- the text

same_content : (names : List (List ℕ)) (ts : Texts) (a : Addr) (o : Option Content) → raw_field ts (read_or_nothing names ts a o) ≡ field_or_empty names ts a o
same_content names ts a None = refl
same_content names ts a (Some (Content.Number n)) = refl
same_content names ts a (Some (Content.Text t)) = refl
same_content names ts a (Some (Content.Truth b)) = refl
same_content names ts a (Some (Content.Formula t)) = refl

same_fields : (names : List (List ℕ)) (b : Book) (xs : List Addr) → map (raw_field b.texts) (map (read_at names b) xs) ≡ map (saved_cell names b) xs
same_fields names b [] = refl
same_fields names b (x ∷ xs) = λ i. same_content names b.texts x (entry_at b.cells x) i ∷ same_fields names b xs i

pub same_text : (names : List (List ℕ)) (b : Book) (sheet : ℕ) (ns : List ℕ) →
    concat (map (saved_row names b sheet) ns) ≡ rows_text (fields_of_rows b.texts (map (read_row names b sheet (last_column sheet b.cells)) ns))
unfolding saved_row
same_text names b sheet [] = refl
same_text names b sheet (n ∷ ns) = λ i. row_text (sym (same_fields names b (row_places sheet (last_column sheet b.cells) n)) i) ++ same_text names b sheet ns i

-- ---- the cells

there_is : (names : List (List ℕ)) (ts : Texts) (sheet row col : ℕ) (o : Option Content) (rest : Cells) →
    cell_there sheet row (col, read_or_nothing names ts (place sheet row col) o) ++ map (as_read names ts) rest
    ≡ map (as_read names ts) (cons_option (option_map (λ c. (place sheet row col, c)) o) rest)
there_is names ts sheet row col None rest = refl
there_is names ts sheet row col (Some (Content.Number n)) rest = refl
there_is names ts sheet row col (Some (Content.Text t)) rest = refl
there_is names ts sheet row col (Some (Content.Truth b)) rest = refl
there_is names ts sheet row col (Some (Content.Formula t)) rest = refl

next_number : (n : ℕ) → n + 1 ≡ suc n
next_number n = omega arith

row_is : (names : List (List ℕ)) (b : Book) (sheet row col n : ℕ) →
    flat_map (cell_there sheet row) (enumerate_from col (map (read_at names b) (row_from sheet row col n))) ≡ map (as_read names b.texts) (cells_at b.cells (row_from sheet row col n))
row_is names b sheet row col zero = refl
row_is names b sheet row col (suc n) =
    let here = cell_there sheet row (col, read_at names b (place sheet row col)) in
    ap (λ k. here ++ flat_map (cell_there sheet row) (enumerate_from k (map (read_at names b) (row_from sheet row (suc col) n)))) (next_number col)
    ∙ ap (λ (fs : Fields). here ++ fs) (row_is names b sheet row (suc col) n)
    ∙ there_is names b.texts sheet row col (entry_at b.cells (place sheet row col)) (cells_at b.cells (row_from sheet row (suc col) n))

rows_are : (names : List (List ℕ)) (b : Book) (sheet columns row n : ℕ) →
    flat_map (cells_of_row sheet) (enumerate_from row (map (read_row names b sheet columns) (numbers_from row n))) ≡ map (as_read names b.texts) (cells_at b.cells (rows_from sheet columns row n))
rows_are names b sheet columns row zero = refl
rows_are names b sheet columns row (suc n) =
    let here = row_places sheet columns row in
    let rest = rows_from sheet columns (suc row) n in
    ap (λ k. cells_of_row sheet (row, read_row names b sheet columns row) ++ flat_map (cells_of_row sheet) (enumerate_from k (map (read_row names b sheet columns) (numbers_from (suc row) n)))) (next_number row)
    ∙ (λ i. row_is names b sheet row 1 columns i ++ rows_are names b sheet columns (suc row) n i)
    ∙ sym (map-append (as_read names b.texts) (cells_at b.cells here) (cells_at b.cells rest))
    ∙ ap (map (as_read names b.texts)) (sym (filter_map-append (λ a. option_map (λ c. (a, c)) (entry_at b.cells a)) here rest))

pub fields_are : (w : SharedBook) (sheet : ℕ) → IsWorkbook w → cells_of_rows sheet (read_rows w.names w.book sheet) ≡ fields_on w.names w.book sheet
fields_are w sheet h = rows_are w.names w.book sheet (last_column sheet w.book.cells) 1 (last_row sheet w.book.cells) ∙ ap (map (as_read w.names w.book.texts)) (all_places w sheet h)

-- ---- what can be saved

pub savable : (names : List (List ℕ)) (ts : Texts) (count : ℕ) (a : Addr) (c : Content) → IsCell ts count a c → IsSavable ts (field_read names ts a c)
savable names ts count a (Content.Number n) h = h.fits
savable names ts count a (Content.Text t) h = h.texts
savable names ts count a (Content.Truth b) h = tt
savable names ts count a (Content.Formula t) h = refl

savable_at : (w : SharedBook) (a : Addr) → IsWorkbook w → IsSavable w.book.texts (read_at w.names w.book a)
savable_at w a h = go (entry_at w.book.cells a) refl
  where
    go : (o : Option Content) → entry_at w.book.cells a ≡ o → IsSavable w.book.texts (read_or_nothing w.names w.book.texts a o)
    go None e = tt
    go (Some c) e = savable w.names w.book.texts (length w.names) a c (h.cells a c e)

length_row : (names : List (List ℕ)) (b : Book) (sheet columns row : ℕ) → length (read_row names b sheet columns row) ≡ columns
length_row names b sheet columns row =
    length-map (row_places sheet columns row) (read_at names b) ∙ length-map (numbers_from 1 columns) (place sheet row) ∙ length-numbers_from 1 columns

pub are_savable : (w : SharedBook) (sheet : ℕ) → IsWorkbook w → AreSavable w.book.texts (read_rows w.names w.book sheet)
are_savable w sheet h =
    let columns = last_column sheet w.book.cells in
    let rows = numbers_from 1 (last_row sheet w.book.cells) in
    record {
      some = All-map (λ (row : List Raw). 0 < length row) (read_row w.names w.book sheet columns) rows
          (λ k n l. let more = is_wide w sheet h (omega (arith, l, length-numbers_from 1 (last_row sheet w.book.cells))) in let long = length_row w.names w.book sheet columns (get_or rows k n) in omega (arith, more, long));
      raws = All-map (λ (row : List Raw). All (IsSavable w.book.texts) row) (read_row w.names w.book sheet columns) rows
          (λ k n l. All-map (IsSavable w.book.texts) (read_at w.names w.book) (row_places sheet columns (get_or rows k n)) (λ j a m. savable_at w (get_or (row_places sheet columns (get_or rows k n)) j a) h));
    }

pub fit_sheet : (w : SharedBook) (sheet room : ℕ) → IsWorkbook w → AreUtf8 w.names w.book sheet → length (cells_on sheet w.book.cells) ≤ room → FitSheet w.book.texts sheet room (read_rows w.names w.book sheet)
fit_sheet w sheet room h u l =
    let columns = last_column sheet w.book.cells in
    let rows = numbers_from 1 (last_row sheet w.book.cells) in
    record {
      last_row = (let few = rows_within w sheet h in let long = length-map rows (read_row w.names w.book sheet columns) in let count = length-numbers_from 1 (last_row sheet w.book.cells) in omega (arith, few, long, count));
      last_column = All-map (λ (row : List Raw). length row ≤ LAST_COLUMN) (read_row w.names w.book sheet columns) rows
          (λ k n m. let few = columns_within w sheet h in let long = length_row w.names w.book sheet columns (get_or rows k n) in omega (arith, few, long));
      cells = (let same = ap length (fields_are w sheet h) in let long = length-map (cells_on sheet w.book.cells) (as_read w.names w.book.texts) in omega (arith, l, same, long));
      utf8 = All-map (λ (row : List Raw). All (λ (raw : Raw). is_utf8 (raw_field w.book.texts raw) ≡ true) row) (read_row w.names w.book sheet columns) rows
          (λ k n m. in_row (get_or rows k n));
    }
  where
    in_row : (row : ℕ) → All (λ (raw : Raw). is_utf8 (raw_field w.book.texts raw) ≡ true) (read_row w.names w.book sheet (last_column sheet w.book.cells) row)
    in_row row =
        All-map (λ (raw : Raw). is_utf8 (raw_field w.book.texts raw) ≡ true) (read_at w.names w.book) (row_places sheet (last_column sheet w.book.cells) row)
        (All-map (λ (a : Addr). is_utf8 (raw_field w.book.texts (read_at w.names w.book a)) ≡ true) (place sheet row) (numbers_from 1 (last_column sheet w.book.cells))
        (λ k n m. ap is_utf8 (same_content w.names w.book.texts (place sheet row (get_or (numbers_from 1 (last_column sheet w.book.cells)) k n)) (entry_at w.book.cells (place sheet row (get_or (numbers_from 1 (last_column sheet w.book.cells)) k n)))) ∙ u row (get_or (numbers_from 1 (last_column sheet w.book.cells)) k n)))

-- read over the book's own texts
taken_again : (names : List (List ℕ)) (ts : Texts) (count : ℕ) (cs : Cells) (acc : Fields) → AreDistinct ts → EachCell (IsCell ts count) cs →
    fold (taken_in ts) (ts, acc) (map (as_read names ts) cs) ≡ (ts, acc ++ map (as_read names ts) cs)
taken_again names ts count [] acc d h = ap (λ (fs : Fields). (ts, fs)) (sym (append-nil acc))
taken_again names ts count (c ∷ cs) acc d h =
    ap (λ (p : AsRead). fold (taken_in ts) (p.0, acc ++ (c.0, p.1) ∷ []) (map (as_read names ts) cs)) (read_again ts (field_read names ts c.0 c.1) d (savable names ts count c.0 c.1 h.0))
    ∙ taken_again names ts count cs (acc ++ as_read names ts c ∷ []) d h.1
    ∙ ap (λ (fs : Fields). (ts, fs)) (append_assoc acc (as_read names ts c ∷ []) (map (as_read names ts) cs))

-- each cell of a sheet is one of the book
pub cells_of_sheet : (w : SharedBook) (sheet : ℕ) → IsWorkbook w → EachCell (IsCell w.book.texts (length w.names)) (cells_on sheet w.book.cells)
cells_of_sheet w sheet h = each_on (IsCell w.book.texts (length w.names)) sheet w.book.cells (each_cell (IsCell w.book.texts (length w.names)) w.book.cells h.order h.cells)

-- the saved rows over any texts
pub saved_over : (w : SharedBook) (sheet : ℕ) (us : Texts) → IsWorkbook w →
    cells_of sheet us (sheet_fields (concat (saved_rows w.names w.book sheet))) ≡ fold (taken_in w.book.texts) (us, []) (fields_on w.names w.book sheet)
saved_over w sheet us h =
    ap (λ text. cells_of sheet us (sheet_fields text)) (same_text w.names w.book sheet (numbers_from 1 (last_row sheet w.book.cells)))
    ∙ sheet_reads_over sheet w.book.texts us (read_rows w.names w.book sheet) (are_savable w sheet h)
    ∙ ap (fold (taken_in w.book.texts) (us, [])) (fields_are w sheet h)

pub saved_taken : (w : SharedBook) (sheet room : ℕ) → IsWorkbook w → AreUtf8 w.names w.book sheet → length (cells_on sheet w.book.cells) ≤ room →
    first_fault room (sheet_fields (concat (saved_rows w.names w.book sheet))) ≡ None
saved_taken w sheet room h u l =
    ap (λ text. first_fault room (sheet_fields text)) (same_text w.names w.book sheet (numbers_from 1 (last_row sheet w.book.cells)))
    ∙ sheet_is_taken sheet room w.book.texts (read_rows w.names w.book sheet) (are_savable w sheet h) (fit_sheet w sheet room h u l)

pub saved_reads_back : SheetReadsBack
saved_reads_back w sheet room h d u l = record {
  cells = saved_over w sheet w.book.texts h ∙ taken_again w.names w.book.texts (length w.names) (cells_on sheet w.book.cells) [] d (cells_of_sheet w sheet h);
  taken = saved_taken w sheet room h u l;
}

-- ---- each cell

pub short_enough : (n : ℕ) → nat_lt MAX_FORMULA_BYTES n ≡ false → n ≤ MAX_FORMULA_BYTES
short_enough n e = grind (arith, e)

pub cell_reads_back : CellReadsBack
cell_reads_back w h names d a (Content.Number n) e s = (refl, refl)
cell_reads_back w h names d a (Content.Text t) e s = (refl, refl)
cell_reads_back w h names d a (Content.Truth b) e s = (refl, refl)
cell_reads_back w h names d a (Content.Formula t) e s =
    let c = h.cells a (Content.Formula t) e in
    let short = short_enough (length (printed w.names w.book.texts a t)) s in
    let means = printed_reads_back w.names w.book.texts a t names d c.on_sheet c.sound c.texts c.sheets short in
    let same = printed_interns_nothing w.names w.book.texts a t names d c.on_sheet c.sound c.texts c.sheets short in
    ((t, subst (λ ts. Means w.names ts a (printed w.names w.book.texts a t) t) (sym same) means, refl), same)
