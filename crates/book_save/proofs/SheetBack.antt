-- What is saved of rows is read as their cells.
use Rattle.std.proofs.Common.{◌≡◌, ◌≢◌, ℕ, ◌+◌, ◌-◌, ◌<◌, ◌≤◌, Bool, true, false, cond, List, [], ◌∷◌, ◌++◌, length, map, fold, None, refl, ap, sym, ◌∙◌, arith, All}
use Rattle.std.specs.List.{enumerate_from, flat_map}
use Rattle.std.specs.Str.{is_utf8}
use Rattle.std.proofs.lemmas.Bool.Decides.{nat_tests}
use Rattle.std.proofs.lemmas.List.{length-append, length-map}
use Rattle.std.proofs.lemmas.List.Elements.{All-cons, All-head, All-nil, All-tail}
use Rattle.std.proofs.lemmas.List.Sums.{fold-append}
use Rattle.std.proofs.lemmas.Str.{IsUtf8-from_is_utf8}
use Rattle.cell_values.specs.declared.TheConstants.{LAST_COLUMN, LAST_ROW}
use Rattle.cell_values.specs.declared.address.Addr.{Addr}
use Rattle.cell_values.specs.declared.fields.Raw.{Raw}
use Rattle.cell_values.specs.Fields.{raw_of}
use Rattle.cell_values.specs.Texts.{Texts}
use Rattle.book_save.specs.Fields.{begins_with_mark}
use Rattle.book_save.specs.Laws.{AreWritable, first_field, rows_text}
use Rattle.sheet_csv.specs.Sheet.{Field, Sheet, cells_of, fields_from, first_fault, is_in_sheet, row_fields, sheet_fields, with_field}
use Rattle.book_save.proofs.FieldsBack.{AsRead, IsSavable, field_is_plain, field_reads_over, raw_field, read_over}
use Rattle.book_save.proofs.RowsBack.{fields_read_back}
use Rattle.sheet_csv.proofs.SheetFacts.{field_empty, field_fits, fields_more, fields_none, no_fields, passed_field, placed, room_less, room_same, with_cell, with_empty}

abbrev pub is_nothing : Raw → Bool
is_nothing Raw.Nothing = true
is_nothing (Raw.Number n) = false
is_nothing (Raw.Text t) = false
is_nothing (Raw.Bool b) = false
is_nothing (Raw.Formula text) = false

-- the cell at a column of a row, where there is one
abbrev pub cell_there : ℕ → ℕ → ℕ × Raw → List (Addr × Raw)
cell_there sheet row (col, raw) = cond (is_nothing raw) [] ((record { sheet = sheet; row = row; col = col }, raw) ∷ [])

abbrev pub cells_of_row : ℕ → ℕ × List Raw → List (Addr × Raw)
cells_of_row sheet (row, raws) = flat_map (cell_there sheet row) (enumerate_from 1 raws)

-- the cells of rows, the first row being row 1
abbrev pub cells_of_rows : ℕ → List (List Raw) → List (Addr × Raw)
cells_of_rows sheet rows = flat_map (cells_of_row sheet) (enumerate_from 1 rows)

-- the rows that are written of these
abbrev pub fields_of_rows : Texts → List (List Raw) → List (List (List ℕ))
fields_of_rows ts rows = map (map (raw_field ts)) rows

-- each row has a field, and each field is of what can be saved
pub record AreSavable (ts : Texts) (rows : List (List Raw)) : Type 0 where
  pub some : All (λ row. 0 < length row) rows
  pub raws : All (λ row. All (IsSavable ts) row) rows

-- the rows lie in a sheet that has room for their cells, and their fields are UTF-8
pub record FitSheet (ts : Texts) (sheet room : ℕ) (rows : List (List Raw)) : Type 0 where
  pub last_row : length rows ≤ LAST_ROW
  pub last_column : All (λ row. length row ≤ LAST_COLUMN) rows
  pub cells : length (cells_of_rows sheet rows) ≤ room
  pub utf8 : All (λ row. All (λ raw. is_utf8 (raw_field ts raw) ≡ true) row) rows

abbrev Cells : Type 0
Cells = List (Addr × Raw)

-- the field of what stands at a place
abbrev field_of : Texts → ℕ → ℕ → Raw → Field
field_of ts row col raw = record { row = row; col = col; bytes = raw_field ts raw }

-- the cells of a row from a column on
abbrev held : ℕ → ℕ → ℕ → List Raw → Cells
held sheet row col raws = flat_map (cell_there sheet row) (enumerate_from col raws)

-- one more cell, read over the texts so far
abbrev pub taken_in : Texts → Sheet → Addr × Raw → Sheet
taken_in ts (us, cells) (a, raw) = ((read_over ts us raw).0, cells ++ (a, (read_over ts us raw).1) ∷ [])

-- One field.

-- what is there has a field that is not empty, which is read as it
record IsThere (ts : Texts) (raw : Raw) : Type 0 where
  some : 0 < length (raw_field ts raw)
  back : (us : Texts) → raw_of us (raw_field ts raw) ≡ read_over ts us raw

is_there : (ts : Texts) (raw : Raw) → raw ≢ Raw.Nothing → IsSavable ts raw → IsThere ts raw
is_there ts raw n h = record { some = (field_is_plain ts raw h).1 n; back = λ us. field_reads_over ts us raw h }

data Held (ts : Texts) (raw : Raw) : Type 0 where
  none : raw ≡ Raw.Nothing → Held ts raw
  some : is_nothing raw ≡ false → IsThere ts raw → Held ts raw

held_by : (ts : Texts) (raw : Raw) → IsSavable ts raw → Held ts raw
held_by ts Raw.Nothing h = Held.none refl
held_by ts (Raw.Number n) h = Held.some refl (is_there ts (Raw.Number n) (λ e. cc) h)
held_by ts (Raw.Text t) h = Held.some refl (is_there ts (Raw.Text t) (λ e. cc) h)
held_by ts (Raw.Bool b) h = Held.some refl (is_there ts (Raw.Bool b) (λ e. cc) h)
held_by ts (Raw.Formula text) h = Held.some refl (is_there ts (Raw.Formula text) (λ e. cc) h)

one_read : (sheet row col : ℕ) (ts us : Texts) (cells : Cells) (raw : Raw) → Held ts raw → with_field sheet (us, cells) (field_of ts row col raw) ≡ fold (taken_in ts) (us, cells) (cell_there sheet row (col, raw))
one_read sheet row col ts us cells raw (Held.none e) = rw e (with_empty sheet us cells (field_of ts row col Raw.Nothing) refl)
one_read sheet row col ts us cells raw (Held.some e h) =
    with_cell sheet us cells (field_of ts row col raw) h.some
    ∙ ap (λ (p : AsRead). (p.0, cells ++ (record { sheet = sheet; row = row; col = col }, p.1) ∷ [])) (h.back us)
    ∙ ap (λ t. fold (taken_in ts) (us, cells) (cond t [] ((record { sheet = sheet; row = row; col = col }, raw) ∷ []))) (sym e)

-- Cells.

row_read : (sheet row col : ℕ) (ts us : Texts) (cells : Cells) (raws : List Raw) → All (IsSavable ts) raws → fold (with_field sheet) (us, cells) (placed row col (map (raw_field ts) raws)) ≡ fold (taken_in ts) (us, cells) (held sheet row col raws)
row_read sheet row col ts us cells [] h = refl
row_read sheet row col ts us cells (raw ∷ raws) h =
    let here = cell_there sheet row (col, raw) in
    let now : Sheet = fold (taken_in ts) (us, cells) here in
    ap (λ (s : Sheet). fold (with_field sheet) s (placed row (col + 1) (map (raw_field ts) raws))) (one_read sheet row col ts us cells raw (held_by ts raw (All-head (IsSavable ts) raw raws h)))
    ∙ row_read sheet row (col + 1) ts now.0 now.1 raws (All-tail (IsSavable ts) raw raws h)
    ∙ sym (fold-append (taken_in ts) (us, cells) here (held sheet row (col + 1) raws))

abbrev RowIsSavable : Texts → List Raw → Type 0
RowIsSavable ts row = All (IsSavable ts) row

rows_read : (sheet row : ℕ) (ts us : Texts) (cells : Cells) (rows : List (List Raw)) → All (RowIsSavable ts) rows → fold (with_field sheet) (us, cells) (fields_from row (fields_of_rows ts rows)) ≡ fold (taken_in ts) (us, cells) (flat_map (cells_of_row sheet) (enumerate_from row rows))
rows_read sheet row ts us cells [] h = ap (fold (with_field sheet) (us, cells)) (fields_none row)
rows_read sheet row ts us cells (raws ∷ rows) h =
    let g = with_field sheet in
    let here = held sheet row 1 raws in
    let now : Sheet = fold (taken_in ts) (us, cells) here in
    let first = map (raw_field ts) raws in
    ap (fold g (us, cells)) (fields_more row first (fields_of_rows ts rows))
    ∙ fold-append g (us, cells) (row_fields (row, first)) (fields_from (row + 1) (fields_of_rows ts rows))
    ∙ ap (λ (s : Sheet). fold g s (fields_from (row + 1) (fields_of_rows ts rows))) (row_read sheet row 1 ts us cells raws (All-head (RowIsSavable ts) raws rows h))
    ∙ rows_read sheet (row + 1) ts now.0 now.1 rows (All-tail (RowIsSavable ts) raws rows h)
    ∙ sym (fold-append (taken_in ts) (us, cells) here (flat_map (cells_of_row sheet) (enumerate_from (row + 1) rows)))

-- What is written.

rows_some : (ts : Texts) (rows : List (List Raw)) → All (λ (row : List Raw). 0 < length row) rows → All (λ (row : List (List ℕ)). 0 < length row) (fields_of_rows ts rows)
rows_some ts [] h = All-nil (λ (row : List (List ℕ)). 0 < length row)
rows_some ts (raws ∷ rows) h =
    let here = All-head (λ (row : List Raw). 0 < length row) raws rows h in
    All-cons (λ (row : List (List ℕ)). 0 < length row) (map (raw_field ts) raws) (fields_of_rows ts rows) (omega (arith, here, length-map raws (raw_field ts))) (rows_some ts rows (All-tail (λ (row : List Raw). 0 < length row) raws rows h))

no_mark : (ts : Texts) (rows : List (List Raw)) → All (RowIsSavable ts) rows → begins_with_mark (first_field (fields_of_rows ts rows)) ≡ false
no_mark ts [] h = refl
no_mark ts ([] ∷ rows) h = refl
no_mark ts ((raw ∷ raws) ∷ rows) h = (field_is_plain ts raw (All-head (IsSavable ts) raw raws (All-head (RowIsSavable ts) (raw ∷ raws) rows h))).0

writable : (ts : Texts) (rows : List (List Raw)) → AreSavable ts rows → AreWritable (fields_of_rows ts rows)
writable ts rows h = record { some = rows_some ts rows h.some; no_mark = no_mark ts rows h.raws }

-- what is saved of rows is read as their cells, over any texts
pub sheet_reads_over : (sheet : ℕ) (ts us : Texts) (rows : List (List Raw)) → AreSavable ts rows →
    cells_of sheet us (sheet_fields (rows_text (fields_of_rows ts rows))) ≡ fold (taken_in ts) (us, []) (cells_of_rows sheet rows)
sheet_reads_over sheet ts us rows h =
    ap (fold (with_field sheet) (us, [])) (fields_read_back (fields_of_rows ts rows) (writable ts rows h))
    ∙ rows_read sheet 1 ts us [] rows h.raws

-- Faults.

inside : (f : Field) → f.row ≤ 65536 → f.col ≤ 256 → is_in_sheet f ≡ true
inside f r k = grind (arith, nat_tests)

one_taken : (room sheet row col : ℕ) (ts : Texts) (raw : Raw) (rest : List Field) → Held ts raw → is_utf8 (raw_field ts raw) ≡ true → row ≤ 65536 → col ≤ 256 → length (cell_there sheet row (col, raw)) ≤ room → first_fault room (field_of ts row col raw ∷ rest) ≡ first_fault (room - length (cell_there sheet row (col, raw))) rest
one_taken room sheet row col ts raw rest (Held.none e) u r k l =
    let f = field_of ts row col raw in
    let empty : length f.bytes ≡ 0 = ap (λ (x : Raw). length (raw_field ts x)) e in
    let less : room ≡ room - length (cell_there sheet row (col, raw)) = rw e (omega arith) in
    passed_field room f rest (field_empty room f (IsUtf8-from_is_utf8 f.bytes u) empty) ∙ ap (λ n. first_fault n rest) (room_same room f empty ∙ less)
one_taken room sheet row col ts raw rest (Held.some e h) u r k l =
    let f = field_of ts row col raw in
    let one : length (cell_there sheet row (col, raw)) ≡ 1 = rw e refl in
    let less : room - 1 ≡ room - length (cell_there sheet row (col, raw)) = omega arith in
    passed_field room f rest (field_fits room f (IsUtf8-from_is_utf8 f.bytes u) h.some (inside f r k) (omega arith)) ∙ ap (λ n. first_fault n rest) (room_less room f h.some ∙ less)

abbrev InUtf8 : Texts → Raw → Type 0
InUtf8 ts raw = is_utf8 (raw_field ts raw) ≡ true

row_taken : (room sheet row col : ℕ) (ts : Texts) (raws : List Raw) (rest : List Field) → All (IsSavable ts) raws → All (InUtf8 ts) raws → row ≤ 65536 → col + length raws ≤ 257 → length (held sheet row col raws) ≤ room → first_fault room (placed row col (map (raw_field ts) raws) ++ rest) ≡ first_fault (room - length (held sheet row col raws)) rest
row_taken room sheet row col ts [] rest h u r k l = ap (λ n. first_fault n rest) (omega arith)
row_taken room sheet row col ts (raw ∷ raws) rest h u r k l =
    let here = cell_there sheet row (col, raw) in
    let there = held sheet row (col + 1) raws in
    let all = length-append here there in
    let s = All-head (IsSavable ts) raw raws h in
    one_taken room sheet row col ts raw (placed row (col + 1) (map (raw_field ts) raws) ++ rest) (held_by ts raw s) (All-head (InUtf8 ts) raw raws u) r (omega arith) (omega (arith, all, l))
    ∙ row_taken (room - length here) sheet row (col + 1) ts raws rest (All-tail (IsSavable ts) raw raws h) (All-tail (InUtf8 ts) raw raws u) r (omega arith) (omega (arith, all, l))
    ∙ ap (λ n. first_fault n rest) (omega (arith, all))

abbrev RowInUtf8 : Texts → List Raw → Type 0
RowInUtf8 ts row = All (InUtf8 ts) row

abbrev RowFits : List Raw → Type 0
RowFits row = length row ≤ 256

rows_taken : (room sheet row : ℕ) (ts : Texts) (rows : List (List Raw)) → All (RowIsSavable ts) rows → All (RowInUtf8 ts) rows → All RowFits rows → row + length rows ≤ 65537 → length (flat_map (cells_of_row sheet) (enumerate_from row rows)) ≤ room → first_fault room (fields_from row (fields_of_rows ts rows)) ≡ None
rows_taken room sheet row ts [] h u c r l = ap (first_fault room) (fields_none row) ∙ no_fields room
rows_taken room sheet row ts (raws ∷ rows) h u c r l =
    let here = held sheet row 1 raws in
    let there = flat_map (cells_of_row sheet) (enumerate_from (row + 1) rows) in
    let all = length-append here there in
    let wide = All-head RowFits raws rows c in
    ap (first_fault room) (fields_more row (map (raw_field ts) raws) (fields_of_rows ts rows))
    ∙ row_taken room sheet row 1 ts raws (fields_from (row + 1) (fields_of_rows ts rows)) (All-head (RowIsSavable ts) raws rows h) (All-head (RowInUtf8 ts) raws rows u) (omega arith) (omega (arith, wide)) (omega (arith, all, l))
    ∙ rows_taken (room - length here) sheet (row + 1) ts rows (All-tail (RowIsSavable ts) raws rows h) (All-tail (RowInUtf8 ts) raws rows u) (All-tail RowFits raws rows c) (omega arith) (omega (arith, all, l))

-- and no field of it is refused
pub sheet_is_taken : (sheet room : ℕ) (ts : Texts) (rows : List (List Raw)) → AreSavable ts rows → FitSheet ts sheet room rows → first_fault room (sheet_fields (rows_text (fields_of_rows ts rows))) ≡ None
sheet_is_taken sheet room ts rows h f =
    ap (first_fault room) (fields_read_back (fields_of_rows ts rows) (writable ts rows h))
    ∙ rows_taken room sheet 1 ts rows h.raws f.utf8 f.last_column (omega (arith, f.last_row)) f.cells
