-- Saved sheets are loaded as the same cells, with their texts under other numbers.
use Rattle.std.proofs.Common.{◌≡◌, ℕ, zero, suc, ◌+◌, ◌-◌, ◌≤◌, false, cond, nat_lt, List, [], ◌∷◌, ◌++◌, length, map, fold, unwrap_or, Some, Ok, Err, refl, sym, ap, ◌∙◌, append_assoc, arith}
use Rattle.std.specs.List.{concat, flat_map}
use Rattle.std.specs.Result.{result_map_both}
use Rattle.std.proofs.lemmas.List.{append-nil, length-append, length-map, map-append}
use Rattle.cell_values.specs.declared.TheConstants.{MAX_BOOK_CELLS}
use Rattle.cell_values.specs.declared.address.Addr.{Addr}
use Rattle.cell_values.specs.declared.fields.Raw.{Raw}
use Rattle.cell_values.specs.declared.interned.TextId.{TextId}
use Rattle.cell_values.specs.Areas.{numbers_from}
use Rattle.cell_values.specs.Interned.{AreDistinct, KeepsTexts, interned}
use Rattle.cell_values.specs.Names.{AreSheetNames}
use Rattle.cell_values.specs.Texts.{Texts, text_at}
use Rattle.sheet_csv.specs.Sheet.{cells_of, sheet_fields}
use Rattle.sheet_csv.proofs.SheetFacts.{kept_more}
use Rattle.formula_trees.specs.TextNumbers.{TextsBelow}
use Rattle.formula_tokens.specs.Tokens.{with_literals}
use Rattle.formula_tokens.proofs.Reading.{interned_number}
use Rattle.formula_grammar.specs.Printed.{printed}
use Rattle.formula_grammar.specs.Reading.{IsReading, Reading}
use Rattle.demand_spec.specs.Book.{Book, Content}
use Rattle.demand_spec.specs.Edits.{Cells, with_cell}
use Rattle.workbook_core.specs.Books.{IsCell, IsWorkbook, SharedBook}
use Rattle.sheet_loading.specs.Contents.{before_cells, content_read, fields_read}
use Rattle.sheet_loading.specs.Sheets.{add_sheets, book_of_sheet, sheet_added, sheet_read, then_sheets, unless_fault, with_sheet}
use Rattle.sheet_loading.specs.declared.faults.SheetRefusal.{SheetRefusal}
use Rattle.sheet_loading.proofs.Trees.{reads_tree}
use Rattle.book_save.specs.Fields.{is_long}
use Rattle.book_save.specs.Laws.{field_read, fields_on}
use Rattle.book_save.specs.Loaded.{ContentHasNumbers, HasNumber, renumbered, renumbered_text, renumbered_tree, saved_sheet}
use Rattle.book_save.specs.Rows.{AreUtf8, cells_on}
use Rattle.book_save.proofs.CellsBack.{Fields, as_read, saved_over, saved_taken, short_enough}
use Rattle.book_save.proofs.Each.{EachCell, each_both}
use Rattle.book_save.proofs.FieldsBack.{read_over}
use Rattle.book_save.proofs.Interning.{Grows, grows_interned, grows_literals, grows_none, grows_then, number_kept}
use Rattle.book_save.proofs.Renumbered.{IsFormulaAt, have_numbers, means_known, numbers_stay, renumbered_cells}
use Rattle.book_save.proofs.SheetBack.{taken_in}

-- ---- fields

-- the field of a cell, as it is read over other texts
abbrev over : List (List ℕ) → Texts → Texts → Addr → Content → Raw
over names ts us a (Content.Number n) = Raw.Number n
over names ts us a (Content.Text t) = Raw.Text (renumbered_text ts us t)
over names ts us a (Content.Truth b) = Raw.Bool b
over names ts us a (Content.Formula t) = Raw.Formula (printed names ts a t)

abbrev overs : List (List ℕ) → Texts → Texts → Cells → Fields
overs names ts us cs = map (λ c. (c.0, over names ts us c.0 c.1)) cs

raw_grows : (ts us : Texts) (raw : Raw) → Grows us (read_over ts us raw).0
raw_grows ts us Raw.Nothing = grows_none us
raw_grows ts us (Raw.Number n) = grows_none us
raw_grows ts us (Raw.Text t) = grows_interned us (text_at ts t)
raw_grows ts us (Raw.Bool b) = grows_none us
raw_grows ts us (Raw.Formula text) = grows_none us

taken_grows : (ts us : Texts) (acc xs : Fields) → Grows us (fold (taken_in ts) (us, acc) xs).0
taken_grows ts us acc [] = grows_none us
taken_grows ts us acc (x ∷ xs) =
    let r = read_over ts us x.1 in
    grows_then us r.0 (fold (taken_in ts) (us, acc) (x ∷ xs)).0 (raw_grows ts us x.1) (taken_grows ts r.0 (acc ++ (x.0, r.1) ∷ []) xs)

one_over : (names : List (List ℕ)) (ts us more : Texts) (a : Addr) (c : Content) → KeepsTexts (read_over ts us (field_read names ts a c)).0 more → (read_over ts us (field_read names ts a c)).1 ≡ over names ts more a c
one_over names ts us more a (Content.Number n) k = refl
one_over names ts us more a (Content.Text t) k =
    let q = text_at ts t in
    let e = number_kept (interned us q).0 more q (interned us q).1.0 k (interned_number us q) in
    λ i. Raw.Text (record { 0 = unwrap_or (sym e i) 0 })
one_over names ts us more a (Content.Truth b) k = refl
one_over names ts us more a (Content.Formula t) k = refl

taken_over : (names : List (List ℕ)) (ts us more : Texts) (acc : Fields) (cs : Cells) → KeepsTexts (fold (taken_in ts) (us, acc) (map (as_read names ts) cs)).0 more →
    fold (taken_in ts) (us, acc) (map (as_read names ts) cs) ≡ ((fold (taken_in ts) (us, acc) (map (as_read names ts) cs)).0, acc ++ overs names ts more cs)
taken_over names ts us more acc [] k = ap (λ (fs : Fields). (us, fs)) (sym (append-nil acc))
taken_over names ts us more acc (c ∷ cs) k =
    let r = read_over ts us (field_read names ts c.0 c.1) in
    let now = acc ++ (c.0, r.1) ∷ [] in
    let last = (fold (taken_in ts) (r.0, now) (map (as_read names ts) cs)).0 in
    let here = one_over names ts us more c.0 c.1 (kept_more r.0 last more (taken_grows ts r.0 now (map (as_read names ts) cs)).keeps k) in
    taken_over names ts r.0 more now cs k
    ∙ ap (λ (fs : Fields). (last, fs)) (append_assoc acc ((c.0, r.1) ∷ []) (overs names ts more cs))
    ∙ ap (λ (raw : Raw). (last, acc ++ (c.0, raw) ∷ overs names ts more cs)) here

-- ---- formulas

-- a cell whose formula is not too long
abbrev pub IsSaved : List (List ℕ) → Texts → Addr → Content → Type 0
IsSaved names ts a c = IsCell ts (length names) a c × (is_long names ts a c ≡ false)

-- the texts behind a cell's formula, and behind those of cells
abbrev behind : List (List ℕ) → Texts → Texts → Addr → Content → Texts
behind names ts us a (Content.Number n) = us
behind names ts us a (Content.Text t) = us
behind names ts us a (Content.Truth b) = us
behind names ts us a (Content.Formula t) = with_literals names us (printed names ts a t)

abbrev behind_all : List (List ℕ) → Texts → Texts → Cells → Texts
behind_all names ts us [] = us
behind_all names ts us (c ∷ cs) = behind_all names ts (behind names ts us c.0 c.1) cs

behind_grows : (names : List (List ℕ)) (ts us : Texts) (a : Addr) (c : Content) → Grows us (behind names ts us a c)
behind_grows names ts us a (Content.Number n) = grows_none us
behind_grows names ts us a (Content.Text t) = grows_none us
behind_grows names ts us a (Content.Truth b) = grows_none us
behind_grows names ts us a (Content.Formula t) = grows_literals names us (printed names ts a t)

all_grow : (names : List (List ℕ)) (ts us : Texts) (cs : Cells) → Grows us (behind_all names ts us cs)
all_grow names ts us [] = grows_none us
all_grow names ts us (c ∷ cs) =
    let now = behind names ts us c.0 c.1 in
    grows_then us now (behind_all names ts now cs) (behind_grows names ts us c.0 c.1) (all_grow names ts now cs)

-- ---- numbers

-- a text that was interned has its number
text_numbered : (names : List (List ℕ)) (ts us more : Texts) (a : Addr) (t : TextId) → KeepsTexts (read_over ts us (field_read names ts a (Content.Text t))).0 more → HasNumber ts more t.0
text_numbered names ts us more a t k =
    let q = text_at ts t in
    record { number = (interned us q).1.0; is = number_kept (interned us q).0 more q (interned us q).1.0 k (interned_number us q) }

-- the formulas have numbers for their texts
abbrev FormulaHasNumbers : Texts → Texts → Content → Type 0
FormulaHasNumbers ts us (Content.Number n) = Unit {0}
FormulaHasNumbers ts us (Content.Text t) = Unit {0}
FormulaHasNumbers ts us (Content.Truth b) = Unit {0}
FormulaHasNumbers ts us (Content.Formula e) = TextsBelow (HasNumber ts us) e

content_numbered : (names : List (List ℕ)) (ts us more : Texts) (a : Addr) (c : Content) → KeepsTexts (read_over ts us (field_read names ts a c)).0 more → FormulaHasNumbers ts more c → ContentHasNumbers ts more c
content_numbered names ts us more a (Content.Number n) k h = tt
content_numbered names ts us more a (Content.Text t) k h = text_numbered names ts us more a t k
content_numbered names ts us more a (Content.Truth b) k h = tt
content_numbered names ts us more a (Content.Formula e) k h = h

taken_numbered : (names : List (List ℕ)) (ts us more : Texts) (acc : Fields) (cs : Cells) → KeepsTexts (fold (taken_in ts) (us, acc) (map (as_read names ts) cs)).0 more →
    EachCell (λ a c. FormulaHasNumbers ts more c) cs → EachCell (λ a c. ContentHasNumbers ts more c) cs
taken_numbered names ts us more acc [] k h = tt
taken_numbered names ts us more acc (c ∷ cs) k h =
    let r = read_over ts us (field_read names ts c.0 c.1) in
    let now = acc ++ (c.0, r.1) ∷ [] in
    let last = (fold (taken_in ts) (r.0, now) (map (as_read names ts) cs)).0 in
    (content_numbered names ts us more c.0 c.1 (kept_more r.0 last more (taken_grows ts r.0 now (map (as_read names ts) cs)).keeps k) h.0, taken_numbered names ts r.0 more now cs k h.1)

module _ (read : Reading) (names : List (List ℕ)) (ts : Texts) (right : IsReading names read) (good : AreSheetNames names) where
  content_over : (us more : Texts) (a : Addr) (c : Content) → AreDistinct us → KeepsTexts (behind names ts us a c) more → IsSaved names ts a c →
      content_read read names us a (over names ts more a c) ≡ Ok (behind names ts us a c, Some (renumbered ts more c))
  unfolding content_read
  content_over us more a (Content.Number n) d k h = refl
  content_over us more a (Content.Text t) d k h = refl
  content_over us more a (Content.Truth b) d k h = refl
  content_over us more a (Content.Formula t) d k h =
      let text = printed names ts a t in
      let known = with_literals names us text in
      let f : IsFormulaAt names ts a t = record { on_sheet = h.0.on_sheet; sound = h.0.sound; texts = h.0.texts; sheets = h.0.sheets; short = short_enough (length text) h.1 } in
      let m = means_known names ts us a t good d f in
      ap (result_map_both (λ tree. (known, Some (Content.Formula tree))) (λ fault. fault)) (reads_tree names known a text (renumbered_tree ts known t) m.means read right)
      ∙ ap (λ tree. Ok (known, Some (Content.Formula tree))) (numbers_stay ts known more k t m.numbers)

  formula_numbered : (us more : Texts) (a : Addr) (c : Content) → AreDistinct us → KeepsTexts (behind names ts us a c) more → IsSaved names ts a c → FormulaHasNumbers ts more c
  formula_numbered us more a (Content.Number n) d k h = tt
  formula_numbered us more a (Content.Text t) d k h = tt
  formula_numbered us more a (Content.Truth b) d k h = tt
  formula_numbered us more a (Content.Formula t) d k h =
      let text = printed names ts a t in
      let known = with_literals names us text in
      let f : IsFormulaAt names ts a t = record { on_sheet = h.0.on_sheet; sound = h.0.sound; texts = h.0.texts; sheets = h.0.sheets; short = short_enough (length text) h.1 } in
      have_numbers ts known more k t (means_known names ts us a t good d f).numbers

  formulas_numbered : (us more : Texts) (cs : Cells) → AreDistinct us → KeepsTexts (behind_all names ts us cs) more → EachCell (IsSaved names ts) cs → EachCell (λ a c. FormulaHasNumbers ts more c) cs
  formulas_numbered us more [] d k h = tt
  formulas_numbered us more (c ∷ cs) d k h =
      let now = behind names ts us c.0 c.1 in
      let g = behind_grows names ts us c.0 c.1 in
      (formula_numbered us more c.0 c.1 d (kept_more now (behind_all names ts now cs) more (all_grow names ts now cs).keeps k) h.0, formulas_numbered now more cs (g.distinct d) k h.1)

  fields_over : (us more : Texts) (cs : Cells) → AreDistinct us → KeepsTexts (behind_all names ts us cs) more → EachCell (IsSaved names ts) cs →
      fields_read read names us (overs names ts more cs) ≡ Ok (record { cells = renumbered_cells ts more cs; texts = behind_all names ts us cs })
  unfolding fields_read
  fields_over us more [] d k h = refl
  fields_over us more (c ∷ cs) d k h =
      let now = behind names ts us c.0 c.1 in
      let g = behind_grows names ts us c.0 c.1 in
      let first = content_over us more c.0 c.1 d (kept_more now (behind_all names ts now cs) more (all_grow names ts now cs).keeps k) h.0 in
      ap (λ r. before_cells c.0 r (λ known. fields_read read names known (overs names ts more cs))) first
      ∙ ap (result_map_both (λ (b : Book). record { cells = with_cell c.0 (Some (renumbered ts more c.1)) b.cells; texts = b.texts }) (λ (why : SheetRefusal). why)) (fields_over now more cs (g.distinct d) k h.1)

-- ---- sheets

-- the cells of sheets from one on
abbrev pub cells_from : SharedBook → ℕ → ℕ → Cells
cells_from w sheet n = flat_map (λ s. cells_on s w.book.cells) (numbers_from sheet n)

module _ (read : Reading) (w : SharedBook) (right : IsReading w.names read) (good : AreSheetNames w.names) (h : IsWorkbook w)
    (utf8 : (sheet : ℕ) → AreUtf8 w.names w.book sheet) (each : (sheet : ℕ) → EachCell (IsSaved w.names w.book.texts) (cells_on sheet w.book.cells)) where
  -- the texts behind a sheet, and behind sheets from one on
  abbrev behind_sheet : Texts → ℕ → Texts
  behind_sheet us sheet = behind_all w.names w.book.texts (fold (taken_in w.book.texts) (us, []) (fields_on w.names w.book sheet)).0 (cells_on sheet w.book.cells)

  abbrev pub behind_sheets : Texts → ℕ → ℕ → Texts
  behind_sheets us sheet zero = us
  behind_sheets us sheet (suc n) = behind_sheets (behind_sheet us sheet) (suc sheet) n

  sheet_grows : (us : Texts) (sheet : ℕ) → Grows us (behind_sheet us sheet)
  sheet_grows us sheet =
      let now = (fold (taken_in w.book.texts) (us, []) (fields_on w.names w.book sheet)).0 in
      grows_then us now (behind_sheet us sheet) (taken_grows w.book.texts us [] (fields_on w.names w.book sheet)) (all_grow w.names w.book.texts now (cells_on sheet w.book.cells))

  pub sheets_grow : (us : Texts) (sheet n : ℕ) → Grows us (behind_sheets us sheet n)
  sheets_grow us sheet zero = grows_none us
  sheets_grow us sheet (suc n) =
      let now = behind_sheet us sheet in
      grows_then us now (behind_sheets now (suc sheet) n) (sheet_grows us sheet) (sheets_grow now (suc sheet) n)

  sheet_over : (us more : Texts) (sheet room : ℕ) → AreDistinct us → KeepsTexts (behind_sheet us sheet) more → length (cells_on sheet w.book.cells) ≤ room →
      sheet_read read w.names sheet us room (saved_sheet w.names w.book sheet) ≡ Ok (record { cells = renumbered_cells w.book.texts more (cells_on sheet w.book.cells); texts = behind_sheet us sheet })
  unfolding sheet_read
  sheet_over us more sheet room d k l =
      let cs = cells_on sheet w.book.cells in
      let bytes = saved_sheet w.names w.book sheet in
      let now = (fold (taken_in w.book.texts) (us, []) (fields_on w.names w.book sheet)).0 in
      let first = taken_grows w.book.texts us [] (fields_on w.names w.book sheet) in
      let kept = kept_more now (behind_sheet us sheet) more (all_grow w.names w.book.texts now cs).keeps k in
      ap (λ o. unless_fault o (book_of_sheet read w.names (cells_of sheet us (sheet_fields bytes)))) (saved_taken w sheet room h (utf8 sheet) l)
      ∙ ap (book_of_sheet read w.names) (saved_over w sheet us h ∙ taken_over w.names w.book.texts us more [] cs kept)
      ∙ fields_over read w.names w.book.texts right good now more cs (first.distinct d) k (each sheet)

  sheet_numbered : (us more : Texts) (sheet : ℕ) → AreDistinct us → KeepsTexts (behind_sheet us sheet) more → EachCell (λ a c. ContentHasNumbers w.book.texts more c) (cells_on sheet w.book.cells)
  sheet_numbered us more sheet d k =
      let cs = cells_on sheet w.book.cells in
      let now = (fold (taken_in w.book.texts) (us, []) (fields_on w.names w.book sheet)).0 in
      let first = taken_grows w.book.texts us [] (fields_on w.names w.book sheet) in
      let kept = kept_more now (behind_sheet us sheet) more (all_grow w.names w.book.texts now cs).keeps k in
      taken_numbered w.names w.book.texts us more [] cs kept (formulas_numbered read w.names w.book.texts right good now more cs (first.distinct d) k (each sheet))

  not_below : (n m : ℕ) → m ≤ n → nat_lt n m ≡ false
  not_below n m l = grind (arith, l)

  added_over : (more : Texts) (sheet left : ℕ) (b : Book) → AreDistinct b.texts → KeepsTexts (behind_sheet b.texts sheet) more → length (saved_sheet w.names w.book sheet) ≤ left →
      length b.cells + length (cells_on sheet w.book.cells) ≤ MAX_BOOK_CELLS →
      sheet_added read w.names sheet left b (saved_sheet w.names w.book sheet) ≡ Ok (record { cells = b.cells ++ renumbered_cells w.book.texts more (cells_on sheet w.book.cells); texts = behind_sheet b.texts sheet })
  unfolding sheet_added
  added_over more sheet left b d k l m =
      let bytes = saved_sheet w.names w.book sheet in
      let inside = result_map_both (with_sheet b) (λ (why : SheetRefusal). why) (sheet_read read w.names sheet b.texts (MAX_BOOK_CELLS - length b.cells) bytes) in
      ap (λ t. cond t (Err SheetRefusal.TooLong) inside) (not_below left (length bytes) l)
      ∙ ap (result_map_both (with_sheet b) (λ (why : SheetRefusal). why)) (sheet_over b.texts more sheet (MAX_BOOK_CELLS - length b.cells) d k (omega (arith, m)))

  next : (n : ℕ) → n + 1 ≡ suc n
  next n = omega arith

  pub sheets_over : (more : Texts) (sheet n left : ℕ) (b : Book) → AreDistinct b.texts → KeepsTexts (behind_sheets b.texts sheet n) more → length (concat (map (saved_sheet w.names w.book) (numbers_from sheet n))) ≤ left →
      length b.cells + length (cells_from w sheet n) ≤ MAX_BOOK_CELLS →
      add_sheets read w.names sheet left b (map (saved_sheet w.names w.book) (numbers_from sheet n)) ≡ Ok (record { cells = b.cells ++ renumbered_cells w.book.texts more (cells_from w sheet n); texts = behind_sheets b.texts sheet n })
  unfolding add_sheets
  sheets_over more sheet zero left b d k l m = ap (λ (cs : Cells). Ok (record { cells = cs; texts = b.texts })) (sym (append-nil b.cells))
  sheets_over more sheet (suc n) left b d k l m =
      let bytes = saved_sheet w.names w.book sheet in
      let others = map (saved_sheet w.names w.book) (numbers_from (suc sheet) n) in
      let here = renumbered_cells w.book.texts more (cells_on sheet w.book.cells) in
      let after = renumbered_cells w.book.texts more (cells_from w (suc sheet) n) in
      let now = behind_sheet b.texts sheet in
      let c : Book = record { cells = b.cells ++ here; texts = now } in
      let long = length-append bytes (concat others) in
      let many = length-append (cells_on sheet w.book.cells) (cells_from w (suc sheet) n) in
      let grown = length-append b.cells here in
      let same : length here ≡ length (cells_on sheet w.book.cells) = length-map {B = Addr × Content} (cells_on sheet w.book.cells) (λ (x : Addr × Content). (x.0, renumbered w.book.texts more x.1)) in
      ap (λ r. then_sheets sheet r (λ z. add_sheets read w.names (sheet + 1) (left - length bytes) z others))
      (added_over more sheet left b d (kept_more now (behind_sheets now (suc sheet) n) more (sheets_grow now (suc sheet) n).keeps k) (omega (arith, l, long)) (omega (arith, m, many)))
      ∙ ap (λ s. add_sheets read w.names s (left - length bytes) c others) (next sheet)
      ∙ sheets_over more (suc sheet) n (left - length bytes) c ((sheet_grows b.texts sheet).distinct d) k (omega (arith, l, long)) (omega (arith, m, many, grown, same))
      ∙ ap (λ (cs : Cells). Ok (record { cells = cs; texts = behind_sheets now (suc sheet) n })) (append_assoc b.cells here after)
      ∙ ap (λ (cs : Cells). Ok (record { cells = b.cells ++ cs; texts = behind_sheets now (suc sheet) n })) (sym (map-append {B = Addr × Content} (λ (x : Addr × Content). (x.0, renumbered w.book.texts more x.1)) (cells_on sheet w.book.cells) (cells_from w (suc sheet) n)))

  pub sheets_numbered : (us more : Texts) (sheet n : ℕ) → AreDistinct us → KeepsTexts (behind_sheets us sheet n) more → EachCell (λ a c. ContentHasNumbers w.book.texts more c) (cells_from w sheet n)
  sheets_numbered us more sheet zero d k = tt
  sheets_numbered us more sheet (suc n) d k =
      let now = behind_sheet us sheet in
      each_both (λ a c. ContentHasNumbers w.book.texts more c) (cells_on sheet w.book.cells) (cells_from w (suc sheet) n)
      (sheet_numbered us more sheet d (kept_more now (behind_sheets now (suc sheet) n) more (sheets_grow now (suc sheet) n).keeps k)) (sheets_numbered now more (suc sheet) n ((sheet_grows us sheet).distinct d) k)
