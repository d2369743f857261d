-- The formulas of a sheet are read one after the other.
use Rattle.std.proofs.Common.{◌≡◌, ℕ, suc, ◌+◌, ◌<◌, ◌⊎◌, inl, inr, List, [], ◌∷◌, drop, length, get_or, drop-cons, Some, None, Ok, Err, refl, sym, subst, ap, ◌∙◌, arith}
use Rattle.std.specs.List.{All}
use Rattle.std.specs.Result.{result_map_both}
use Rattle.cell_values.specs.declared.address.Addr.{Addr}
use Rattle.cell_values.specs.declared.fields.Raw.{Raw}
use Rattle.cell_values.specs.Addresses.{IsOnSheet}
use Rattle.cell_values.specs.Fields.{IsRawOf}
use Rattle.cell_values.specs.Interned.{KeepsTexts}
use Rattle.cell_values.specs.Order.{InOrder, addresses}
use Rattle.cell_values.specs.Texts.{Texts}
use Rattle.formula_grammar.specs.Reading.{Reading, IsReading}
use Rattle.sheet_csv.specs.declared.reading.SheetFault.{SheetFault}
use Rattle.sheet_csv.specs.Sheet.{sheet_fields, first_fault, cells_of}
use Rattle.sheet_csv.proofs.SheetFacts.{kept_none, kept_more}
use Rattle.demand_spec.specs.Edits.{with_cell}
use Rattle.sheet_loading.specs.declared.faults.LoadFault.{LoadFault}
use Rattle.sheet_loading.specs.declared.faults.SheetRefusal.{SheetRefusal}
use Rattle.sheet_loading.specs.Contents.{Names, before_cells, fields_read}
use Rattle.sheet_loading.specs.Faults.{IsLoadFault, load_fault_of}
use Rattle.sheet_loading.specs.Loaded.{cells_in, held_by}
use Rattle.sheet_loading.specs.Sheets.{book_of_sheet, sheet_read, unless_fault}
use Rattle.sheet_loading.specs.Steps.{IsFieldFault, ReadsField, ReadsFields, ReadsSheet}
use Rattle.sheet_loading.proofs.Placed.{placed_stay, sheet_placed}
use Rattle.sheet_loading.proofs.Trees.{held_stays, tree_stays}

-- the fields in front of `rest` were read, and what is read of `rest` decides
pub record ReadOn (names : Names) (ts : Texts) (fields : List (Addr × Raw)) (now : Texts) (rest : List (Addr × Raw)) : Type 0 where
  pub more : (us : Texts) → KeepsTexts now us → ReadsFields names now us rest → ReadsFields names ts us fields
  pub fault : (read : Reading) → IsReading names read → (why : SheetRefusal) → fields_read read names now rest ≡ Err why → fields_read read names ts fields ≡ Err why
  pub kept : KeepsTexts ts now

-- one field before others
field_first : (names : Names) (now then us : Texts) (c : Addr × Raw) (rest : List (Addr × Raw)) → ReadsField names now then c.0 c.1 → KeepsTexts then us → ReadsFields names then us rest → ReadsFields names now us (c ∷ rest)
unfolding fields_read cells_in
field_first names now then us c rest h k m = record {
  made = λ read right.
      ap (λ o. before_cells c.0 o (λ known. fields_read read names known rest)) (h.made read right)
      ∙ ap (result_map_both (λ b. record { cells = with_cell c.0 (held_by read then c.0 c.1) b.cells; texts = b.texts }) (λ why. why)) (m.made read right)
      ∙ (λ i. Ok (record { cells = with_cell c.0 (sym (held_stays names then us c.0 c.1 k h.tree read right) i) (cells_in read us rest); texts = us }));
  trees = (tree_stays names then us c.0 c.1 k h.tree, m.trees);
}

read_more : (names : Names) (ts : Texts) (fields : List (Addr × Raw)) (now then : Texts) (c : Addr × Raw) (rest : List (Addr × Raw)) →
    ReadOn names ts fields now (c ∷ rest) → ReadsField names now then c.0 c.1 → KeepsTexts now then → ReadOn names ts fields then rest
unfolding fields_read
read_more names ts fields now then c rest h f k = record {
  more = λ us l m. h.more us (kept_more now then us k l) (field_first names now then us c rest f l m);
  fault = λ read right why e. h.fault read right why (
      ap (λ o. before_cells c.0 o (λ known. fields_read read names known rest)) (f.made read right)
      ∙ ap (result_map_both (λ b. record { cells = with_cell c.0 (held_by read then c.0 c.1) b.cells; texts = b.texts }) (λ w. w)) e
      );
  kept = kept_more ts now then h.kept k;
}

-- where one stands
at_index : (names : Names) (ts : Texts) (fields : List (Addr × Raw)) (now : Texts) (i : ℕ) (c : Addr × Raw) → i < length fields → c ≡ get_or fields i c →
    ReadOn names ts fields now (drop i fields) → ReadOn names ts fields now (c ∷ drop (i + 1) fields)
at_index names ts fields now i c low e h =
    let cut : drop i fields ≡ c ∷ drop (i + 1) fields = drop-cons fields i c low ∙ (λ j. sym e j ∷ drop (plus i j) fields) in
    subst (ReadOn names ts fields now) cut h
  where
    plus : (i : ℕ) → suc i ≡ i + 1
    plus i = omega arith

pub read_next : (names : Names) (ts : Texts) (fields : List (Addr × Raw)) (now then : Texts) (i : ℕ) (c : Addr × Raw) → i < length fields → c ≡ get_or fields i c →
    ReadOn names ts fields now (drop i fields) → ReadsField names now then c.0 c.1 → KeepsTexts now then → ReadOn names ts fields then (drop (i + 1) fields)
read_next names ts fields now then i c low e h f k = read_more names ts fields now then c (drop (i + 1) fields) (at_index names ts fields now i c low e h) f k

none_read : (names : Names) (ts : Texts) → ReadsFields names ts ts []
unfolding fields_read cells_in
none_read names ts = record { made = λ read right. refl; trees = tt }

pub all_read : (names : Names) (ts : Texts) (fields : List (Addr × Raw)) (now : Texts) → ReadOn names ts fields now [] → ReadsFields names ts now fields
all_read names ts fields now h = h.more now (kept_none now) (none_read names now)

-- a field that is refused refuses the sheet
pub one_refused : (names : Names) (ts : Texts) (fields : List (Addr × Raw)) (now : Texts) (i : ℕ) (c : Addr × Raw) (fault : LoadFault) → i < length fields → c ≡ get_or fields i c →
    ReadOn names ts fields now (drop i fields) → IsFieldFault names now c.0 c.1 fault → (read : Reading) → IsReading names read → IsLoadFault fault (fields_read read names ts fields)
unfolding fields_read
one_refused names ts fields now i c LoadFault.OutOfMemory low e h f read right = tt
one_refused names ts fields now i c (LoadFault.Refused why) low e h f read right =
    let found = f read right in
    (at_index names ts fields now i c low e h).fault read right why
    (ap (λ o. before_cells c.0 o (λ known. fields_read read names known (drop (i + 1) fields))) found.1 ∙ ap Err (sym found.2))

-- a sheet without a fault of a field is read as its fields are
pub sheet_is : (read : Reading) (names : Names) (sheet : ℕ) (ts us : Texts) (room : ℕ) (bytes : List ℕ) (fields : List (Addr × Raw)) → first_fault room (sheet_fields bytes) ≡ None →
    (us, fields) ≡ cells_of sheet ts (sheet_fields bytes) → sheet_read read names sheet ts room bytes ≡ fields_read read names us fields
unfolding sheet_read
sheet_is read names sheet ts us room bytes fields n e =
    ap (λ f. unless_fault f (book_of_sheet read names (cells_of sheet ts (sheet_fields bytes)))) n ∙ ap (book_of_sheet read names) (sym e)

-- the fault of a field is the sheet's refusal
pub field_refused : (fault : SheetFault) (names : Names) (sheet : ℕ) (ts : Texts) (room : ℕ) (bytes : List ℕ) → (fault ≡ SheetFault.OutOfMemory) ⊎ (first_fault room (sheet_fields bytes) ≡ Some fault) →
    (read : Reading) → IsLoadFault (load_fault_of fault) (sheet_read read names sheet ts room bytes)
unfolding sheet_read
field_refused SheetFault.OutOfMemory names sheet ts room bytes h read = tt
field_refused (SheetFault.NotUtf8 row col) names sheet ts room bytes (inl h) read = cc
field_refused (SheetFault.OutOfSheet row col) names sheet ts room bytes (inl h) read = cc
field_refused (SheetFault.TooManyCells row col) names sheet ts room bytes (inl h) read = cc
field_refused (SheetFault.NotUtf8 row col) names sheet ts room bytes (inr h) read = ap (λ f. unless_fault f (book_of_sheet read names (cells_of sheet ts (sheet_fields bytes)))) h
field_refused (SheetFault.OutOfSheet row col) names sheet ts room bytes (inr h) read = ap (λ f. unless_fault f (book_of_sheet read names (cells_of sheet ts (sheet_fields bytes)))) h
field_refused (SheetFault.TooManyCells row col) names sheet ts room bytes (inr h) read = ap (λ f. unless_fault f (book_of_sheet read names (cells_of sheet ts (sheet_fields bytes)))) h

pub formula_refused : (fault : LoadFault) (names : Names) (sheet : ℕ) (ts us : Texts) (room : ℕ) (bytes : List ℕ) (fields : List (Addr × Raw)) → first_fault room (sheet_fields bytes) ≡ None →
    (us, fields) ≡ cells_of sheet ts (sheet_fields bytes) → ((read : Reading) → IsReading names read → IsLoadFault fault (fields_read read names us fields)) →
    (read : Reading) → IsReading names read → IsLoadFault fault (sheet_read read names sheet ts room bytes)
formula_refused fault names sheet ts us room bytes fields n e h read right = subst (IsLoadFault fault) (sym (sheet_is read names sheet ts us room bytes fields n e)) (h read right)

pub sheet_reads : (names : Names) (sheet : ℕ) (ts us then : Texts) (room : ℕ) (bytes : List ℕ) (fields : List (Addr × Raw)) → first_fault room (sheet_fields bytes) ≡ None →
    (us, fields) ≡ cells_of sheet ts (sheet_fields bytes) → All (λ c. IsOnSheet c.0 × (c.0.sheet ≡ sheet)) fields → InOrder (addresses fields) → All (λ c. IsRawOf us c.1) fields →
    KeepsTexts us then → ReadsFields names us then fields → ReadsSheet names sheet ts then room bytes fields
sheet_reads names sheet ts us then room bytes fields n e here order there k h = record {
  made = λ read right. sheet_is read names sheet ts us room bytes fields n e ∙ h.made read right;
  trees = h.trees;
  placed = placed_stay us then (sheet + 1) (sheet + 1) fields k (omega arith) (sheet_placed sheet ts us fields bytes e here there);
  order = order;
  here = here;
}
