-- Where the cells of a sheet stand.
use Rattle.std.proofs.Common.{◌≡◌, ℕ, ◌+◌, ◌<◌, ◌≤◌, Bool, true, false, cond, eqb, suc, List, [], ◌∷◌, ◌++◌, get_or, fold, All, Option, Some, None, ◌⊎◌, inl, inr, refl, sym, subst, lit≤, arith}
use Rattle.std.specs.Prelude.{not}
use Rattle.std.specs.Str.{is_utf8}
use Rattle.std.proofs.lemmas.Bool.Decides.{nat_tests}
use Rattle.std.proofs.lemmas.List.Elements.{All-nil, All-push, All-weaker}
use Rattle.std.proofs.lemmas.List.Sums.{fold-append}
use Rattle.cell_values.specs.declared.address.Addr.{Addr}
use Rattle.cell_values.specs.declared.fields.Raw.{Raw}
use Rattle.cell_values.specs.Addresses.{IsBefore, IsOnSheet}
use Rattle.cell_values.specs.Fields.{raw_of}
use Rattle.cell_values.specs.Order.{addresses, InOrder, IsBeforeAll}
use Rattle.cell_values.specs.Texts.{Texts}
use Rattle.sheet_csv.specs.declared.reading.SheetFault.{SheetFault}
use Rattle.sheet_csv.specs.Sheet.{Field, Sheet, cell_at, cells_of, fault_of, fields_from, first_fault, is_empty, is_in_sheet, or_first, room_after, row_fields, sheet_fields, with_field}
use Rattle.sheet_csv.proofs.SheetFacts.{placed}

abbrev pub Cell : Type 0
Cell = Addr × Raw

-- the cell stands before a place: in a row above, or in the same row on the left
abbrev pub StandsBefore : ℕ → ℕ → Cell → Type 0
StandsBefore row col c = (c.0.row < row) ⊎ ((c.0.row ≡ row) × (c.0.col < col))

abbrev pub OnSheet : ℕ → Cell → Type 0
OnSheet sheet c = IsOnSheet c.0 × (c.0.sheet ≡ sheet)

-- cells in order that stand on the sheet, before a place
pub record ArePlaced (sheet row col : ℕ) (cells : List Cell) : Type 0 where
  pub on_sheet : All (OnSheet sheet) cells
  pub in_order : InOrder (addresses cells)
  pub before : All (StandsBefore row col) cells

-- the first field passed, and those behind it
passes : (o p : Option SheetFault) → or_first o p ≡ None → (o ≡ None) × (p ≡ None)
passes None p e = (refl, e)
passes (Some fault) p e = cc

pub first_passes : (room : ℕ) (f : Field) (rest : List Field) → first_fault room (f ∷ rest) ≡ None → (fault_of room f ≡ None) × (first_fault (room_after room f) rest ≡ None)
unfolding first_fault
first_passes room f rest e = passes (fault_of room f) (first_fault (room_after room f) rest) e

no_fault_in_sheet : (bad empty inside full : Bool) (a b c : SheetFault) → cond bad (Some a) (cond empty None (cond (not inside) (Some b) (cond full (Some c) None))) ≡ None → empty ≡ false → inside ≡ true
no_fault_in_sheet true empty inside full a b c e f = cc
no_fault_in_sheet false true inside full a b c e f = cc
no_fault_in_sheet false false true full a b c e f = refl
no_fault_in_sheet false false false full a b c e f = cc

in_sheet : (room : ℕ) (f : Field) → fault_of room f ≡ None → is_empty f ≡ false → is_in_sheet f ≡ true
unfolding fault_of
in_sheet room f e some = no_fault_in_sheet (not (is_utf8 f.bytes)) (is_empty f) (is_in_sheet f) (eqb room 0) _ _ _ e some

on_its_sheet : (sheet : ℕ) (f : Field) (raw : Raw) → 1 ≤ f.row → 1 ≤ f.col → is_in_sheet f ≡ true → OnSheet sheet (cell_at sheet f, raw)
on_its_sheet sheet f raw row col e = (record { row_from = row; row_to = grind (arith, nat_tests); col_from = col; col_to = grind (arith, nat_tests) }, refl)

-- a later place
further : (row col : ℕ) (c : Cell) → StandsBefore row col c → StandsBefore row (col + 1) c
further row col c h = elim h [ inl above ↦ inl above | inr (same, left) ↦ inr (same, omega arith) ]

next_row : (row col : ℕ) (c : Cell) → StandsBefore row col c → StandsBefore (row + 1) 1 c
next_row row col c h = elim h [ inl above ↦ inl (omega arith) | inr (same, left) ↦ inl (omega arith) ]

stands_before : (sheet row col : ℕ) (f : Field) (raw : Raw) (c : Cell) → f.row ≡ row → f.col ≡ col → c.0.sheet ≡ sheet → StandsBefore row col c → IsBefore c.0 (cell_at sheet f)
stands_before sheet row col f raw c r k s h = inr (s, elim h [ inl above ↦ inl (omega arith) | inr (same, left) ↦ inr (omega arith, omega arith) ])

at_place : (sheet row col : ℕ) (f : Field) (raw : Raw) → f.row ≡ row → f.col ≡ col → StandsBefore row (col + 1) (cell_at sheet f, raw)
at_place sheet row col f raw r k = inr (r, omega arith)

-- one more cell behind those in order
before_push : (a : Addr) (cells : List Cell) (c : Cell) → IsBeforeAll a (addresses cells) → IsBefore a c.0 → IsBeforeAll a (addresses (cells ++ c ∷ []))
before_push a [] c h k = (k, tt)
before_push a (x ∷ rest) c h k = (h.0, before_push a rest c h.1 k)

order_push : (cells : List Cell) (c : Cell) → InOrder (addresses cells) → All (λ x. IsBefore x.0 c.0) cells → InOrder (addresses (cells ++ c ∷ []))
order_push [] c h k = (tt, tt)
order_push (x ∷ rest) c h k = (before_push x.0 rest c h.0 (k 0 x (omega arith)), order_push rest c h.1 (λ i d l. k (suc i) d (omega (arith, l))))

-- one more field
placed_field : (sheet room row col : ℕ) (s : Sheet) (f : Field) → f.row ≡ row → f.col ≡ col → 1 ≤ row → 1 ≤ col → fault_of room f ≡ None → ArePlaced sheet row col s.1 → ArePlaced sheet row (col + 1) (with_field sheet s f).1
unfolding with_field
placed_field sheet room row col (ts, cells) f r k first left e h = by_empty (is_empty f) (in_sheet room f e)
  where
    by_empty : (t : Bool) → (t ≡ false → is_in_sheet f ≡ true) → ArePlaced sheet row (col + 1) (cond {A = Sheet} t (ts, cells) ((raw_of ts f.bytes).0, cells ++ (cell_at sheet f, (raw_of ts f.bytes).1) ∷ [])).1
    by_empty true g = record { on_sheet = h.on_sheet; in_order = h.in_order; before = All-weaker (StandsBefore row col) (StandsBefore row (col + 1)) (further row col) cells h.before }
    by_empty false g =
        let raw = (raw_of ts f.bytes).1 in
        record {
          on_sheet = All-push (OnSheet sheet) cells (cell_at sheet f, raw) h.on_sheet (on_its_sheet sheet f raw (omega arith) (omega arith) (g refl));
          in_order = order_push cells (cell_at sheet f, raw) h.in_order (λ i d l. stands_before sheet row col f raw (get_or cells i d) r k (h.on_sheet i d l).1 (h.before i d l));
          before = All-push (StandsBefore row (col + 1)) cells (cell_at sheet f, raw) (All-weaker (StandsBefore row col) (StandsBefore row (col + 1)) (further row col) cells h.before) (at_place sheet row col f raw r k);
        }

-- the fields of a record, and what follows them
placed_row : (sheet room row col : ℕ) (s : Sheet) (fields : List (List ℕ)) (rest : List Field) → 1 ≤ row → 1 ≤ col → first_fault room (placed row col fields ++ rest) ≡ None → ArePlaced sheet row col s.1 → (end : ℕ) × (left : ℕ) × ArePlaced sheet row end (fold (with_field sheet) s (placed row col fields)).1 × (first_fault left rest ≡ None)
placed_row sheet room row col s [] rest first from e h = (col, room, h, e)
placed_row sheet room row col s (bytes ∷ more) rest first from e h =
    let f : Field = record { row = row; col = col; bytes = bytes } in
    let (here, on) = first_passes room f (placed row (col + 1) more ++ rest) e in
    placed_row sheet (room_after room f) row (col + 1) (with_field sheet s f) more rest first (omega arith) on (placed_field sheet room row col s f refl refl first from here h)

-- the fields of all records
placed_rows : (sheet room row : ℕ) (s : Sheet) (rows : List (List (List ℕ))) → 1 ≤ row → first_fault room (fields_from row rows) ≡ None → ArePlaced sheet row 1 s.1 → (end : ℕ) × ArePlaced sheet end 1 (fold (with_field sheet) s (fields_from row rows)).1
unfolding fields_from
placed_rows sheet room row s [] first e h = (row, h)
placed_rows sheet room row s (r ∷ rest) first e h =
    let (end, left, here, on) = placed_row sheet room row 1 s r (fields_from (row + 1) rest) first (lit≤ tt) e h in
    let t = fold (with_field sheet) s (row_fields (row, r)) in
    let below : ArePlaced sheet (row + 1) 1 t.1 = record { on_sheet = here.on_sheet; in_order = here.in_order; before = All-weaker (StandsBefore row end) (StandsBefore (row + 1) 1) (next_row row end) t.1 here.before } in
    let (last, all) = placed_rows sheet left (row + 1) t rest (omega arith) on below in
    (last, subst (λ (u : Sheet). ArePlaced sheet last 1 u.1) (sym (fold-append (with_field sheet) s (row_fields (row, r)) (fields_from (row + 1) rest))) all)

none_placed : (sheet : ℕ) → ArePlaced sheet 1 1 []
none_placed sheet = record { on_sheet = All-nil (OnSheet sheet); in_order = tt; before = All-nil (StandsBefore 1 1) }

-- the cells of a sheet without a fault
pub sheet_placed : (sheet room : ℕ) (ts : Texts) (bytes : List ℕ) → first_fault room (sheet_fields bytes) ≡ None → (end : ℕ) × ArePlaced sheet end 1 (cells_of sheet ts (sheet_fields bytes)).1
sheet_placed sheet room ts bytes e = placed_rows sheet room 1 (ts, []) _ (lit≤ tt) e (none_placed sheet)
