-- How fields follow one another in a sheet.
use Rattle.std.proofs.Common.{◌≡◌, ℕ, zero, suc, ◌+◌, ◌-◌, ◌<◌, ◌≤◌, Bool, true, false, cond, eqb, List, [], ◌∷◌, ◌++◌, length, map, drop, take, get_or, fold, Option, Some, None, inl, inr, refl, ap, sym, ◌∙◌, arith}
use Rattle.std.specs.List.{enumerate_from}
use Rattle.std.specs.Str.{IsUtf8, is_utf8}
use Rattle.std.proofs.lemmas.Bool.{cases_Bool}
use Rattle.std.proofs.lemmas.Bool.Decides.{nat_tests}
use Rattle.std.proofs.lemmas.List.{at_drop_more, at_drop_all, take_all, take-take, length-take}
use Rattle.std.proofs.lemmas.List.Sums.{fold-append}
use Rattle.std.proofs.lemmas.Option.{same_Some}
use Rattle.csv.specs.Records.{field_at}
use Rattle.std.proofs.lemmas.Str.{IsUtf8-from_is_utf8, is_utf8-from_IsUtf8}
use Rattle.cell_values.specs.declared.address.Addr.{Addr}
use Rattle.cell_values.specs.declared.fields.Raw.{Raw}
use Rattle.cell_values.specs.Texts.{Texts}
use Rattle.cell_values.specs.Fields.{raw_of}
use Rattle.cell_values.specs.Interned.{KeepsTexts}
use Rattle.sheet_csv.specs.declared.reading.SheetFault.{SheetFault}
use Rattle.sheet_csv.specs.declared.reading.Place.{Place}
use Rattle.sheet_csv.specs.Place.{cell_of_place, field_of_place}
use Rattle.sheet_csv.specs.Sheet.{Field, Sheet, row_fields, fields_from, is_empty, is_in_sheet, fault_of, or_first, room_after, first_fault, with_field, cell_at}

-- the fields of a record from a column on
abbrev pub placed : ℕ → ℕ → List (List ℕ) → List Field
placed row col fields = map (λ (c, bytes). record { row = row; col = c; bytes = bytes }) (enumerate_from col fields)

pub placed_more : (row n : ℕ) (fields : List (List ℕ)) (bytes : List ℕ) → n < length fields → bytes ≡ get_or fields n bytes → placed row (n + 1) (drop n fields) ≡ record { row = row; col = n + 1; bytes = bytes } ∷ placed row (n + 1 + 1) (drop (n + 1) fields)
placed_more row n fields bytes h e = at_drop_more (placed row (n + 1)) fields n bytes h ∙ ap (λ (b : List ℕ). placed row (n + 1) (b ∷ drop (n + 1) fields)) (sym e)

pub placed_done : (row col n : ℕ) (fields : List (List ℕ)) → length fields ≤ n → placed row col (drop n fields) ≡ []
placed_done row col n fields h = at_drop_all (placed row col) fields n h

pub fields_more : (row : ℕ) (r : List (List ℕ)) (rest : List (List (List ℕ))) → fields_from row (r ∷ rest) ≡ row_fields (row, r) ++ fields_from (row + 1) rest
unfolding fields_from
fields_more row r rest = refl

pub fields_none : (row : ℕ) → fields_from row [] ≡ []
unfolding fields_from
fields_none row = refl

-- faults
pub passed_field : (room : ℕ) (f : Field) (rest : List Field) → fault_of room f ≡ None → first_fault room (f ∷ rest) ≡ first_fault (room_after room f) rest
unfolding first_fault
passed_field room f rest e = ap (λ o. or_first o (first_fault (room_after room f) rest)) e

pub refused_field : (room : ℕ) (f : Field) (rest : List Field) (fault : SheetFault) → fault_of room f ≡ Some fault → first_fault room (f ∷ rest) ≡ Some fault
unfolding first_fault
refused_field room f rest fault e = ap (λ o. or_first o (first_fault (room_after room f) rest)) e

pub no_fields : (room : ℕ) → first_fault room [] ≡ None
unfolding first_fault
no_fields room = refl

is_text : (bytes : List ℕ) → IsUtf8 bytes → is_utf8 bytes ≡ true
is_text bytes h = is_utf8-from_IsUtf8 bytes h

no_text : (bytes : List ℕ) → (IsUtf8 bytes → ⊥) → is_utf8 bytes ≡ false
no_text bytes h = elim (cases_Bool (is_utf8 bytes)) [ inl e ↦ absurd (h (IsUtf8-from_is_utf8 bytes e)) | inr e ↦ e ]

pub field_no_text : (room : ℕ) (f : Field) → (IsUtf8 f.bytes → ⊥) → fault_of room f ≡ Some (SheetFault.NotUtf8 f.row f.col)
unfolding fault_of
field_no_text room f h = let e = no_text f.bytes h in rw e refl

pub field_empty : (room : ℕ) (f : Field) → IsUtf8 f.bytes → length f.bytes ≡ 0 → fault_of room f ≡ None
unfolding fault_of
field_empty room f u h = let e = is_text f.bytes u in let z : is_empty f ≡ true = grind (arith, nat_tests) in rw (e, z) refl

pub field_outside : (room : ℕ) (f : Field) → IsUtf8 f.bytes → 0 < length f.bytes → is_in_sheet f ≡ false → fault_of room f ≡ Some (SheetFault.OutOfSheet f.row f.col)
unfolding fault_of
field_outside room f u h o = let e = is_text f.bytes u in let z : is_empty f ≡ false = grind (arith, nat_tests) in rw (e, z, o) refl

pub field_full : (room : ℕ) (f : Field) → IsUtf8 f.bytes → 0 < length f.bytes → is_in_sheet f ≡ true → room ≡ 0 → fault_of room f ≡ Some (SheetFault.TooManyCells f.row f.col)
unfolding fault_of
field_full room f u h o r = let e = is_text f.bytes u in let z : is_empty f ≡ false = grind (arith, nat_tests) in rw (e, z, o, r) refl

pub field_fits : (room : ℕ) (f : Field) → IsUtf8 f.bytes → 0 < length f.bytes → is_in_sheet f ≡ true → 0 < room → fault_of room f ≡ None
unfolding fault_of
field_fits room f u h o r = let e = is_text f.bytes u in let z : is_empty f ≡ false = grind (arith, nat_tests) in let q : (eqb room 0) ≡ false = grind (arith, nat_tests) in rw (e, z, o, q) refl

-- cells
pub with_empty : (sheet : ℕ) (ts : Texts) (cells : List (Addr × Raw)) (f : Field) → length f.bytes ≡ 0 → with_field sheet (ts, cells) f ≡ (ts, cells)
unfolding with_field
with_empty sheet ts cells f h = let z : is_empty f ≡ true = grind (arith, nat_tests) in rw z refl

pub with_cell : (sheet : ℕ) (ts : Texts) (cells : List (Addr × Raw)) (f : Field) → 0 < length f.bytes → with_field sheet (ts, cells) f ≡ ((raw_of ts f.bytes).0, cells ++ (cell_at sheet f, (raw_of ts f.bytes).1) ∷ [])
unfolding with_field
with_cell sheet ts cells f h = let z : is_empty f ≡ false = grind (arith, nat_tests) in rw z refl

pub room_same : (room : ℕ) (f : Field) → length f.bytes ≡ 0 → room_after room f ≡ room
room_same room f h = let z : is_empty f ≡ true = grind (arith, nat_tests) in rw z refl

pub room_less : (room : ℕ) (f : Field) → 0 < length f.bytes → room_after room f ≡ room - 1
room_less room f h = let z : is_empty f ≡ false = grind (arith, nat_tests) in rw z refl

-- what the tests of a field say of its bytes
pub none_from_empty : (text bytes : List ℕ) (b : Bool) → text ≡ bytes → b ≡ eqb (length text) 0 → b ≡ true → length bytes ≡ 0
none_from_empty text bytes b same e t = let n = ap length same in grind (arith, nat_tests)

pub some_from_empty : (text bytes : List ℕ) (b : Bool) → text ≡ bytes → b ≡ eqb (length text) 0 → b ≡ false → 0 < length bytes
some_from_empty text bytes b same e t = let n = ap length same in grind (arith, nat_tests)

in_or_out : (t : Bool) (a : Addr) (o : Option Addr) → o ≡ cond t (Some a) None → (o ≡ None → t ≡ false) × ((at : Addr) → o ≡ Some at → (t ≡ true) × (at ≡ a))
in_or_out true a o e = (λ n. cc, λ at s. (refl, cc))
in_or_out false a o e = (λ n. refl, λ at s. cc)

pub outside : (p : Place) (bytes : List ℕ) (o : Option Addr) → o ≡ cell_of_place p → o ≡ None → is_in_sheet (field_of_place p bytes) ≡ false
outside p bytes o e n = (in_or_out (is_in_sheet (field_of_place p bytes)) (cell_at p.sheet (field_of_place p bytes)) o e).0 n

pub inside : (p : Place) (bytes : List ℕ) (o : Option Addr) (at : Addr) → o ≡ cell_of_place p → o ≡ Some at → (is_in_sheet (field_of_place p bytes) ≡ true) × (at ≡ cell_at p.sheet (field_of_place p bytes))
inside p bytes o at e s = (in_or_out (is_in_sheet (field_of_place p bytes)) (cell_at p.sheet (field_of_place p bytes)) o e).1 at s

-- the field of a record at a place
pub field_there : (fields : List (List ℕ)) (i : ℕ) (bytes : List ℕ) → field_at fields i ≡ Some bytes → (i < length fields) × (bytes ≡ get_or fields i bytes)
unfolding field_at
field_there [] i bytes e = cc
field_there (f ∷ rest) zero bytes e = (omega arith, sym (same_Some f bytes e))
field_there (f ∷ rest) (suc i) bytes e = let (inside, same) = field_there rest i bytes e in (omega arith, same)

pub field_gone : (fields : List (List ℕ)) (i : ℕ) → field_at fields i ≡ None → length fields ≤ i
unfolding field_at
field_gone [] i e = omega arith
field_gone (f ∷ rest) zero e = cc
field_gone (f ∷ rest) (suc i) e = let past = field_gone rest i e in omega arith

-- the texts that were there stay
pub kept_none : (ts : Texts) → KeepsTexts ts ts
kept_none ts = take_all (length ts) ts (omega arith)

pub kept_more : (a b c : Texts) → KeepsTexts a b → KeepsTexts b c → KeepsTexts a c
kept_more a b c h g =
    let short : length a ≤ length b = omega (arith, ap length h, length-take (length a) b) in
    sym (take-take (length a) (length b) c short) ∙ ap (take (length a)) g ∙ h

pub cells_more : (sheet : ℕ) (s t : Sheet) (f : Field) (left more : List Field) → left ≡ f ∷ more → t ≡ with_field sheet s f → fold (with_field sheet) s left ≡ fold (with_field sheet) t more
cells_more sheet s t f left more e h = ap (fold (with_field sheet) s) e ∙ ap (λ (u : Sheet). fold (with_field sheet) u more) (sym h)

-- one more record of a sheet
row_first : (row : ℕ) (r : List (List ℕ)) (all rest : List (List (List ℕ))) → all ≡ r ∷ rest → fields_from row all ≡ row_fields (row, r) ++ fields_from (row + 1) rest
row_first row r all rest e = ap (fields_from row) e ∙ fields_more row r rest

pub sheet_cells : (sheet count above next : ℕ) (s t whole : Sheet) (r : List (List ℕ)) (all rest : List (List (List ℕ))) → above ≡ count → next ≡ count + 1 → all ≡ r ∷ rest → t ≡ fold (with_field sheet) s (row_fields (above + 1, r)) → fold (with_field sheet) s (fields_from (count + 1) all) ≡ whole → fold (with_field sheet) t (fields_from (next + 1) rest) ≡ whole
sheet_cells sheet count above next s t whole r all rest here on e h w =
    let g = with_field sheet in
    let read : t ≡ fold g s (row_fields (count + 1, r)) = h ∙ ap (λ k. fold g s (row_fields (k + 1, r))) here in
    ap (λ k. fold g t (fields_from (k + 1) rest)) on ∙ ap (λ (u : Sheet). fold g u (fields_from (count + 1 + 1) rest)) read
    ∙ sym (fold-append g s (row_fields (count + 1, r)) (fields_from (count + 1 + 1) rest)) ∙ sym (ap (fold g s) (row_first (count + 1) r all rest e)) ∙ w

pub sheet_passed : (before after count above next : ℕ) (whole : Option SheetFault) (r : List (List ℕ)) (all rest : List (List (List ℕ))) → above ≡ count → next ≡ count + 1 → all ≡ r ∷ rest → ((more : List Field) → first_fault before (row_fields (above + 1, r) ++ more) ≡ first_fault after more) → whole ≡ first_fault before (fields_from (count + 1) all) → whole ≡ first_fault after (fields_from (next + 1) rest)
sheet_passed before after count above next whole r all rest here on e h w =
    w ∙ ap (first_fault before) (row_first (count + 1) r all rest e) ∙ ap (λ k. first_fault before (row_fields (k + 1, r) ++ fields_from (count + 1 + 1) rest)) (sym here)
    ∙ h (fields_from (count + 1 + 1) rest) ∙ ap (λ k. first_fault after (fields_from (k + 1) rest)) (sym on)

pub sheet_refused : (before count above : ℕ) (whole : Option SheetFault) (fault : SheetFault) (r : List (List ℕ)) (all rest : List (List (List ℕ))) → above ≡ count → all ≡ r ∷ rest → ((more : List Field) → first_fault before (row_fields (above + 1, r) ++ more) ≡ Some fault) → whole ≡ first_fault before (fields_from (count + 1) all) → whole ≡ Some fault
sheet_refused before count above whole fault r all rest here e h w =
    w ∙ ap (first_fault before) (row_first (count + 1) r all rest e) ∙ ap (λ k. first_fault before (row_fields (k + 1, r) ++ fields_from (count + 1 + 1) rest)) (sym here) ∙ h (fields_from (count + 1 + 1) rest)
