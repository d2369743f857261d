-- Rows that are written one after the other are read back.
use Rattle.std.proofs.Common.{◌≡◌, ℕ, suc, ◌+◌, ◌-◌, ◌<◌, ◌≤◌, Bool, true, false, cond, List, [], ◌∷◌, ◌++◌, length, map, Some, None, refl, ap, sym, ◌∙◌, append_assoc, arith, All}
use Rattle.std.specs.List.{join_with_byte, list_any}
use Rattle.std.proofs.lemmas.Bool.Decides.{nat_tests}
use Rattle.std.proofs.lemmas.Bool.{cond-false}
use Rattle.std.proofs.lemmas.List.{length-append}
use Rattle.std.proofs.lemmas.List.Elements.{All-head, All-tail}
use Rattle.csv.specs.Machine.{next_record}
use Rattle.csv.specs.Reading.{default_config, is_bom, records_from, strip_bom}
use Rattle.csv.specs.Writing.{read_back}
use Rattle.csv.specs.declared.parser.State.TheVariants as st
use Rattle.csv.proofs.RoundTrip.{read-write}
use Rattle.book_save.specs.Fields.{begins_with_mark}
use Rattle.book_save.specs.Laws.{AreWritable, FieldsReadBack, RowsReadBack, first_field, rows_text}
use Rattle.sheet_csv.specs.Row.{doubled, field_text, fields_text, is_special, row_text}
use Rattle.sheet_csv.specs.Sheet.{fields_from}
use Rattle.sheet_csv.proofs.Records.{next_rows, no_record}
use Rattle.sheet_csv.proofs.RowFacts.{same_row}

abbrev HasField : List (List ℕ) → Type 0
HasField row = 0 < length row

same_back : (row : List (List ℕ)) → HasField row → read_back row ≡ row
same_back [] h = absurd (omega arith)
same_back (field ∷ fields) h = refl

-- a row, with what follows it
row_read : (row : List (List ℕ)) (tail : List ℕ) → HasField row → next_record default_config st.StartRecord [] [] (row_text row ++ tail) ≡ Some (row, st.StartRecord, tail)
row_read row tail h =
    ap (λ text. next_record default_config st.StartRecord [] [] (text ++ tail)) (sym (same_row row h))
    ∙ read-write row tail
    ∙ ap (λ fields. Some (fields, st.StartRecord, tail)) (same_back row h)

at_end : next_record default_config st.StartRecord [] [] [] ≡ None
unfolding next_record
at_end = refl

step_left : (n k : ℕ) → suc k ≤ n → n ≡ suc (n - 1)
step_left n k h = omega arith

-- as many steps as there are rows read them, and more steps add nothing
pub rows_read : (n : ℕ) (rows : List (List (List ℕ))) → length rows ≤ n → All HasField rows → records_from default_config n st.StartRecord (rows_text rows) ≡ rows
rows_read n [] l h = no_record n st.StartRecord [] at_end
rows_read n (row ∷ rows) l h =
    next_rows n (n - 1) st.StartRecord st.StartRecord (rows_text (row ∷ rows)) (rows_text rows) row (step_left n (length rows) l) (row_read row (rows_text rows) (All-head HasField row rows h))
    ∙ ap (λ more. row ∷ more) (rows_read (n - 1) rows (omega arith) (All-tail HasField row rows h))

-- each row has a byte
pub rows_long : (rows : List (List (List ℕ))) → length rows ≤ length (rows_text rows)
rows_long [] = omega arith
rows_long (row ∷ rows) =
    let more = rows_long rows in
    omega (arith, length-append (row_text row) (rows_text rows), length-append (fields_text row) (10 ∷ []))

no_bom : (a b c : ℕ) (rest : List ℕ) → is_bom a b c ≡ false → strip_bom (a ∷ b ∷ c ∷ rest) ≡ a ∷ b ∷ c ∷ rest
unfolding strip_bom
no_bom a b c rest e = cond-false (is_bom a b c) _ _ e

low_first : (a b c : ℕ) → a < 128 → is_bom a b c ≡ false
low_first a b c h = grind (arith, nat_tests)

low_second : (a b c : ℕ) → b < 128 → is_bom a b c ≡ false
low_second a b c h = grind (arith, nat_tests)

low_third : (a b c : ℕ) → c < 128 → is_bom a b c ≡ false
low_third a b c h = grind (arith, nat_tests)

other_three : (a b c : ℕ) (rest : List ℕ) → begins_with_mark (a ∷ b ∷ c ∷ rest) ≡ false → is_bom a b c ≡ false
other_three a b c rest e = grind (arith, nat_tests)

-- a field without the mark in front, with an ASCII byte behind it
no_mark_with : (field : List ℕ) (c : ℕ) (tail : List ℕ) → c < 128 → begins_with_mark field ≡ false → strip_bom (field ++ c ∷ tail) ≡ field ++ c ∷ tail
unfolding strip_bom
no_mark_with [] c [] h e = refl
no_mark_with [] c (x ∷ []) h e = refl
no_mark_with [] c (x ∷ y ∷ rest) h e = no_bom c x y rest (low_first c x y h)
no_mark_with (x ∷ []) c [] h e = refl
no_mark_with (x ∷ []) c (y ∷ rest) h e = no_bom x c y rest (low_second x c y h)
no_mark_with (x ∷ y ∷ []) c tail h e = no_bom x y c tail (low_third x y c h)
no_mark_with (x ∷ y ∷ z ∷ rest) c tail h e = no_bom x y z (rest ++ c ∷ tail) (other_three x y z rest e)

-- the same of the field's text
no_mark_by : (special : Bool) (quoted field : List ℕ) (c : ℕ) (tail : List ℕ) → c < 128 → begins_with_mark field ≡ false → strip_bom (cond special (34 ∷ quoted) field ++ c ∷ tail) ≡ cond special (34 ∷ quoted) field ++ c ∷ tail
no_mark_by true quoted field c tail h e = no_mark_with [] 34 (quoted ++ c ∷ tail) (omega arith) refl
no_mark_by false quoted field c tail h e = no_mark_with field c tail h e

no_mark_text : (field : List ℕ) (c : ℕ) (tail : List ℕ) → c < 128 → begins_with_mark field ≡ false → strip_bom (field_text field ++ c ∷ tail) ≡ field_text field ++ c ∷ tail
no_mark_text field c tail h e = no_mark_by (list_any is_special field) (doubled field ++ 34 ∷ []) field c tail h e

-- what a text is, it may be written as
stripped_as : (x y : List ℕ) → x ≡ y → strip_bom y ≡ y → strip_bom x ≡ x
stripped_as x y e h = ap strip_bom e ∙ h ∙ sym e

line_end : (text tail : List ℕ) → (text ++ 10 ∷ []) ++ tail ≡ text ++ 10 ∷ tail
line_end text tail = append_assoc text (10 ∷ []) tail

-- the text of a row without the mark in front, with what follows it
no_mark_row : (row : List (List ℕ)) (tail : List ℕ) → HasField row → begins_with_mark (first_field (row ∷ [])) ≡ false → strip_bom (row_text row ++ tail) ≡ row_text row ++ tail
no_mark_row [] tail h e = absurd (omega arith)
no_mark_row ([] ∷ []) tail h e = no_mark_with [] 34 (34 ∷ 10 ∷ tail) (omega arith) refl
no_mark_row ((b ∷ bs) ∷ []) tail h e = stripped_as _ _ (line_end (field_text (b ∷ bs)) tail) (no_mark_text (b ∷ bs) 10 tail (omega arith) e)
no_mark_row ([] ∷ next ∷ more) tail h e = no_mark_with [] 44 _ (omega arith) refl
no_mark_row ((b ∷ bs) ∷ next ∷ more) tail h e =
    let rest = join_with_byte 44 (map field_text (next ∷ more)) in
    let text = field_text (b ∷ bs) in
    stripped_as _ _ (line_end (text ++ 44 ∷ rest) tail ∙ append_assoc text (44 ∷ rest) (10 ∷ tail)) (no_mark_text (b ∷ bs) 44 (rest ++ 10 ∷ tail) (omega arith) e)

same_first : (row : List (List ℕ)) (rows : List (List (List ℕ))) → first_field (row ∷ []) ≡ first_field (row ∷ rows)
same_first [] rows = refl
same_first (field ∷ fields) rows = refl

-- the mark that a reader drops is not there
pub rows_unmarked : (rows : List (List (List ℕ))) → AreWritable rows → strip_bom (rows_text rows) ≡ rows_text rows
unfolding strip_bom
rows_unmarked [] h = refl
rows_unmarked (row ∷ rows) h = no_mark_row row (rows_text rows) (All-head HasField row rows h.some) (ap begins_with_mark (same_first row rows) ∙ h.no_mark)

pub rows_read_back : RowsReadBack
rows_read_back rows h =
    let text = rows_text rows in
    let long = rows_long rows in
    ap (λ bytes. records_from default_config (length bytes + 1) st.StartRecord bytes) (rows_unmarked rows h) ∙ rows_read (length text + 1) rows (omega arith) h.some

pub fields_read_back : FieldsReadBack
fields_read_back rows h = ap (fields_from 1) (rows_read_back rows h)
