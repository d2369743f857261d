-- The rows of a what-if table.
use Rattle.std.proofs.Common.{◌≡◌, ℕ, ℤ, pos, ◌+◌, ◌+ℤ◌, ◌<◌, false, cond, List, [], ◌∷◌, length, map, get_or, sym, ap, ◌∙◌, subst, take, None, Ok, arith}
use Rattle.std.specs.Prelude.{nat_lt, Err}
use Rattle.std.proofs.lemmas.List.{get_or-map, length-map}
use Rattle.cell_values.specs.declared.TheConstants.{MAX_BOOK_CELLS}
use Rattle.cell_values.specs.declared.address.Addr.{Addr}
use Rattle.cell_values.specs.declared.values.Shown.{Shown}
use Rattle.cell_values.specs.Areas.{numbers_from}
use Rattle.cell_values.specs.ShownText.{int_text, shown_text}
use Rattle.cell_values.proofs.Walking.{length-numbers_from}
use Rattle.demand_spec.specs.Book.{Book}
use Rattle.sheet_csv.specs.Row.{row_text}
use Rattle.workbook_core.specs.WithNumber.{with_number}
use Rattle.what_if.specs.Scenarios.{scenario, scenarios}
use Rattle.puncalc_program.specs.declared.refusals.LineRefusal.{LineRefusal}
use Rattle.puncalc_program.specs.declared.stop.Stop.{Stop}
use Rattle.puncalc_program.specs.Desks.{Makes}
use Rattle.puncalc_program.specs.Script.{Standing, Goes, Stops, recalculated, scenario_row, table_turn}
use Rattle.puncalc_program.specs.Writing.{StopsWriting, Sunk, WritesAll, WritesPart}
use Rattle.puncalc_program.proofs.Written.{element_more, element_part, number_at}

-- a book with room for the number writes its rows
pub room_goes : (workers : ℕ) (at : Addr) (low : ℤ) (count : ℕ) (target : Addr) (st : Standing) → false ≡ nat_lt MAX_BOOK_CELLS (length (with_number st.book at low).cells) → table_turn workers at low count target st ≡ Goes (recalculated workers st) (map (scenario_row st.book at low target) (numbers_from 0 count))
room_goes workers at low count target st e = ap (λ t. cond t (Stops LineRefusal.TooManyCells) (Goes (recalculated workers st) (map (scenario_row st.book at low target) (numbers_from 0 count)))) (sym e)

pub table_written : (workers : ℕ) (at : Addr) (low : ℤ) (count : ℕ) (target : Addr) (st new : Standing) (a b : Sunk) (n : ℕ) → false ≡ nat_lt MAX_BOOK_CELLS (length (with_number st.book at low).cells) → new ≡ recalculated workers st → n ≡ count →
    WritesAll (map (scenario_row new.book at low target) (numbers_from 0 n)) a b → Makes (table_turn workers at low count target st) st new a b (Ok None)
table_written workers at low count target st new a b n room done same w =
    let rows = ap (λ (s : Standing). map (scenario_row s.book at low target) (numbers_from 0 n)) done ∙ ap (λ k. map (scenario_row st.book at low target) (numbers_from 0 k)) same in
    subst (λ t. Makes t st new a b (Ok None)) (sym (room_goes workers at low count target st room)) (subst (λ ps. WritesAll ps a b) rows w, done)

-- or a first part of them
pub table_cut : (workers : ℕ) (at : Addr) (low : ℤ) (count : ℕ) (target : Addr) (st new : Standing) (a b : Sunk) (n : ℕ) (stop : Stop) → false ≡ nat_lt MAX_BOOK_CELLS (length (with_number st.book at low).cells) → new ≡ recalculated workers st → n ≡ count →
    WritesPart (map (scenario_row new.book at low target) (numbers_from 0 n)) a b → StopsWriting stop a b → Makes (table_turn workers at low count target st) st new a b (Err stop)
table_cut workers at low count target st new a b n stop room done same w why =
    let rows = ap (λ (s : Standing). map (scenario_row s.book at low target) (numbers_from 0 n)) done ∙ ap (λ k. map (scenario_row st.book at low target) (numbers_from 0 k)) same in
    subst (λ t. Makes t st new a b (Err stop)) (sym (room_goes workers at low count target st room)) (subst (λ ps. WritesPart ps a b) rows w, why)

-- the rows of the first numbers, and of one more

counted : (n i : ℕ) → i < n → get_or (numbers_from 0 n) i 0 ≡ i
counted n i l = number_at 0 n i l ∙ omega arith

pub counted_more : (f : ℕ → List ℕ) (n i : ℕ) (piece : List ℕ) (a b c : Sunk) → i < n → piece ≡ f i →
    WritesAll (map f (take i (numbers_from 0 n))) a b → WritesAll (piece ∷ []) b c → WritesAll (map f (take (i + 1) (numbers_from 0 n))) a c
counted_more f n i piece a b c low e h k = (let l = length-numbers_from 0 n in element_more f (numbers_from 0 n) i 0 piece a b c (omega arith) (e ∙ ap f (sym (counted n i low))) h k)

pub counted_part : (f : ℕ → List ℕ) (n i : ℕ) (piece : List ℕ) (a b c : Sunk) → i < n → piece ≡ f i →
    WritesAll (map f (take i (numbers_from 0 n))) a b → WritesPart (piece ∷ []) b c → WritesPart (map f (numbers_from 0 n)) a c
counted_part f n i piece a b c low e h k = (let l = length-numbers_from 0 n in element_part f (numbers_from 0 n) i 0 piece a b c (omega arith) (e ∙ ap f (sym (counted n i low))) h k)

-- what is shown in the row k
pub shown_at : (b : Book) (at : Addr) (low : ℤ) (target : Addr) (xs : List Shown) (n k : ℕ) (d : Shown) → xs ≡ scenarios b at low n target → k < n → get_or xs k d ≡ scenario b at low target k
shown_at b at low target xs n k d e l =
    let long = length-numbers_from 0 n in
    ap (λ ys. get_or ys k d) e
    ∙ get_or-map (scenario b at low target) (numbers_from 0 n) k 0 d (omega arith)
    ∙ ap (scenario b at low target) (counted n k l)

-- there is one for each number
pub all_shown : (b : Book) (at : Addr) (low : ℤ) (target : Addr) (xs : List Shown) (n : ℕ) → xs ≡ scenarios b at low n target → length xs ≡ n
all_shown b at low target xs n e = ap length e ∙ length-map (numbers_from 0 n) (scenario b at low target) ∙ length-numbers_from 0 n

-- the row k
pub row_told : (b : Book) (at : Addr) (low : ℤ) (target : Addr) (n k : ℕ) (xs : List Shown) (d : Shown) (m : ℤ) → xs ≡ scenarios b at low n target → k < n → m ≡ low +ℤ pos k → row_text (int_text m ∷ shown_text b.texts (get_or xs k d) ∷ []) ≡ scenario_row b at low target k
row_told b at low target n k xs d m e l is = λ i. row_text (int_text (is i) ∷ shown_text b.texts (shown_at b at low target xs n k d e l i) ∷ [])
