-- The generated book of `demo`, and what is told of it.
use Rattle.std.specs.Prelude.{ℕ, zero, suc, ◌+◌, ◌-◌, ◌*◌, ◌/◌, ◌%◌, ◌==◌, ℤ, pos, ◌+ℤ◌, Bool, true, false, not, List, [], ◌∷◌, ◌++◌, Option, None, length, map, get_or, codes, if◌then◌else◌}
use Rattle.std.specs.Fmt.{decimal, signed_decimal}
use Rattle.std.specs.Int.{w128, int_wrap}
use Rattle.std.specs.List.{count_by}
use Rattle.cell_values.specs.declared.address.Addr.{Addr}
use Rattle.cell_values.specs.declared.values.Value.{Value}
use Rattle.cell_values.specs.declared.values.Shown.{Shown}
use Rattle.cell_values.specs.Values.{is_error}
use Rattle.claim_core.specs.Rule.{Setup}
use Rattle.demand_spec.specs.Book.{Book, formulas, shown}
use Rattle.edit_script.specs.declared.line.Line.{Line}
use Rattle.formula_grammar.specs.Reading.{Reading}
use Rattle.sheet_loading.specs.Contents.{Names}
use Rattle.sheet_loading.specs.Sheets.{no_cells}
use Rattle.puncalc_program.specs.declared.refusals.LineRefusal.{LineRefusal}
use Rattle.puncalc_program.specs.Outputs.{Output, refusal, behind}
use Rattle.puncalc_program.specs.Refusals.{line_fault}
use Rattle.puncalc_program.specs.Script.{Standing, Turn, Goes, Stops, opened, recalculated, turn}

-- ---- the book

-- a word, a number and what follows
abbrev pub numbered : List ℕ → ℕ → List ℕ → List ℕ
numbered word n rest = word ++ (decimal n ++ rest)

-- the sum down a column of products; the first row begins it
abbrev pub running_field : ℕ → List ℕ
running_field r = if r == 1 then codes "=C1" else numbered (codes "=D") (r - 1) (numbered (codes "+C") r [])

-- the fields of row r, from column A to column H. In a row whose number in column A is no multiple of 3, E needs itself
abbrev pub demo_fields : ℕ → List (List ℕ)
demo_fields r =
    decimal (8 * (r - 1))
    ∷ numbered (codes "=A") r (codes "+1")
    ∷ numbered (codes "=B") r (codes "*2")
    ∷ running_field r
    ∷ numbered (codes "=IF(MOD(A") r (numbered (codes ",3)=0,D") r (numbered (codes ",E") r (codes ")")))
    ∷ numbered (codes "=IFERROR(E") r (codes ",0)")
    ∷ numbered (codes "=SUM(A") r (numbered (codes ":D") r (codes ")"))
    ∷ numbered (codes "=G") r (numbered (codes "-F") r [])
    ∷ []

-- the cells go row by row; they are numbered from 0
abbrev pub demo_cell : ℕ → Addr
demo_cell k = record { sheet = 0; row = k / 8 + 1; col = k % 8 + 1 }

abbrev pub demo_field : ℕ → List ℕ
demo_field k = get_or (demo_fields (k / 8 + 1)) (k % 8) []

-- the field is put into the cell, unless a line before was refused
abbrev pub then_set : Reading → Names → Addr → List ℕ → Turn → Turn
then_set read names at field (Goes st pieces) = turn read names 1 (Line.Set at field) st
then_set read names at field (Stops why) = Stops why

-- the first n cells, put one after the other into a sheet without cells
abbrev pub generated : Reading → Names → ℕ → Turn
generated read names zero = Goes (opened no_cells) []
generated read names (suc k) = then_set read names (demo_cell k) (demo_field k) (generated read names k)

-- ---- what is told

-- how many cells the book has, and how many of them have formulas
unfoldable pub size_line : Book → List ℕ
size_line b = numbered (codes "cells ") (length b.cells) (numbered (codes " formulas ") (length (formulas b)) (codes "\n"))

-- a value that is no error; an error
abbrev pub shows_value : Shown → Bool
shows_value (Shown.Val v) = not (is_error v)
shows_value (Shown.Cycle n) = false
shows_value Shown.ToCycle = false

abbrev pub shows_error : Shown → Bool
shows_error (Shown.Val v) = is_error v
shows_error (Shown.Cycle n) = false
shows_error Shown.ToCycle = false

abbrev pub shows_cycle : Shown → Bool
shows_cycle (Shown.Val v) = false
shows_cycle (Shown.Cycle n) = true
shows_cycle Shown.ToCycle = false

abbrev pub shows_to_cycle : Shown → Bool
shows_to_cycle (Shown.Val v) = false
shows_to_cycle (Shown.Cycle n) = false
shows_to_cycle Shown.ToCycle = true

-- a Number itself, and 0 for all else
abbrev pub value_number : Value → ℤ
value_number (Value.Number n) = n
value_number (Value.Text t) = pos 0
value_number (Value.Short t) = pos 0
value_number (Value.Bool b) = pos 0
value_number Value.Blank = pos 0
value_number (Value.Error c) = pos 0

abbrev pub number_shown : Shown → ℤ
number_shown (Shown.Val v) = value_number v
number_shown (Shown.Cycle n) = pos 0
number_shown Shown.ToCycle = pos 0

abbrev pub sum_shown : List Shown → ℤ
sum_shown [] = pos 0
sum_shown (s ∷ rest) = number_shown s +ℤ sum_shown rest

-- what the formula cells show, in order
abbrev pub all_shown : Book → List Shown
all_shown b = map (shown b) (formulas b)

-- how many cells were pending, and of what all formula cells show: how many values, errors and marks there are, and the sum of
-- the Numbers, of which 128 bits are kept
abbrev pub tally_line : ℕ → List Shown → List ℕ
tally_line pending shows =
    numbered (codes "recalculated ") pending
    (numbered (codes " values ") (count_by shows_value shows)
    (numbered (codes " errors ") (count_by shows_error shows)
    (numbered (codes " cycle ") (count_by shows_cycle shows)
    (numbered (codes " tocycle ") (count_by shows_to_cycle shows)
    (codes " sum " ++ (signed_decimal (int_wrap w128 (sum_shown shows)) ++ codes "\n"))))))

unfoldable pub summary_line : Standing → List ℕ
summary_line st = tally_line (length st.pending) (all_shown st.book)

-- ---- the whole run

-- a field that is refused ends the run as a line of a script does
abbrev pub demo_refused : LineRefusal → Option Setup → Output
demo_refused why last = refusal 4 (codes "demo" ++ line_fault why) last

-- what is told of how things stand, unless the line before is refused
abbrev pub last_part : ℕ → Standing → Turn → Output
last_part workers before (Goes st pieces) = record { status = 0; pieces = summary_line st ∷ []; last = (recalculated workers st).last }
last_part workers before (Stops why) = demo_refused why before.last

-- 1 is put into A1
abbrev pub with_one : Reading → Names → Standing → Turn
with_one read names st = turn read names 1 (Line.Set (demo_cell 0) (codes "1")) st

-- the size of the generated book, what it shows, and what it shows with 1 in A1
abbrev pub demo_on : Reading → Names → ℕ → Turn → Output
demo_on read names workers (Goes st pieces) =
    behind (size_line st.book ∷ summary_line st ∷ []) (last_part workers (recalculated workers st) (with_one read names (recalculated workers st)))
demo_on read names workers (Stops why) = demo_refused why None
