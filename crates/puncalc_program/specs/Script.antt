-- What the lines of a script do, one after the other.
use Rattle.std.specs.Prelude.{ℕ, suc, ℤ, pos, ◌+ℤ◌, List, [], ◌∷◌, ◌++◌, Option, Some, None, Result, Ok, Err, ◌==◌, nat_lt, length, map, codes, if◌then◌else◌}
use Rattle.std.specs.Fmt.{decimal}
use Rattle.std.specs.List.{slice_split}
use Rattle.cell_values.specs.declared.TheConstants.{MAX_BOOK_CELLS}
use Rattle.cell_values.specs.declared.address.Addr.{Addr}
use Rattle.cell_values.specs.declared.address.Area.{Area}
use Rattle.cell_values.specs.Areas.{is_inside, numbers_from, one_cell}
use Rattle.cell_values.specs.Fields.{raw_of}
use Rattle.cell_values.specs.ShownText.{int_text}
use Rattle.formula_grammar.specs.declared.faults.FaultKind.{FaultKind}
use Rattle.formula_grammar.specs.Reading.{Reading}
use Rattle.sheet_csv.specs.Row.{row_text}
use Rattle.demand_spec.specs.Book.{Book, formulas}
use Rattle.demand_spec.specs.Edits.{Edit, Put, Copy, applied, pending_after}
use Rattle.claim_core.specs.Rule.{Setup}
use Rattle.row_shift.specs.declared.change.RowChange.{RowChange}
use Rattle.row_shift.specs.MovedBook.{moved_book, pending_moved}
use Rattle.row_shift.specs.Pushed.{pushes_out}
use Rattle.workbook_core.specs.WithNumber.{with_number}
use Rattle.book_save.specs.Rows.{first_long, saved_rows}
use Rattle.cycle_finder.specs.Loops.{loops}
use Rattle.sheet_loading.specs.Contents.{Names, Made, content_read}
use Rattle.edit_script.specs.declared.line.Line.{Line}
use Rattle.edit_script.specs.declared.line.LineFault.{LineFault}
use Rattle.edit_script.specs.Lines.{line_of}
use Rattle.puncalc_program.specs.declared.refusals.LineRefusal.{LineRefusal}
use Rattle.puncalc_program.specs.Cells.{cell_name, cell_shows}
use Rattle.puncalc_program.specs.Outputs.{Output, refusal, behind}
use Rattle.puncalc_program.specs.Refusals.{line_refused}
use Rattle.puncalc_program.specs.Sheets.{sheet_rows}

-- how things stand between two lines: the book, the formula cells that are pending, and the last round that was run
pub record Standing : Type 0 where
  pub book : Book
  pub pending : List Addr
  pub last : Option Setup

-- a book that was just loaded: all of its formula cells are pending
abbrev pub opened : Book → Standing
opened b = record { book = b; pending = formulas b; last = None }

-- the last round behind a recalculation: one over the pending cells, if there are any
abbrev pub last_round : ℕ → Book → List Addr → Option Setup → Option Setup
last_round workers b [] last = last
last_round workers b (c ∷ cells) last = Some (record { book = b; cells = c ∷ cells; workers = workers })

-- nothing is pending any more
abbrev pub recalculated : ℕ → Standing → Standing
recalculated workers st = record { book = st.book; pending = []; last = last_round workers st.book st.pending st.last }

-- what a line does: things stand so then, and these pieces are written; or it is refused
pub data Turn : Type 0 where
  Goes : Standing → List (List ℕ) → Turn
  Stops : LineRefusal → Turn

-- the book behind an edit of the area, unless it has too many cells
abbrev pub changed : Standing → Area → Book → Turn
changed st area b =
    if nat_lt MAX_BOOK_CELLS (length b.cells) then Stops LineRefusal.TooManyCells
    else Goes (record { book = b; pending = pending_after b st.pending (is_inside area); last = st.last }) []

abbrev pub with_edit : Edit → Book → Book
with_edit edit b = record { cells = applied edit b.cells; texts = b.texts }

-- a content that was read is put into the cell; a formula's fault is the line's
abbrev pub put_turn : Standing → Addr → Result Made (ℕ × FaultKind) → Turn
put_turn st at (Ok made) = changed st (one_cell at) (record { cells = applied (Put at made.1) st.book.cells; texts = made.0 })
put_turn st at (Err fault) = Stops (LineRefusal.BadFormula fault.0 fault.1)

-- a word, a number and the end of the line
abbrev pub count_line : List ℕ → ℕ → List ℕ
count_line word n = word ++ codes " " ++ decimal n ++ 10 ∷ []

-- the cells of a loop, in a row
abbrev pub loop_row : Names → List Addr → List ℕ
loop_row names loop = row_text (map (cell_name names) loop)

-- a sheet's rows with what its cells hold are written, unless a formula of it is too long
abbrev pub saved_unless : Standing → List (List ℕ) → Option Addr → Turn
saved_unless st rows None = Goes st rows
saved_unless st rows (Some at) = Stops LineRefusal.FormulaTooLong

-- a number, and what a cell shows where another cell holds it, in a row
abbrev pub number_row : Book → Addr → Addr → ℤ → List ℕ
number_row b at target n = row_text (int_text n ∷ cell_shows (with_number b at n) target ∷ [])

-- the same for the number that comes k behind another
abbrev pub scenario_row : Book → Addr → ℤ → Addr → ℕ → List ℕ
scenario_row b at low target k = number_row b at target (low +ℤ pos k)

-- a row for each of so many numbers is written, unless the book with the first one has too many cells
abbrev pub table_turn : ℕ → Addr → ℤ → ℕ → Addr → Standing → Turn
table_turn workers at low count target st =
    if nat_lt MAX_BOOK_CELLS (length (with_number st.book at low).cells) then Stops LineRefusal.TooManyCells
    else Goes (recalculated workers st) (map (scenario_row st.book at low target) (numbers_from 0 count))

-- rows are inserted or deleted, unless a cell is pushed out
abbrev pub rows_turn : RowChange → Standing → Turn
rows_turn change st =
    if pushes_out change st.book.cells then Stops LineRefusal.RowsFull
    else Goes (record { book = moved_book change st.book; pending = pending_moved change st.book st.pending; last = st.last }) []

-- what each kind of line does; what is shown is recalculated before
unfoldable pub turn : Reading → Names → ℕ → Line → Standing → Turn
turn read names workers Line.Nothing st = Goes st []
turn read names workers (Line.Set at field) st = let known = raw_of st.book.texts field in put_turn st at (content_read read names known.0 at known.1)
turn read names workers (Line.Clear at) st = changed st (one_cell at) (with_edit (Put at None) st.book)
turn read names workers (Line.Copy from to) st = changed st to (with_edit (Copy from to) st.book)
turn read names workers (Line.Show at) st = Goes (recalculated workers st) (row_text (cell_name names at ∷ cell_shows st.book at ∷ []) ∷ [])
turn read names workers (Line.Print sheet) st = Goes (recalculated workers st) (sheet_rows st.book sheet)
turn read names workers (Line.Save sheet) st = saved_unless st (saved_rows names st.book sheet) (first_long names st.book sheet)
turn read names workers Line.Recalc st = Goes (recalculated workers st) (count_line (codes "recalculated") (length st.pending) ∷ [])
turn read names workers Line.Cycles st = Goes (recalculated workers st) (count_line (codes "cycles") (length (loops st.book)) ∷ map (loop_row names) (loops st.book))
turn read names workers (Line.Insert rows) st = rows_turn (RowChange.Insert rows.sheet rows.row rows.count) st
turn read names workers (Line.Delete rows) st = rows_turn (RowChange.Delete rows.sheet rows.row rows.count) st
turn read names workers (Line.WhatIf at low count target) st = table_turn workers at low count target st

-- why a line that asks for nothing is refused; want of memory is no fault of a line, and what stands here for it is never due
abbrev pub refusal_of : LineFault → LineRefusal
refusal_of LineFault.UnknownCommand = LineRefusal.UnknownCommand
refusal_of LineFault.BadReference = LineRefusal.BadReference
refusal_of LineFault.NotUtf8 = LineRefusal.NotUtf8
refusal_of LineFault.OutOfMemory = LineRefusal.NotUtf8

-- what a line does, whatever its bytes are
abbrev pub turn_of : Reading → Names → ℕ → Result Line LineFault → Standing → Turn
turn_of read names workers (Ok line) st = turn read names workers line st
turn_of read names workers (Err fault) st = Stops (refusal_of fault)

-- a line that is refused ends the script
abbrev pub after_turn : ℕ → Standing → Turn → (Standing → Output) → Output
after_turn number before (Goes st rows) rest = behind rows (rest st)
after_turn number before (Stops why) rest = refusal 4 (line_refused number why) before.last

-- what the lines from one with this number on write, and the status
unfoldable pub script_from : Reading → Names → ℕ → ℕ → Standing → List (List ℕ) → Output
script_from read names workers number st [] = record { status = 0; pieces = []; last = st.last }
script_from read names workers number st (line ∷ rest) =
    after_turn number st (turn_of read names workers (line_of names line) st) (λ now. script_from read names workers (suc number) now rest)

-- the piece, if it is not empty
abbrev pub unless_empty : List ℕ → List (List ℕ)
unless_empty [] = []
unless_empty (c ∷ rest) = (c ∷ rest) ∷ []

-- the pieces, without the last one if it is empty
abbrev pub without_empty_end : List (List ℕ) → List (List ℕ)
without_empty_end [] = []
without_empty_end (piece ∷ []) = unless_empty piece
without_empty_end (piece ∷ next ∷ rest) = piece ∷ without_empty_end (next ∷ rest)

-- the lines of a script: it is cut at each LF, and what stands behind the last one is a line where it is not empty
unfoldable pub lines_of : List ℕ → List (List ℕ)
lines_of script = without_empty_end (slice_split (λ c. c == 10) script)
