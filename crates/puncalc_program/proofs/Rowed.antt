-- A change of rows as the turn of a line.
use Rattle.std.proofs.Common.{◌≡◌, ℕ, Bool, true, false, cond, [], Option, Some, None, Ok, refl, sym, subst}
use Rattle.std.specs.Prelude.{Result, Err, OnOk, IfErr}
use Rattle.claim_core.specs.Rule.{Setup}
use Rattle.edit_script.specs.declared.line.Rows.{Rows}
use Rattle.edit_script.specs.Rows.{AreRowsOf}
use Rattle.recalculation.specs.declared.shift.ShiftFault.{ShiftFault}
use Rattle.recalculation.specs.Calculations.{Calculation}
use Rattle.recalculation.specs.Shifts.{IsShiftFault}
use Rattle.row_shift.specs.declared.change.RowChange.{RowChange}
use Rattle.row_shift.specs.Moves.{IsChange}
use Rattle.row_shift.specs.MovedBook.{moved_book, pending_moved}
use Rattle.row_shift.specs.Pushed.{pushes_out}
use Rattle.sheet_loading.specs.Contents.{Names}
use Rattle.puncalc_program.specs.declared.refusals.LineRefusal.{LineRefusal}
use Rattle.puncalc_program.specs.Script.{Standing, Turn, Goes, Stops, rows_turn}
use Rattle.puncalc_program.specs.Desks.{Changes, Leaves, pieces_of, rows_answer}
use Rattle.puncalc_program.proofs.Changing.{standing}

-- it writes nothing

pub rows_pieces : (change : RowChange) (st : Standing) → pieces_of (rows_turn change st) ≡ []
rows_pieces change st = go (pushes_out change st.book.cells)
  where
    go : (t : Bool) → pieces_of (cond t (Stops LineRefusal.RowsFull) (Goes (record { book = moved_book change st.book; pending = pending_moved change st.book st.pending; last = st.last }) [])) ≡ []
    go true = refl
    go false = refl

-- the rows of a line are a change

pub insert_is_change : (names : Names) (rows : Rows) → AreRowsOf names rows → IsChange (RowChange.Insert rows.sheet rows.row rows.count)
insert_is_change names rows h = record { row_from = h.row_from; row_to = h.row_to; some = h.some; few = h.few }

pub delete_is_change : (names : Names) (rows : Rows) → AreRowsOf names rows → IsChange (RowChange.Delete rows.sheet rows.row rows.count)
delete_is_change names rows h = record { row_from = h.row_from; row_to = h.row_to; some = h.some; few = h.few }

-- what it does with how things stand

abbrev turned : RowChange → Standing → Bool → Turn
turned change st t = cond t (Stops LineRefusal.RowsFull) (Goes (record { book = moved_book change st.book; pending = pending_moved change st.book st.pending; last = st.last }) [])

pub rows_changes : (calc new : Calculation) (last : Option Setup) (change : RowChange) (made : Result (Unit {0}) ShiftFault)
    → OnOk made (new.shared.book ≡ moved_book change calc.shared.book) → OnOk made (new.pending ≡ pending_moved change calc.shared.book calc.pending)
    → OnOk made (pushes_out change calc.shared.book.cells ≡ false) → IfErr made (IsShiftFault change calc.shared.book.cells)
    → Changes (rows_turn change (standing calc last)) (standing calc last) (standing new last) (rows_answer made)
rows_changes calc new last change (Ok x) b p fits fault =
    subst (λ (t : Bool). Leaves (turned change (standing calc last) t) (standing calc last) (standing new last) None) (sym fits) (λ i. record { book = b i; pending = p i; last = last })
rows_changes calc new last change (Err ShiftFault.RowsFull) b p fits fault =
    subst (λ (t : Bool). Leaves (turned change (standing calc last) t) (standing calc last) (standing new last) (Some LineRefusal.RowsFull)) (sym fault) (refl, refl)
rows_changes calc new last change (Err ShiftFault.OutOfMemory) b p fits fault = refl
