-- What stands on the desk of a run: the book with what is pending, and the last round.
use Rattle.std.specs.Prelude.{◌≡◌, ℕ, Option, Some, None, option_map, IsSomeAnd, Result, Ok, Err, List, []}
use Rattle.claim_core.specs.Passes.{OutcomeSeen}
use Rattle.claim_core.specs.Rule.{Setup, Each, is_done}
use Rattle.cell_values.specs.Areas.{one_cell}
use Rattle.demand_spec.specs.Edits.{Put, Copy}
use Rattle.formula_grammar.specs.Reading.{Reading}
use Rattle.workbook_core.specs.declared.edits.EditFault.{EditFault}
use Rattle.workbook_core.specs.Books.{SharedBook}
use Rattle.recalculation.specs.declared.edit.Edit.{Edit}
use Rattle.recalculation.specs.declared.shift.ShiftFault.{ShiftFault}
use Rattle.recalculation.specs.Calculations.{Calculation}
use Rattle.sheet_loading.specs.Contents.{Names, content_read}
use Rattle.puncalc_program.specs.declared.refusals.LineRefusal.{LineRefusal}
use Rattle.puncalc_program.specs.declared.stop.Stop.{Stop}
use Rattle.puncalc_program.specs.Outputs.{Output}
use Rattle.puncalc_program.specs.Script.{Standing, Turn, Goes, Stops, changed, put_turn, with_edit}
use Rattle.puncalc_program.specs.Writing.{Sunk, WritesAll, WritesPart, StopsWriting}

-- the names of the sheets, and how things stand
pub record DeskSeen : Type 0 where
  pub names : Names
  pub standing : Standing

-- what a kept round was over
abbrev pub setup_kept : Option OutcomeSeen → Option Setup
setup_kept kept = option_map (λ o. o.setup) kept

abbrev pub desk_seen : Calculation → Option OutcomeSeen → DeskSeen
desk_seen calc kept = record {
  names = calc.shared.names;
  standing = record { book = calc.shared.book; pending = calc.pending; last = setup_kept kept };
}

-- the workbook, but for how its formulas share expressions
abbrev pub shared_of : DeskSeen → SharedBook
shared_of d = record { book = d.standing.book; names = d.names; pool = [] }

-- each cell of the round was done
abbrev pub AllDone : OutcomeSeen → Type 0
AllDone o = Each o.words (λ w. is_done w ≡ 1)

abbrev pub IsDone : Option OutcomeSeen → Type 0
IsDone None = Unit {0}
IsDone (Some o) = AllDone o

-- what is kept is the closed round over this, with each cell done; nothing where there was no round
abbrev pub KeptIs : Option Setup → Option OutcomeSeen → Type 0
KeptIs None kept = kept ≡ None
KeptIs (Some setup) kept = IsSomeAnd kept (λ o. (o.setup ≡ setup) × AllDone o)

-- what an edit does with how things stand
abbrev pub edit_turn : Reading → Names → Edit → Standing → Turn
edit_turn read names (Edit.Put at raw) st = put_turn st at (content_read read names st.book.texts at raw)
edit_turn read names (Edit.Clear at) st = changed st (one_cell at) (with_edit (Put at None) st.book)
edit_turn read names (Edit.Copy from to) st = changed st to (with_edit (Copy from to) st.book)

-- what an edit came to, as the answer of a line
abbrev pub edit_answer : Result (Unit {0}) EditFault → Result (Option LineRefusal) Stop
edit_answer (Ok _) = Ok None
edit_answer (Err (EditFault.BadFormula place kind)) = Ok (Some (LineRefusal.BadFormula place kind))
edit_answer (Err EditFault.TooManyCells) = Ok (Some LineRefusal.TooManyCells)
edit_answer (Err EditFault.OutOfMemory) = Err Stop.Memory

-- what a change of rows came to, as the answer of a line
abbrev pub rows_answer : Result (Unit {0}) ShiftFault → Result (Option LineRefusal) Stop
rows_answer (Ok _) = Ok None
rows_answer (Err ShiftFault.RowsFull) = Ok (Some LineRefusal.RowsFull)
rows_answer (Err ShiftFault.OutOfMemory) = Err Stop.Memory

-- the pieces that a turn writes
abbrev pub pieces_of : Turn → List (List ℕ)
pieces_of (Goes st pieces) = pieces
pieces_of (Stops why) = []

-- how things stand behind a turn, and why its line is refused, if it is
abbrev pub Leaves : Turn → Standing → Standing → Option LineRefusal → Type 0
Leaves (Goes st pieces) old new None = new ≡ st
Leaves (Goes st pieces) old new (Some why) = ⊥
Leaves (Stops due) old new None = ⊥
Leaves (Stops due) old new (Some why) = (why ≡ due) × (new.last ≡ old.last)

-- a turn that writes nothing was made, or memory ran out
abbrev pub Changes : Turn → Standing → Standing → Result (Option LineRefusal) Stop → Type 0
Changes due old new (Ok refused) = Leaves due old new refused
Changes due old new (Err stop) = stop ≡ Stop.Memory

-- the turn was made: its pieces are written and things stand so, or its line is refused; or the run had to stop on the way
abbrev pub Makes : Turn → Standing → Standing → Sunk → Sunk → Result (Option LineRefusal) Stop → Type 0
Makes due old new before now (Ok refused) = WritesAll (pieces_of due) before now × Leaves due old new refused
Makes due old new before now (Err stop) = WritesPart (pieces_of due) before now × StopsWriting stop before now

-- a script was run to its end, or to a line that is refused; or the run had to stop on the way
abbrev pub Runs : Output → Standing → Sunk → Sunk → Result ℕ Stop → Type 0
Runs due new before now (Ok status) = (status ≡ due.status) × WritesAll due.pieces before now × (new.last ≡ due.last)
Runs due new before now (Err stop) = WritesPart due.pieces before now × StopsWriting stop before now
