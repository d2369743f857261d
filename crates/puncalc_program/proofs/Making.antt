-- Edits as turns of lines.
use Rattle.std.proofs.Common.{◌≡◌, ℕ, Bool, true, false, cond, ltb, List, [], length, Option, None, Ok, refl, sym, subst}
use Rattle.std.specs.Prelude.{Result, Err}
use Rattle.cell_values.specs.declared.TheConstants.{MAX_BOOK_CELLS}
use Rattle.cell_values.specs.declared.address.Addr.{Addr}
use Rattle.cell_values.specs.declared.address.Area.{Area}
use Rattle.cell_values.specs.Areas.{is_inside, one_cell}
use Rattle.demand_spec.specs.Book.{Book}
use Rattle.demand_spec.specs.Edits.{pending_after}
use Rattle.edit_script.specs.declared.line.Line.{Line}
use Rattle.formula_grammar.specs.declared.faults.FaultKind.{FaultKind}
use Rattle.formula_grammar.specs.Reading.{Reading}
use Rattle.recalculation.specs.declared.edit.Edit.{Edit}
use Rattle.sheet_loading.specs.Contents.{Names, Made}
use Rattle.puncalc_program.specs.declared.refusals.LineRefusal.{LineRefusal}
use Rattle.puncalc_program.specs.declared.stop.Stop.{Stop}
use Rattle.puncalc_program.specs.Script.{Standing, Turn, Goes, Stops, changed, put_turn, turn}
use Rattle.puncalc_program.specs.Desks.{Changes, Makes, edit_turn, pieces_of}
use Rattle.puncalc_program.specs.Writing.{Sunk, StopsWriting, WritesAll}
use Rattle.puncalc_program.proofs.Written.{none_written, no_part}

-- edits write nothing

changed_pieces : (st : Standing) (area : Area) (b : Book) → pieces_of (changed st area b) ≡ []
changed_pieces st area b = go (ltb MAX_BOOK_CELLS (length b.cells))
  where
    go : (t : Bool) → pieces_of (cond t (Stops LineRefusal.TooManyCells) (Goes (record { book = b; pending = pending_after b st.pending (is_inside area); last = st.last }) [])) ≡ []
    go true = refl
    go false = refl

put_pieces : (st : Standing) (at : Addr) (r : Result Made (ℕ × FaultKind)) → pieces_of (put_turn st at r) ≡ []
put_pieces st at (Ok made) = changed_pieces st (one_cell at) _
put_pieces st at (Err fault) = refl

pub change_makes : (due : Turn) (old new : Standing) (s : Sunk) (r : Result (Option LineRefusal) Stop) → pieces_of due ≡ [] → Changes due old new r → Makes due old new s s r
change_makes due old new s (Ok refused) none h = (subst (λ ps. WritesAll ps s s) (sym none) (none_written s), h)
change_makes due old new s (Err stop) none h = (no_part (pieces_of due) s, subst (λ z. StopsWriting z s s) (sym h) tt)

pub nothing_makes : (st : Standing) (s : Sunk) → Makes (Goes st []) st st s s (Ok None)
nothing_makes st s = (none_written s, refl)

pub set_pieces : (read : Reading) (names : Names) (workers : ℕ) (at : Addr) (field : List ℕ) (st : Standing) → pieces_of (turn read names workers (Line.Set at field) st) ≡ []
unfolding turn
set_pieces read names workers at field st = put_pieces st at _

pub edit_pieces : (read : Reading) (names : Names) (edit : Edit) (st : Standing) → pieces_of (edit_turn read names edit st) ≡ []
edit_pieces read names (Edit.Put at raw) st = put_pieces st at _
edit_pieces read names (Edit.Clear at) st = changed_pieces st (one_cell at) _
edit_pieces read names (Edit.Copy from to) st = changed_pieces st to _
