-- What an edit does with how things stand.
use Rattle.std.proofs.Common.{◌≡◌, ℕ, ◌<◌, ◌≤◌, cond, [], length, Option, Some, None, Ok, refl, sym, subst, ap, ◌∙◌}
use Rattle.std.proofs.lemmas.Bool.{le-ltb, lt-ltb}
use Rattle.std.specs.Result.{result_map_both}
use Rattle.std.specs.Prelude.{Result, Err, OnOk, IfErr}
use Rattle.cell_values.specs.declared.TheConstants.{MAX_BOOK_CELLS}
use Rattle.cell_values.specs.declared.address.Addr.{Addr}
use Rattle.cell_values.specs.declared.address.Area.{Area}
use Rattle.cell_values.specs.declared.fields.Raw.{Raw}
use Rattle.cell_values.specs.Areas.{is_inside, one_cell}
use Rattle.cell_values.specs.Order.{InOrder, addresses}
use Rattle.cell_values.specs.Texts.{Texts}
use Rattle.claim_core.specs.Rule.{Setup}
use Rattle.demand_spec.specs.Book.{Book, Content}
use Rattle.demand_spec.specs.Edits as book
use Rattle.demand_spec.specs.Edits.{Cells, applied, pending_after, IsTooLarge}
use Rattle.demand_spec.proofs.Applied.{too_large_by_length}
use Rattle.formula_tokens.specs.Tokens.{with_literals}
use Rattle.formula_tokens.proofs.Held.{interned_are_held}
use Rattle.formula_grammar.specs.declared.faults.FaultKind.{FaultKind}
use Rattle.formula_grammar.specs.Reading.{Reading, IsReading}
use Rattle.workbook_core.specs.declared.edits.EditFault.{EditFault}
use Rattle.workbook_core.specs.Books.{SharedBook, IsWorkbook}
use Rattle.workbook_core.specs.Edits.{Puts, with_field, FieldHasFault, IsField}
use Rattle.shared_expressions.specs.Trees.{Trees}
use Rattle.recalculation.specs.declared.edit.Edit.{Edit}
use Rattle.recalculation.specs.Calculations.{Calculation}
use Rattle.recalculation.specs.Edits.{area_of, Means, texts_with, IsEditOf, IsEdited, PutsFault, MakesTooLarge, IsFaultOf, pending_by}
use Rattle.sheet_loading.specs.Contents.{Names, content_read}
use Rattle.sheet_loading.proofs.Trees.{reads_tree, reads_fault}
use Rattle.puncalc_program.specs.declared.refusals.LineRefusal.{LineRefusal}
use Rattle.puncalc_program.specs.Script.{Standing, Goes, Stops, changed, put_turn, with_edit}
use Rattle.puncalc_program.specs.Desks.{Changes, edit_answer, edit_turn, Leaves}

-- what a field puts is what it reads as

put_is_read : (names : Names) (ts : Texts) (at : Addr) (raw : Raw) (held : Option Content) → Puts names ts at raw held → (read : Reading) → IsReading names read →
    content_read read names ts at raw ≡ Ok (with_field names ts raw, held)
unfolding content_read
put_is_read names ts at Raw.Nothing held h read right = ap (λ z. Ok (ts, z)) (sym h)
put_is_read names ts at (Raw.Number n) held h read right = ap (λ z. Ok (ts, z)) (sym h)
put_is_read names ts at (Raw.Text t) held h read right = ap (λ z. Ok (ts, z)) (sym h)
put_is_read names ts at (Raw.Bool b) held h read right = ap (λ z. Ok (ts, z)) (sym h)
put_is_read names ts at (Raw.Formula text) held h read right =
    let known : Texts = with_literals names ts text in
    ap (result_map_both (λ tree. (known, Some (Content.Formula tree))) (λ fault. fault)) (reads_tree names known at text h.0 h.1 read right)
    ∙ ap (λ z. Ok (known, z)) (sym h.2)

fault_is_read : (names : Names) (ts : Texts) (at : Addr) (raw : Raw) (place : ℕ) (kind : FaultKind) → IsField raw → FieldHasFault names ts raw place kind → (read : Reading) → IsReading names read →
    content_read read names ts at raw ≡ Err (place, kind)
unfolding content_read
fault_is_read names ts at Raw.Nothing place kind f h read right = absurd h
fault_is_read names ts at (Raw.Number n) place kind f h read right = absurd h
fault_is_read names ts at (Raw.Text t) place kind f h read right = absurd h
fault_is_read names ts at (Raw.Bool b) place kind f h read right = absurd h
fault_is_read names ts at (Raw.Formula text) place kind f h read right =
    let known : Texts = with_literals names ts text in
    ap (result_map_both (λ tree. (known, Some (Content.Formula tree))) (λ fault. fault)) (reads_fault names known at text place kind f (interned_are_held names ts text) h read right)

-- the book behind an edit, or too large a one

goes : (st : Standing) (area : Area) (b : Book) → length b.cells ≤ MAX_BOOK_CELLS →
    changed st area b ≡ Goes (record { book = b; pending = pending_after b st.pending (is_inside area); last = st.last }) []
goes st area b few =
    ap (λ t. cond t (Stops LineRefusal.TooManyCells) (Goes (record { book = b; pending = pending_after b st.pending (is_inside area); last = st.last }) [])) (le-ltb MAX_BOOK_CELLS (length b.cells) few)

stops : (st : Standing) (area : Area) (b : Book) → MAX_BOOK_CELLS < length b.cells → changed st area b ≡ Stops LineRefusal.TooManyCells
stops st area b many =
    ap (λ t. cond t (Stops LineRefusal.TooManyCells) (Goes (record { book = b; pending = pending_after b st.pending (is_inside area); last = st.last }) [])) (lt-ltb MAX_BOOK_CELLS (length b.cells) many)

-- how things stand with a workbook and its pending cells, and the last round
abbrev pub standing : Calculation → Option Setup → Standing
standing c last = record { book = c.shared.book; pending = c.pending; last = last }

book_is : (b b' : Book) → b'.cells ≡ b.cells → b'.texts ≡ b.texts → b' ≡ b
book_is b b' p q = λ i. record { cells = p i; texts = q i }

-- the edit as its cells and texts tell
turn_is : (old : Calculation) (last : Option Setup) (edit : Edit) (e : book.Edit) → Means old.shared edit e → (read : Reading) → IsReading old.shared.names read →
    edit_turn read old.shared.names edit (standing old last) ≡ changed (standing old last) (area_of edit) (record { cells = applied e old.shared.book.cells; texts = texts_with old.shared edit })
turn_is old last (Edit.Put at raw) e m read right =
    ap (put_turn (standing old last) at) (put_is_read old.shared.names old.shared.book.texts at raw m.0 m.1 read right)
    ∙ ap (λ z. changed (standing old last) (one_cell at) (record { cells = applied z old.shared.book.cells; texts = with_field old.shared.names old.shared.book.texts raw })) (sym m.2)
turn_is old last (Edit.Clear at) e m read right = ap (λ z. changed (standing old last) (one_cell at) (with_edit z old.shared.book)) (sym m)
turn_is old last (Edit.Copy from to) e m read right = ap (λ z. changed (standing old last) to (with_edit z old.shared.book)) (sym m)

-- the edit was made
pub made : (old new : Calculation) (last : Option Setup) (edit : Edit) → IsEdited old.shared edit new.shared → new.pending ≡ pending_by old (area_of edit) new → length new.shared.book.cells ≤ MAX_BOOK_CELLS →
    (read : Reading) → IsReading old.shared.names read → Leaves (edit_turn read old.shared.names edit (standing old last)) (standing old last) (standing new last) None
made old new last edit h p few read right =
    let (e, m, cells) = h.cells in
    let b : Book = record { cells = applied e old.shared.book.cells; texts = texts_with old.shared edit } in
    let is : new.shared.book ≡ b = book_is b new.shared.book cells h.texts in
    subst (λ t. Leaves t (standing old last) (standing new last) None)
    (sym (turn_is old last edit e m read right ∙ goes (standing old last) (area_of edit) b (subst (λ n. n ≤ MAX_BOOK_CELLS) (ap length cells) few)))
    (λ i. record { book = is i; pending = (p ∙ ap (λ z. pending_after z old.pending (is_inside (area_of edit))) is) i; last = last })

-- there were too many cells
pub too_many : (old : Calculation) (last : Option Setup) (new : Standing) (edit : Edit) → InOrder (addresses old.shared.book.cells) → MakesTooLarge old.shared edit → new.last ≡ last →
    (read : Reading) → IsReading old.shared.names read → Leaves (edit_turn read old.shared.names edit (standing old last)) (standing old last) new (Some LineRefusal.TooManyCells)
too_many old last new edit order h same read right =
    let (e, m, large) = h in
    let b : Book = record { cells = applied e old.shared.book.cells; texts = texts_with old.shared edit } in
    let many : MAX_BOOK_CELLS < length b.cells = (too_large_by_length e old.shared.book.cells order).0 large in
    subst (λ t. Leaves t (standing old last) new (Some LineRefusal.TooManyCells))
    (sym (turn_is old last edit e m read right ∙ stops (standing old last) (area_of edit) b many)) (refl, same)

-- a formula has a fault
pub faulty : (old : Calculation) (last : Option Setup) (new : Standing) (edit : Edit) (place : ℕ) (kind : FaultKind) → IsEditOf old.shared edit → PutsFault old.shared edit place kind → new.last ≡ last →
    (read : Reading) → IsReading old.shared.names read → Leaves (edit_turn read old.shared.names edit (standing old last)) (standing old last) new (Some (LineRefusal.BadFormula place kind))
faulty old last new (Edit.Put at raw) place kind is h same read right =
    subst (λ r. Leaves (put_turn (standing old last) at r) (standing old last) new (Some (LineRefusal.BadFormula place kind)))
    (sym (fault_is_read old.shared.names old.shared.book.texts at raw place kind is.3 h read right)) (refl, same)
faulty old last new (Edit.Clear at) place kind is h same read right = absurd h
faulty old last new (Edit.Copy from to) place kind is h same read right = absurd h

-- how formulas share expressions does not matter for what an edit is
pub shares_apart : (w : SharedBook) (pool : Trees) (edit : Edit) → IsEditOf (record { book = w.book; names = w.names; pool = pool }) edit → IsEditOf w edit
shares_apart w pool (Edit.Put at raw) h = h
shares_apart w pool (Edit.Clear at) h = h
shares_apart w pool (Edit.Copy from to) h = h

-- whatever the edit came to
pub edit_changes : (old new : Calculation) (last : Option Setup) (edit : Edit) (r : Result (Unit {0}) EditFault) → IsEditOf old.shared edit → IsWorkbook old.shared → IsWorkbook new.shared →
    OnOk r (IsEdited old.shared edit new.shared) → OnOk r (new.pending ≡ pending_by old (area_of edit) new) → IfErr r (IsFaultOf old.shared edit) →
    (read : Reading) → IsReading old.shared.names read → Changes (edit_turn read old.shared.names edit (standing old last)) (standing old last) (standing new last) (edit_answer r)
edit_changes old new last edit (Ok u) is before after e p f read right = made old new last edit e p after.few read right
edit_changes old new last edit (Err (EditFault.BadFormula place kind)) is before after e p f read right = faulty old last (standing new last) edit place kind is f refl read right
edit_changes old new last edit (Err EditFault.TooManyCells) is before after e p f read right = too_many old last (standing new last) edit before.order f refl read right
edit_changes old new last edit (Err EditFault.OutOfMemory) is before after e p f read right = refl
