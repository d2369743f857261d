-- The generated book, cell by cell.
use Rattle.std.proofs.Common.{◌≡◌, ℕ, zero, suc, ◌+◌, ◌-◌, ◌<◌, ◌==◌, Bool, true, false, cond, ltb, List, [], ◌++◌, append-nil, length, codes, Option, Some, None, Ok, refl, sym, subst, ap, ◌∙◌, arith}
use Rattle.std.specs.Fmt.{decimal}
use Rattle.std.proofs.lemmas.Bool.Decides.{nat_tests}
use Rattle.std.specs.Prelude.{Result, Err}
use Rattle.cell_values.specs.declared.TheConstants.{MAX_BOOK_CELLS}
use Rattle.cell_values.specs.declared.address.Addr.{Addr}
use Rattle.cell_values.specs.declared.address.Area.{Area}
use Rattle.cell_values.specs.Areas.{is_inside, one_cell}
use Rattle.demand_spec.specs.Book.{Book}
use Rattle.demand_spec.specs.Edits.{Put, applied, pending_after}
use Rattle.edit_script.specs.declared.line.Line.{Line}
use Rattle.formula_grammar.specs.declared.faults.FaultKind.{FaultKind}
use Rattle.formula_grammar.specs.Reading.{Reading, IsReading}
use Rattle.sheet_loading.specs.Contents.{Names, Made}
use Rattle.puncalc_program.specs.declared.refusals.LineRefusal.{LineRefusal}
use Rattle.puncalc_program.specs.declared.stop.Stop.{Stop}
use Rattle.puncalc_program.specs.Demo.{demo_cell, demo_field, generated, numbered, running_field, then_set}
use Rattle.puncalc_program.specs.Desks.{Changes, Leaves}
use Rattle.puncalc_program.specs.Output.{the_names}
use Rattle.puncalc_program.specs.Script.{Standing, Turn, Goes, Stops, changed, put_turn, turn}

-- ---- the fields

no_rest : (word : List ℕ) (n : ℕ) → numbered word n [] ≡ word ++ decimal n
no_rest word n = ap (λ t. word ++ t) (append-nil (decimal n))

-- below the first row
pub below_first : (r : ℕ) → (r ≡ 1 → ⊥) → running_field r ≡ codes "=D" ++ (decimal (r - 1) ++ (codes "+C" ++ decimal r))
below_first r h =
    ap (λ t. cond t (codes "=C1") (numbered (codes "=D") (r - 1) (numbered (codes "+C") r []))) (other r h) ∙ ap (numbered (codes "=D") (r - 1)) (no_rest (codes "+C") r)
  where
    other : (n : ℕ) → (n ≡ 1 → ⊥) → (n == 1) ≡ false
    other n k = grind (arith, nat_tests)

pub last_field : (r : ℕ) → numbered (codes "=G") r (numbered (codes "-F") r []) ≡ codes "=G" ++ (decimal r ++ (codes "-F" ++ decimal r))
last_field r = ap (numbered (codes "=G") r) (no_rest (codes "-F") r)

-- ---- the cells

-- a field put into a cell
pub set_is : (names : Names) (at at' : Addr) (field field' : List ℕ) (st now : Standing) (r : Result (Option LineRefusal) Stop) → names ≡ the_names → at ≡ at' → field ≡ field' →
    ((read : Reading) → IsReading names read → (workers : ℕ) → Changes (turn read names workers (Line.Set at field) st) st now r) →
    (read : Reading) → IsReading the_names read → Changes (turn read the_names 1 (Line.Set at' field') st) st now r
set_is names at at' field field' st now r e f h k read right =
    subst (λ ns. Changes (turn read ns 1 (Line.Set at' field') st) st now r) e
    (subst (λ a. Changes (turn read names 1 (Line.Set a field') st) st now r) f
    (subst (λ t. Changes (turn read names 1 (Line.Set at t) st) st now r) h (k read (subst (λ ns. IsReading ns read) (sym e) right) 1)))

-- putting a field keeps the last round

changed_last : (st : Standing) (area : Area) (b : Book) (old now : Standing) → Leaves (changed st area b) old now None → now.last ≡ st.last
changed_last st area b old now h = go (ltb MAX_BOOK_CELLS (length b.cells)) h
  where
    go : (t : Bool) → Leaves (cond t (Stops LineRefusal.TooManyCells) (Goes (record { book = b; pending = pending_after b st.pending (is_inside area); last = st.last }) [])) old now None → now.last ≡ st.last
    go true k = absurd k
    go false k = ap (λ (s : Standing). s.last) k

put_last : (st : Standing) (at : Addr) (r : Result Made (ℕ × FaultKind)) (old now : Standing) → Leaves (put_turn st at r) old now None → now.last ≡ st.last
put_last st at (Ok made) old now h = changed_last st (one_cell at) (record { cells = applied (Put at made.1) st.book.cells; texts = made.0 }) old now h
put_last st at (Err fault) old now h = absurd h

set_last : (read : Reading) (names : Names) (workers : ℕ) (at : Addr) (field : List ℕ) (st old now : Standing) → Leaves (turn read names workers (Line.Set at field) st) old now None → now.last ≡ st.last
unfolding turn
set_last read names workers at field st old now h = put_last st at _ old now h

-- what stands behind a turn does not hang on what stood before
leaves_alone : (due : Turn) (a b now : Standing) → Leaves due a now None → Leaves due b now None
leaves_alone (Goes st pieces) a b now h = h
leaves_alone (Stops why) a b now h = absurd h

-- one cell more

set_more : (read : Reading) (names : Names) (at : Addr) (field : List ℕ) (due : Turn) (first st now : Standing) → Leaves due first st None → Leaves (turn read names 1 (Line.Set at field) st) st now None → Leaves (then_set read names at field due) first now None
set_more read names at field (Goes s pieces) first st now h k =
    leaves_alone (turn read names 1 (Line.Set at field) s) st first now (subst (λ z. Leaves (turn read names 1 (Line.Set at field) z) st now None) h k)
set_more read names at field (Stops why) first st now h k = absurd h

pub generated_more : (read : Reading) (names : Names) (k : ℕ) (first st now : Standing) → Leaves (generated read names k) first st None → Leaves (turn read names 1 (Line.Set (demo_cell k) (demo_field k)) st) st now None →
    Leaves (generated read names (k + 1)) first now None
generated_more read names k first st now h j =
    let next : suc k ≡ k + 1 = omega arith in
    subst (λ n. Leaves (generated read names n) first now None) next (set_more read names (demo_cell k) (demo_field k) (generated read names k) first st now h j)

-- a cell is refused

generated_last : (read : Reading) (names : Names) (k : ℕ) (first st : Standing) → Leaves (generated read names k) first st None → st.last ≡ None
generated_last read names zero first st h = ap (λ (s : Standing). s.last) h
generated_last read names (suc k) first st h = go (generated read names k) h (generated_last read names k first)
  where
    go : (due : Turn) → Leaves (then_set read names (demo_cell k) (demo_field k) due) first st None → ((s : Standing) → Leaves due first s None → s.last ≡ None) → st.last ≡ None
    go (Goes s pieces) l before = set_last read names 1 (demo_cell k) (demo_field k) s first st l ∙ before s refl
    go (Stops why) l before = absurd l

set_stops : (read : Reading) (names : Names) (at : Addr) (field : List ℕ) (due : Turn) (first st now : Standing) (why : LineRefusal) → Leaves due first st None → Leaves (turn read names 1 (Line.Set at field) st) st now (Some why) →
    (then_set read names at field due ≡ Stops why) × (now.last ≡ st.last)
set_stops read names at field (Goes s pieces) first st now why h k = go (turn read names 1 (Line.Set at field) s) (subst (λ z. Leaves (turn read names 1 (Line.Set at field) z) st now (Some why)) h k)
  where
    go : (t : Turn) → Leaves t st now (Some why) → (t ≡ Stops why) × (now.last ≡ st.last)
    go (Goes z rows) l = absurd l
    go (Stops due) l = (ap Stops (sym l.0), l.1)
set_stops read names at field (Stops due) first st now why h k = absurd h

-- the cells behind it change nothing any more
stops_on : (read : Reading) (names : Names) (why : LineRefusal) (d n k : ℕ) → n ≡ d + k → generated read names k ≡ Stops why → generated read names n ≡ Stops why
stops_on read names why zero n k e h = (let same : k ≡ n = omega arith in subst (λ m. generated read names m ≡ Stops why) same h)
stops_on read names why (suc d) zero k e h = absurd (omega arith)
stops_on read names why (suc d) (suc n) k e h = ap (then_set read names (demo_cell n) (demo_field n)) (stops_on read names why d n k (omega arith) h)

pub generated_stops : (read : Reading) (names : Names) (k n : ℕ) (first st now : Standing) (why : LineRefusal) → k < n → first.last ≡ None → Leaves (generated read names k) first st None →
    Leaves (turn read names 1 (Line.Set (demo_cell k) (demo_field k)) st) st now (Some why) → Leaves (generated read names n) first now (Some why)
generated_stops read names k n first st now why low none h j =
    let (is, last) = set_stops read names (demo_cell k) (demo_field k) (generated read names k) first st now why h j in
    subst (λ t. Leaves t first now (Some why)) (sym (stops_on read names why (n - suc k) n (suc k) (omega arith) is))
    (refl, last ∙ generated_last read names k first st h ∙ sym none)
