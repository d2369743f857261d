-- The steps of a recalculation, and the sheet behind them.
use Rattle.std.proofs.Common.{◌≡◌, ℕ, List, [], ◌∷◌, ◌++◌, Option, Ok, get_or, codes, refl, sym, subst, ap, ◌∙◌}
use Rattle.std.specs.Prelude.{All, Result, Err}
use Rattle.cell_values.specs.declared.address.Addr.{Addr}
use Rattle.cell_values.specs.Addresses.{IsOnSheet}
use Rattle.claim_core.specs.Passes.{OutcomeSeen}
use Rattle.demand_spec.specs.Book.{Book, formulas}
use Rattle.demand_spec.proofs.Spread.{formulas_hold}
use Rattle.parallel_evaluation.specs.declared.trace.Traced.{Traced}
use Rattle.parallel_evaluation.specs.Order.{run_order}
use Rattle.trace_text.specs.TraceText.{trace_lines}
use Rattle.workbook_core.specs.Books.{SharedBook, IsWorkbook}
use Rattle.puncalc_program.specs.declared.stop.Stop.{Stop}
use Rattle.puncalc_program.specs.Desks.{KeptIs}
use Rattle.puncalc_program.specs.Output.{traced_output}
use Rattle.puncalc_program.specs.Run.{Answers}
use Rattle.puncalc_program.specs.Script.{Standing, opened, recalculated}
use Rattle.puncalc_program.specs.Sheets.{sheet_rows}
use Rattle.puncalc_program.specs.Writing.{Sunk, WritesAll, WritesPart, StopsWriting, Writes}
use Rattle.puncalc_program.proofs.Ends.{part_answers}
use Rattle.puncalc_program.proofs.LoopCells.{formula_cell, in_at}
use Rattle.puncalc_program.proofs.Scripts.{cause_made}
use Rattle.puncalc_program.proofs.Written.{all_part, append_assoc, none_written, nothing_more, part_more, then_all, then_part}

-- the formula cells of a workbook lie on its sheets
pub formulas_on_sheets : (w : SharedBook) (cells : List Addr) → IsWorkbook w → cells ≡ formulas w.book → All IsOnSheet cells
formulas_on_sheets w cells h is =
    subst (λ xs. All IsOnSheet xs) (sym is)
    (λ i d low.
    let at = get_or (formulas w.book) i d in
    let f = formulas_hold w.book h.order at (in_at (formulas w.book) i d low) in
    (formula_cell w at f.0 h f.1).on_sheet)

-- some pieces and then others, or a first part of all
pub then_writes : {A : Type 0} (xs ys : List (List ℕ)) (a b c : Sunk) (r : Result A Stop) → WritesAll xs a b → Writes ys b c r → Writes (xs ++ ys) a c r
then_writes xs ys a b c (Ok _) h w = then_all xs ys a b c h w
then_writes xs ys a b c (Err stop) h w = (then_part xs ys a b c h w.0, cause_made stop a b c h.faults w.1)

-- ---- line by line

-- some of the lines were written, and the others are left
pub record WritesUpTo (lines left : List (List ℕ)) (before now : Sunk) : Type 0 where
  pub pieces : List (List ℕ)
  pub is : lines ≡ pieces ++ left
  pub written : WritesAll pieces before now

pub none_yet : (lines left : List (List ℕ)) (s : Sunk) → left ≡ lines → WritesUpTo lines left s s
none_yet lines left s e = record { pieces = []; is = sym e; written = none_written s }

pub one_more : (lines left rest : List (List ℕ)) (line : List ℕ) (a b c : Sunk) → left ≡ line ∷ rest → WritesUpTo lines left a b → WritesAll (line ∷ []) b c → WritesUpTo lines rest a c
one_more lines left rest line a b c e h w = record {
  pieces = h.pieces ++ line ∷ [];
  is = h.is ∙ ap (λ ps. h.pieces ++ ps) e ∙ sym (append_assoc h.pieces (line ∷ []) rest);
  written = then_all h.pieces (line ∷ []) a b c h.written w;
}

-- there was no memory for the next line
pub so_far : (lines left : List (List ℕ)) (a b : Sunk) → WritesUpTo lines left a b → WritesPart lines a b
so_far lines left a b h = subst (λ ps. WritesPart ps a b) (sym h.is) (all_part h.pieces left a b h.written)

-- it was not written whole
pub cut_short : (lines left rest : List (List ℕ)) (line : List ℕ) (a b c : Sunk) (stop : Stop) → left ≡ line ∷ rest → WritesUpTo lines left a b → WritesPart (line ∷ []) b c → StopsWriting stop b c →
    WritesPart lines a c × StopsWriting stop a c
cut_short lines left rest line a b c stop e h w k = (
  subst (λ ps. WritesPart ps a c) (sym (h.is ∙ ap (λ ps. h.pieces ++ ps) e ∙ sym (append_assoc h.pieces (line ∷ []) rest)))
      (part_more (h.pieces ++ line ∷ []) rest a c (then_part h.pieces (line ∷ []) a b c h.written w)),
  cause_made stop a b c h.written.faults k,
)

-- none is left
pub all_lines : (lines left : List (List ℕ)) (a b : Sunk) → left ≡ [] → WritesUpTo lines left a b → WritesAll lines a b
all_lines lines left a b e h = subst (λ ps. WritesAll ps a b) (sym (h.is ∙ ap (λ ps. h.pieces ++ ps) e ∙ nothing_more h.pieces)) h.written

-- ---- the whole trace

-- the steps as they were made, and the sheet as it stands then, are those of the book
due_pieces : (workers : ℕ) (order stopped : List ℕ) (b : Book) (old new : Standing) (cells : List Addr) (steps : List Traced) → old ≡ opened b → new ≡ recalculated workers old → cells ≡ formulas b →
    steps ≡ run_order old.book old.pending workers order stopped →
    trace_lines cells stopped steps ++ codes "result\n" ∷ sheet_rows new.book 0 ≡ (traced_output workers order stopped b).pieces
due_pieces workers order stopped b old new cells steps is done all made =
    let found : steps ≡ run_order b (formulas b) workers order stopped = made ∙ ap (λ (st : Standing). run_order st.book st.pending workers order stopped) is in
    let same : new.book ≡ b = ap (λ (st : Standing). st.book) (done ∙ ap (recalculated workers) is) in
    λ i. trace_lines (all i) stopped (found i) ++ codes "result\n" ∷ sheet_rows (same i) 0

pub trace_answers : (workers : ℕ) (order stopped : List ℕ) (b : Book) (old new : Standing) (cells : List Addr) (steps : List Traced) (before now : Sunk) (kept : Option OutcomeSeen) → old ≡ opened b → new ≡ recalculated workers old →
    cells ≡ formulas b → steps ≡ run_order old.book old.pending workers order stopped → WritesAll (trace_lines cells stopped steps ++ codes "result\n" ∷ sheet_rows new.book 0) before now → KeptIs new.last kept →
    Answers (traced_output workers order stopped b) before now kept (Ok 0)
trace_answers workers order stopped b old new cells steps before now kept is done all made h k = (
  refl,
  subst (λ ps. WritesAll ps before now) (due_pieces workers order stopped b old new cells steps is done all made) h,
  subst (λ (st : Standing). KeptIs st.last kept) (done ∙ ap (recalculated workers) is) k,
)

pub trace_stops : (workers : ℕ) (order stopped : List ℕ) (b : Book) (old new : Standing) (cells : List Addr) (steps : List Traced) (before now : Sunk) (kept : Option OutcomeSeen) (stop : Stop) → old ≡ opened b → new ≡ recalculated workers old →
    cells ≡ formulas b → steps ≡ run_order old.book old.pending workers order stopped → WritesPart (trace_lines cells stopped steps ++ codes "result\n" ∷ sheet_rows new.book 0) before now → StopsWriting stop before now →
    Answers (traced_output workers order stopped b) before now kept (Err stop)
trace_stops workers order stopped b old new cells steps before now kept stop is done all made h k =
    part_answers (traced_output workers order stopped b) before now kept stop (subst (λ ps. WritesPart ps before now) (due_pieces workers order stopped b old new cells steps is done all made) h) k
