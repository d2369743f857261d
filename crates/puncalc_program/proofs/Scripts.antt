-- A script, line by line.
use Rattle.std.proofs.Common.{◌≡◌, ℕ, suc, ◌+◌, ◌-◌, ◌<◌, ◌==◌, List, [], ◌∷◌, ◌++◌, length, take, drop, Some, None, refl, sym, subst, ap, ◌∙◌, arith}
use Rattle.std.specs.Prelude.{Result, Ok, Err, IfOk}
use Rattle.std.specs.List.{position_or_len}
use Rattle.byte_streams.specs.Faults.{HasRisen}
use Rattle.formula_grammar.specs.Reading.{Reading}
use Rattle.edit_script.specs.Lines.{line_of}
use Rattle.sheet_loading.specs.Contents.{Names}
use Rattle.puncalc_program.specs.declared.refusals.LineRefusal.{LineRefusal}
use Rattle.puncalc_program.specs.declared.stop.Stop.{Stop}
use Rattle.puncalc_program.specs.Outputs.{Output, behind}
use Rattle.puncalc_program.specs.Refusals.{refusal_line, line_refused}
use Rattle.puncalc_program.specs.Script.{Standing, Turn, Goes, Stops, turn_of, after_turn, script_from, lines_of}
use Rattle.puncalc_program.specs.Desks.{Makes, Runs}
use Rattle.puncalc_program.specs.Writing as writing
use Rattle.puncalc_program.specs.Writing.{Sunk, WritesAll, WritesPart, StopsWriting, Writes}
use Rattle.puncalc_program.proofs.Cuts.{next_line, slice_from}
use Rattle.puncalc_program.proofs.Written.{append_assoc, nothing_more, none_written, then_all, then_part, part_more}

-- some pieces are written, and what is left to do gives the others
pub record Follows (due rest : Output) (before now : Sunk) : Type 0 where
  pub pieces : List (List ℕ)
  pub is : due ≡ behind pieces rest
  pub written : WritesAll pieces before now

pub follows_start : (due : Output) (s : Sunk) → Follows due due s s
follows_start due s = record { pieces = []; is = refl; written = none_written s }

behind_more : (xs ys : List (List ℕ)) (rest : Output) → behind xs (behind ys rest) ≡ behind (xs ++ ys) rest
behind_more xs ys rest = λ i. record { status = rest.status; pieces = sym (append_assoc xs ys rest.pieces) i; last = rest.last }

-- what a line and those behind it give
abbrev from_line : Reading → Names → ℕ → ℕ → Standing → List ℕ → List (List ℕ) → Output
from_line read names workers number st line rest =
    after_turn number st (turn_of read names workers (line_of names line) st) (λ now. script_from read names workers (suc number) now rest)

first_line : (read : Reading) (names : Names) (workers number : ℕ) (st : Standing) (line : List ℕ) (rest : List (List ℕ)) →
    script_from read names workers number st (line ∷ rest) ≡ from_line read names workers number st line rest
unfolding script_from
first_line read names workers number st line rest = refl

last_line : (read : Reading) (names : Names) (workers number : ℕ) (st : Standing) → script_from read names workers number st [] ≡ record { status = 0; pieces = []; last = st.last }
unfolding script_from
last_line read names workers number st = refl

-- a line's turn was made
turn_made : (number : ℕ) (st st' : Standing) (t : Turn) (rest : Standing → Output) (due : Output) (a b c : Sunk) → Follows due (after_turn number st t rest) a b → Makes t st st' b c (Ok None) → Follows due (rest st') a c
turn_made number st st' (Goes now pieces) rest due a b c h k = record {
  pieces = h.pieces ++ pieces;
  is = h.is ∙ behind_more h.pieces pieces (rest now) ∙ ap (λ z. behind (h.pieces ++ pieces) (rest z)) (sym k.1);
  written = then_all h.pieces pieces a b c h.written k.0;
}
turn_made number st st' (Stops why) rest due a b c h k = absurd k.1

pub goes_on : (read : Reading) (names : Names) (workers number : ℕ) (st st' : Standing) (line : List ℕ) (rest : List (List ℕ)) (due : Output) (a b c : Sunk) →
    Follows due (script_from read names workers number st (line ∷ rest)) a b → Makes (turn_of read names workers (line_of names line) st) st st' b c (Ok None) →
    Follows due (script_from read names workers (suc number) st' rest) a c
goes_on read names workers number st st' line rest due a b c h k =
    turn_made number st st' (turn_of read names workers (line_of names line) st) (λ now. script_from read names workers (suc number) now rest) due a b c
    (subst (λ z. Follows due z a b) (first_line read names workers number st line rest) h) k

-- the script came to its end
pub ended : (read : Reading) (names : Names) (workers number : ℕ) (st : Standing) (due : Output) (a b : Sunk) → Follows due (script_from read names workers number st []) a b → Runs due st a b (Ok 0)
ended read names workers number st due a b h =
    let is : due ≡ behind h.pieces (record { status = 0; pieces = []; last = st.last }) = h.is ∙ ap (behind h.pieces) (last_line read names workers number st) in
    (ap (λ (o : Output). o.status) (sym is), subst (λ (o : Output). WritesAll o.pieces a b) (sym is) (then_all h.pieces [] a b b h.written (none_written b)), ap (λ (o : Output). o.last) (sym is))

-- it had to stop in a line
part_made : (number : ℕ) (st st' : Standing) (t : Turn) (rest : Standing → Output) (due : Output) (a b c : Sunk) (stop : Stop) → Follows due (after_turn number st t rest) a b → Makes t st st' b c (Err stop) → WritesPart due.pieces a c
part_made number st st' (Goes now pieces) rest due a b c stop h k =
    subst (λ (o : Output). WritesPart o.pieces a c) (sym (h.is ∙ behind_more h.pieces pieces (rest now)))
    (part_more (h.pieces ++ pieces) (rest now).pieces a c (then_part h.pieces pieces a b c h.written k.0))
part_made number st st' (Stops why) rest due a b c stop h k =
    subst (λ (o : Output). WritesPart o.pieces a c) (sym h.is)
    (subst (λ ps. WritesPart ps a c) (append_assoc h.pieces [] (refusal_line (line_refused number why) ∷ []))
    (part_more (h.pieces ++ []) (refusal_line (line_refused number why) ∷ []) a c (then_part h.pieces [] a b c h.written k.0)))

pub cause_made : (stop : Stop) (a b c : Sunk) → b.faults ≡ a.faults → StopsWriting stop b c → StopsWriting stop a c
cause_made Stop.Read a b c e h = h
cause_made Stop.Write a b c e h = subst (λ n. HasRisen n c.faults) e h
cause_made Stop.Memory a b c e h = tt

pub stopped : (read : Reading) (names : Names) (workers number : ℕ) (st st' : Standing) (line : List ℕ) (rest : List (List ℕ)) (due : Output) (a b c : Sunk) (stop : Stop) →
    Follows due (script_from read names workers number st (line ∷ rest)) a b → Makes (turn_of read names workers (line_of names line) st) st st' b c (Err stop) → Runs due st' a c (Err stop)
stopped read names workers number st st' line rest due a b c stop h k = (
  part_made number st st' (turn_of read names workers (line_of names line) st) (λ now. script_from read names workers (suc number) now rest) due a b c stop
      (subst (λ z. Follows due z a b) (first_line read names workers number st line rest) h) k,
  cause_made stop a b c h.written.faults k.1,
)

-- its line is refused
line_ended : (number : ℕ) (st st' : Standing) (t : Turn) (why : LineRefusal) (rest : Standing → Output) (due : Output) (a b c d : Sunk) (r : Result ℕ Stop) →
    Follows due (after_turn number st t rest) a b → Makes t st st' b c (Ok (Some why)) → Writes (refusal_line (line_refused number why) ∷ []) c d r → IfOk r (λ s. s ≡ 4) → Runs due st' a d r
line_ended number st st' (Goes now pieces) why rest due a b c d r h k w s = absurd k.1
line_ended number st st' (Stops because) why rest due a b c d (Ok status) h k w s =
    let line : List (List ℕ) = refusal_line (line_refused number because) ∷ [] in
    let same : WritesAll line c d = subst (λ z. WritesAll (refusal_line (line_refused number z) ∷ []) c d) k.1.0 w in
    let wrote : WritesAll (h.pieces ++ line) a d = then_all h.pieces line a c d (subst (λ ps. WritesAll ps a c) (nothing_more h.pieces) (then_all h.pieces [] a b c h.written k.0)) same in
    (s ∙ ap (λ (o : Output). o.status) (sym h.is), subst (λ (o : Output). WritesAll o.pieces a d) (sym h.is) wrote, k.1.1 ∙ ap (λ (o : Output). o.last) (sym h.is))
line_ended number st st' (Stops because) why rest due a b c d (Err stop) h k w s =
    let line : List (List ℕ) = refusal_line (line_refused number because) ∷ [] in
    let same : WritesPart line c d = subst (λ z. WritesPart (refusal_line (line_refused number z) ∷ []) c d) k.1.0 w.0 in
    let so_far : WritesAll h.pieces a c = subst (λ ps. WritesAll ps a c) (nothing_more h.pieces) (then_all h.pieces [] a b c h.written k.0) in
    (subst (λ (o : Output). WritesPart o.pieces a d) (sym h.is) (then_part h.pieces line a c d so_far same), cause_made stop a c d so_far.faults w.1)

pub refused : (read : Reading) (names : Names) (workers number : ℕ) (st st' : Standing) (line : List ℕ) (why : LineRefusal) (rest : List (List ℕ)) (due : Output) (a b c d : Sunk) (r : Result ℕ Stop) →
    Follows due (script_from read names workers number st (line ∷ rest)) a b → Makes (turn_of read names workers (line_of names line) st) st st' b c (Ok (Some why)) →
    Writes (refusal_line (line_refused number why) ∷ []) c d r → IfOk r (λ s. s ≡ 4) → Runs due st' a d r
refused read names workers number st st' line why rest due a b c d r h k w s =
    line_ended number st st' (turn_of read names workers (line_of names line) st) why (λ now. script_from read names workers (suc number) now rest) due a b c d r
    (subst (λ z. Follows due z a b) (first_line read names workers number st line rest) h) k w s

-- why a run stopped that was to write a refusal
pub refusal_stops : (pieces : List (List ℕ)) (a b c : Sunk) (r : Result ℕ Stop) → b.faults ≡ a.faults → Writes pieces b c r → writing.Stops a c r
refusal_stops pieces a b c (Ok status) e w = tt
refusal_stops pieces a b c (Err stop) e w = cause_made stop a b c e w.1

-- what follows from a place on is what follows from the line that begins there
pub next_follows : (read : Reading) (names : Names) (workers number : ℕ) (st : Standing) (script : List ℕ) (start n : ℕ) (due : Output) (a b : Sunk) → start < length script →
    n ≡ position_or_len (λ c. c == 10) (take (length script - start) (drop start script)) → Follows due (script_from read names workers number st (lines_of (drop start script))) a b →
    Follows due (script_from read names workers number st (take (start + n - start) (drop start script) ∷ lines_of (drop (start + n + 1) script))) a b
next_follows read names workers number st script start n due a b low is h =
    let same : n ≡ position_or_len (λ c. c == 10) (drop start script) = is ∙ ap (position_or_len (λ c. c == 10)) (slice_from script start) in
    let size : start + n - start ≡ n = omega arith in
    subst (λ lines. Follows due (script_from read names workers number st lines) a b)
    (next_line script start low ∙ ap (λ m. take m (drop start script) ∷ lines_of (drop (start + m + 1) script)) (sym same) ∙ ap (λ m. take m (drop start script) ∷ lines_of (drop (start + n + 1) script)) (sym size)) h
