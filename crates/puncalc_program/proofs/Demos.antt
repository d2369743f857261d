-- What `demo` answers, part by part.
use Rattle.std.proofs.Common.{◌≡◌, ℕ, List, [], ◌∷◌, length, Option, Some, None, Ok, refl, sym, subst}
use Rattle.std.specs.Prelude.{Result, Err, IfOk}
use Rattle.byte_streams.specs.Faults.{HasRisen}
use Rattle.claim_core.specs.Passes.{OutcomeSeen}
use Rattle.claim_core.specs.Rule.{Setup}
use Rattle.formula_grammar.specs.Reading.{Reading}
use Rattle.sheet_loading.specs.Contents.{Names}
use Rattle.puncalc_program.specs.declared.refusals.LineRefusal.{LineRefusal}
use Rattle.puncalc_program.specs.declared.stop.Stop.{Stop}
use Rattle.puncalc_program.specs.Demo.{all_shown, demo_on, demo_refused, last_part, summary_line, tally_line}
use Rattle.puncalc_program.specs.Desks.{KeptIs, Leaves}
use Rattle.puncalc_program.specs.Outputs.{Output, behind}
use Rattle.puncalc_program.specs.Run.{Answers, StopsFor}
use Rattle.puncalc_program.specs.Script.{Standing, Turn, Goes, Stops, recalculated}
use Rattle.puncalc_program.specs.Writing.{Sunk, StopsWriting, Writes, WritesAll, WritesPart}
use Rattle.puncalc_program.proofs.Ends.{part_answers}
use Rattle.puncalc_program.proofs.Scripts.{cause_made}
use Rattle.puncalc_program.proofs.Written.{no_part, part_more, then_all, then_part}

-- what is told of a book that was recalculated
pub summary_is : (workers : ℕ) (st now : Standing) (n : ℕ) → n ≡ length st.pending → now ≡ recalculated workers st → tally_line n (all_shown now.book) ≡ summary_line st
unfolding summary_line
summary_is workers st now n e h = λ i. tally_line (e i) (all_shown (h i).book)

-- there was no memory, and nothing was written

pub no_memory : (due : Output) (s : Sunk) (kept : Option OutcomeSeen) (stop : Stop) → stop ≡ Stop.Memory → Answers due s s kept (Err stop)
no_memory due s kept stop e = subst (λ z. Answers due s s kept (Err z)) (sym e) (no_part due.pieces s)

pub memory_stops : (s : Sunk) (stop : Stop) → stop ≡ Stop.Memory → StopsFor {A = ℕ} ⊥ s s (Err stop)
memory_stops s stop e = subst (λ z. StopsFor {A = ℕ} ⊥ s s (Err z)) (sym e) tt

-- pieces were written, and then the run answers

answers_behind : (pieces : List (List ℕ)) (due : Output) (a b c : Sunk) (kept : Option OutcomeSeen) (r : Result ℕ Stop) → WritesAll pieces a b → Answers due b c kept r → StopsFor ⊥ b c r → Answers (behind pieces due) a c kept r
answers_behind pieces due a b c kept (Ok status) w h k = (h.0, then_all pieces due.pieces a b c w h.1, h.2)
answers_behind pieces due a b c kept (Err Stop.Read) w h k = absurd k
answers_behind pieces due a b c kept (Err Stop.Write) w h k = then_part pieces due.pieces a b c w h
answers_behind pieces due a b c kept (Err Stop.Memory) w h k = then_part pieces due.pieces a b c w h

pub stops_behind : (a b c : Sunk) (r : Result ℕ Stop) → b.faults ≡ a.faults → StopsFor ⊥ b c r → StopsFor ⊥ a c r
stops_behind a b c (Ok status) e h = tt
stops_behind a b c (Err Stop.Read) e h = absurd h
stops_behind a b c (Err Stop.Write) e h = subst (λ n. HasRisen n c.faults) e h
stops_behind a b c (Err Stop.Memory) e h = tt

-- two lines, and then the rest

pub first_stops : (x y : List ℕ) (due : Output) (a b : Sunk) (kept : Option OutcomeSeen) (stop : Stop) → WritesPart (x ∷ []) a b → StopsWriting stop a b → Answers (behind (x ∷ y ∷ []) due) a b kept (Err stop)
first_stops x y due a b kept stop h k = part_answers (behind (x ∷ y ∷ []) due) a b kept stop (part_more (x ∷ []) (y ∷ due.pieces) a b h) k

pub second_stops : (x y : List ℕ) (due : Output) (a b c : Sunk) (kept : Option OutcomeSeen) (stop : Stop) → WritesAll (x ∷ []) a b → WritesPart (y ∷ []) b c → StopsWriting stop b c → Answers (behind (x ∷ y ∷ []) due) a c kept (Err stop)
second_stops x y due a b c kept stop w h k =
    part_answers (behind (x ∷ y ∷ []) due) a c kept stop (part_more (x ∷ y ∷ []) due.pieces a c (then_part (x ∷ []) (y ∷ []) a b c w h)) (cause_made stop a b c w.faults k)

pub both_written : (x y : List ℕ) (due : Output) (a b c d : Sunk) (kept : Option OutcomeSeen) (r : Result ℕ Stop) → WritesAll (x ∷ []) a b → WritesAll (y ∷ []) b c → Answers due c d kept r → StopsFor ⊥ c d r → Answers (behind (x ∷ y ∷ []) due) a d kept r
both_written x y due a b c d kept r w v h k = answers_behind (x ∷ y ∷ []) due a c d kept r (then_all (x ∷ []) (y ∷ []) a b c w v) h k

-- a field is refused

fault_answers : (why : LineRefusal) (last : Option Setup) (a b : Sunk) (kept : Option OutcomeSeen) (r : Result ℕ Stop) → Writes (demo_refused why None).pieces a b r → IfOk r (λ s. s ≡ 4) → KeptIs last kept → Answers (demo_refused why last) a b kept r
fault_answers why last a b kept (Ok status) w e k = (e, w, k)
fault_answers why last a b kept (Err stop) w e k = part_answers (demo_refused why last) a b kept stop w.0 w.1

-- ---- the generated book

pub demo_goes : (read : Reading) (names : Names) (workers : ℕ) (due : Turn) (first st : Standing) (a b : Sunk) (kept : Option OutcomeSeen) (r : Result ℕ Stop) → Leaves due first st None →
    Answers (demo_on read names workers (Goes st [])) a b kept r → Answers (demo_on read names workers due) a b kept r
demo_goes read names workers (Goes s pieces) first st a b kept r h k = subst (λ z. Answers (demo_on read names workers (Goes z [])) a b kept r) h k
demo_goes read names workers (Stops why) first st a b kept r h k = absurd h

pub demo_stops : (read : Reading) (names : Names) (workers : ℕ) (due : Turn) (first st : Standing) (why : LineRefusal) (a b : Sunk) (kept : Option OutcomeSeen) (r : Result ℕ Stop) → Leaves due first st (Some why) →
    Writes (demo_refused why None).pieces a b r → IfOk r (λ s. s ≡ 4) → kept ≡ None → Answers (demo_on read names workers due) a b kept r
demo_stops read names workers (Goes s pieces) first st why a b kept r h w e k = absurd h
demo_stops read names workers (Stops because) first st why a b kept r h w e k = subst (λ z. Answers (demo_refused z None) a b kept r) h.0 (fault_answers why None a b kept r w e k)

-- ---- with 1 in A1

pub last_refused : (workers : ℕ) (old st : Standing) (due : Turn) (why : LineRefusal) (a b : Sunk) (kept : Option OutcomeSeen) (r : Result ℕ Stop) → Leaves due old st (Some why) →
    Writes (demo_refused why None).pieces a b r → IfOk r (λ s. s ≡ 4) → KeptIs st.last kept → Answers (last_part workers old due) a b kept r
last_refused workers old st (Goes s pieces) why a b kept r h w e k = absurd h
last_refused workers old st (Stops because) why a b kept r h w e k =
    subst (λ z. Answers (demo_refused z old.last) a b kept r) h.0 (fault_answers why old.last a b kept r w e (subst (λ l. KeptIs l kept) h.1 k))

pub last_told : (workers : ℕ) (old st : Standing) (due : Turn) (a b : Sunk) (kept : Option OutcomeSeen) → Leaves due old st None → WritesAll (summary_line st ∷ []) a b → KeptIs (recalculated workers st).last kept →
    Answers (last_part workers old due) a b kept (Ok 0)
last_told workers old st (Goes s pieces) a b kept h w k = subst (λ z. Answers (last_part workers old (Goes z pieces)) a b kept (Ok 0)) h (refl, w, k)
last_told workers old st (Stops why) a b kept h w k = absurd h

pub last_stops : (workers : ℕ) (old st : Standing) (due : Turn) (a b : Sunk) (kept : Option OutcomeSeen) (stop : Stop) → Leaves due old st None → WritesPart (summary_line st ∷ []) a b → StopsWriting stop a b →
    Answers (last_part workers old due) a b kept (Err stop)
last_stops workers old st (Goes s pieces) a b kept stop h w k =
    subst (λ z. Answers (last_part workers old (Goes z pieces)) a b kept (Err stop)) h (part_answers (last_part workers old (Goes st pieces)) a b kept stop w k)
last_stops workers old st (Stops why) a b kept stop h w k = absurd h
