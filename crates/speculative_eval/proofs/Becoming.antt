-- What a state that may come asks of the stack.
use Rattle.std.proofs.Common.{◌≡◌, ℕ, ◌<◌, ◌≤◌, Bool, true, false, ◌||◌, inl, inr, List, [], ◌∷◌, ◌++◌, length, get_or, eqb, ltb, cond, refl, sym, ap, ◌∙◌, subst, Option, Some, None, IfSome, arith, eqb-true}
use Rattle.std.proofs.lemmas.Bool.{ltb-true}
use Rattle.std.proofs.lemmas.List.{get_or-set_same}
use Rattle.cell_values.specs.declared.values.Shown.{Shown}
use Rattle.cell_words.specs.declared.TheConstants.{WORDS}
use Rattle.cell_words.specs.Records.{filled, record_words, shown_read, tag_words}
use Rattle.cell_words.proofs.Counts.{record_words_small, tag_range, tag_words_small}
use Rattle.claim_core.specs.declared.event.Event.{Event}
use Rattle.claim_core.specs.declared.event.Publish.{Publish}
use Rattle.claim_core.specs.Steps.{grown}
use Rattle.worker_machine.specs.declared.state.Doing.{Doing}
use Rattle.worker_machine.specs.declared.state.Entry.{Entry}
use Rattle.worker_machine.specs.Jobs.{shows}
use Rattle.worker_machine.specs.Evaluation.{Among, IsEvaluation, cells_of, has}
use Rattle.worker_machine.specs.States.{ReadingTag, ReadingValue, phase_of}
use Rattle.worker_machine.specs.Machine.{after, after_load_tag, after_load_value, after_record, after_tag, after_value, learn_cell, push_cell}
use Rattle.worker_machine.specs.Invariant.{WordsRead, open_cells}
use Rattle.worker_machine.proofs.Stepping.{reads_in, why_event}
use Rattle.worker_machine.proofs.Working.{steps_keep}
use Rattle.demand_stack.specs.StackSeen.{IsKnownTop, pending_of}
use Rattle.speculative_eval.specs.declared.machine.Machine.{Machine}
use Rattle.speculative_eval.specs.Machines.{job_of, state_of, IsWorking, CanNote, CanPush, CanLearn, CanBecome}

not_has : (i : ℕ) (cs : List ℕ) → (Among i cs → ⊥) → has i cs ≡ false
not_has i [] off = refl
not_has i (n ∷ cs) off = go (not_has i cs (λ k. off (inr k))) (eqb n i) refl
  where
    go : has i cs ≡ false → (b : Bool) → eqb n i ≡ b → (b || has i cs) ≡ false
    go rest true e = absurd (off (inl (sym (eqb-true n i e))))
    go rest false e = rest

-- a cell comes onto the stack
pub pushes : (m : Machine) (i : ℕ) (o : Option ℕ) → CanBecome m (push_cell i o (state_of m)) → CanPush m.demands i
pushes m i o h =
    let e : IsEvaluation (pending_of m.demands) m.demands.known (i ∷ cells_of m.demands.stack) = h.works.state.evaluation in
    record { there = e.below.0; new = not_has i (cells_of m.demands.stack) e.differ.0; linked = e.linked }

-- a cell that is looked at is learnt, where what is learnt is no cycle's mark
learns : (m : Machine) (i : ℕ) (r : Shown) → open_cells (state_of m).phase (cells_of m.demands.stack) ≡ i ∷ cells_of m.demands.stack
    → (r ≡ shows (pending_of m.demands) i → (n : ℕ) → r ≡ Shown.Cycle n → ⊥) → CanBecome m (learn_cell i r (state_of m)) → CanLearn m.demands i r
learns m i r looked no_mark h =
    let e : IsEvaluation (pending_of m.demands) m.demands.known (i ∷ cells_of m.demands.stack) =
    subst (λ cs. IsEvaluation (pending_of m.demands) m.demands.known cs) looked h.working.works.state.evaluation in
    let low = e.below.0 in
    let sized = e.knows.sized in
    let there : i < length m.demands.known = omega arith in
    let right : r ≡ shows (pending_of m.demands) i = h.works.state.evaluation.knows.right i r (get_or-set_same m.demands.known i (Some r) None there) in
    record {
      there = low;
      off = not_has i (cells_of m.demands.stack) e.differ.0;
      found = record { right = right; no_cycle = no_mark right };
    }

-- by the tag that was read

tag_phase : (m : Machine) (i r : ℕ) → m.doing ≡ Doing.ReadingTag i r → (state_of m).phase ≡ ReadingTag i r
tag_phase m i r e = ap (λ d. phase_of d m.words) e

tag_comes : (m : Machine) (i r t n : ℕ) → m.doing ≡ Doing.ReadingTag i r → t ≡ n → CanBecome m (after_load_tag (state_of m) t (state_of m).phase) → CanBecome m (after_tag (state_of m) i r n)
tag_comes m i r t n e same h = subst (λ z. CanBecome m (after_tag (state_of m) i r z)) same (subst (λ p. CanBecome m (after_load_tag (state_of m) t p)) (tag_phase m i r e) h)

pub tag_learns : (m : Machine) (i r t : ℕ) → m.doing ≡ Doing.ReadingTag i r → t ≡ 7 → CanBecome m (after_load_tag (state_of m) t (state_of m).phase) → CanLearn m.demands i Shown.ToCycle
tag_learns m i r t e seven h = learns m i Shown.ToCycle (ap (λ p. open_cells p (cells_of m.demands.stack)) (tag_phase m i r e)) (λ right n q. cc) (tag_comes m i r t 7 e seven h)

pub tag_pushes : (m : Machine) (i r t : ℕ) → m.doing ≡ Doing.ReadingTag i r → t ≡ 6 → CanBecome m (after_load_tag (state_of m) t (state_of m).phase) → CanPush m.demands i
tag_pushes m i r t e six h = pushes m i None (tag_comes m i r t 6 e six h)

-- by the value words that were read

value_phase : (m : Machine) (i r t : ℕ) → m.doing ≡ Doing.ReadingValue i r t → (state_of m).phase ≡ ReadingValue i r t m.words
value_phase m i r t e = ap (λ d. phase_of d m.words) e

words_read : (m : Machine) (i r t : ℕ) → m.doing ≡ Doing.ReadingValue i r t → IsWorking m → WordsRead (job_of m) i t m.words
words_read m i r t e h = (reads_in (job_of m) h.view (state_of m) (ReadingValue i r t m.words) (value_phase m i r t e) h.works.state).1

pub words_room : (m : Machine) (i r t : ℕ) → m.doing ≡ Doing.ReadingValue i r t → IsWorking m → length m.words < WORDS
words_room m i r t e h = (let more = (words_read m i r t e h).more in omega (arith, more, tag_words_small t))

pub tag_known : (m : Machine) (i r t : ℕ) → m.doing ≡ Doing.ReadingValue i r t → IsWorking m → (1 ≤ t) × (t ≤ 8)
tag_known m i r t e h = subst (λ n. (1 ≤ n) × (n ≤ 8)) (sym (words_read m i r t e h).tag) (tag_range (shows (pending_of m.demands) i))

value_comes : (m : Machine) (i r t w : ℕ) (words : List ℕ) (o : Option Shown) → m.doing ≡ Doing.ReadingValue i r t → words ≡ m.words ++ w ∷ [] → ltb (length words) (tag_words t) ≡ false
    → shown_read t (filled words) ≡ o → CanBecome m (after_load_value (state_of m) w (state_of m).phase) → CanBecome m (after_record (state_of m) i o)
value_comes m i r t w words o e all enough read h =
    let at_words : CanBecome m (after_value (state_of m) i r t words) =
    subst (λ ws. CanBecome m (after_value (state_of m) i r t ws)) (sym all) (subst (λ p. CanBecome m (after_load_value (state_of m) w p)) (value_phase m i r t e) h) in
    let at_end : CanBecome m (after_record (state_of m) i (shown_read t (filled words))) =
    subst (λ b. CanBecome m (cond b (record (state_of m) { phase = ReadingValue i r t words }) (after_record (state_of m) i (shown_read t (filled words))))) enough at_words in
    subst (λ z. CanBecome m (after_record (state_of m) i z)) read at_end

pub value_learns : (m : Machine) (i r t w : ℕ) (words : List ℕ) (q : Shown) → m.doing ≡ Doing.ReadingValue i r t → words ≡ m.words ++ w ∷ [] → ltb (length words) (tag_words t) ≡ false
    → shown_read t (filled words) ≡ Some q → CanBecome m (after_load_value (state_of m) w (state_of m).phase) → CanLearn m.demands i q
value_learns m i r t w words q e all enough read h =
    let is_value = (words_read m i r t e h.working).is_value in
    let value = (words_read m i r t e h.working).value in
    learns m i q (ap (λ p. open_cells p (cells_of m.demands.stack)) (value_phase m i r t e))
    (λ right n mark. let both : Shown.Val value ≡ Shown.Cycle n = sym is_value ∙ sym right ∙ mark in cc)
    (value_comes m i r t w words (Some q) e all enough read h)

pub value_pushes : (m : Machine) (i r t w : ℕ) (words : List ℕ) → m.doing ≡ Doing.ReadingValue i r t → words ≡ m.words ++ w ∷ [] → ltb (length words) (tag_words t) ≡ false
    → shown_read t (filled words) ≡ None → CanBecome m (after_load_value (state_of m) w (state_of m).phase) → CanPush m.demands i
value_pushes m i r t w words e all enough read h = pushes m i None (value_comes m i r t w words None e all enough read h)

-- of an event that came of the step which the state calls for

pub comes : (m : Machine) (e : Event) → CanNote m e → CanBecome m (after (job_of m) (state_of m) e)
comes m e h = record { working = h.working; view = grown e h.working.view; works = steps_keep (job_of m) h.working.view (state_of m) e h.working.works h.step }

pub stores : (m : Machine) (r k w : ℕ) → CanNote m (Event.StoreValue r k w) → IfSome m.held (λ h. h.stored < WORDS)
stores m r k w h =
    let why = why_event (job_of m) h.working.view (state_of m) (Event.StoreValue r k w) h.working.works.state.evaluation.knows.sized h.step in
    let less = ltb-true why.0.stored (record_words why.1) why.6 in
    let few = record_words_small why.1 in
    subst (λ o. IfSome o (λ h. h.stored < WORDS)) (sym why.2.held) (omega arith)

pub publishes_known : (m : Machine) (i r : ℕ) (a : Publish) → CanNote m (Event.Publish i r a) → (f : Entry) × IsKnownTop m.demands f
publishes_known m i r a h =
    let why = why_event (job_of m) h.working.view (state_of m) (Event.Publish i r a) h.working.works.state.evaluation.knows.sized h.step in
    let o = why.2 in
    (o.entry, record { rest = o.rest; on_top = o.on_top; result = why.1; is_known = subst (λ n. get_or m.demands.known n None ≡ Some why.1) (sym o.cell) o.is_known })
