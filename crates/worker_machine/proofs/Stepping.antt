-- A step, told what the round tells, keeps all that is known and where it comes from.
use Rattle.std.proofs.Common.{◌≡◌, ℕ, zero, suc, ◌+◌, ◌<◌, Bool, true, false, cond, inl, inr, ⊎_elim, List, [], ◌∷◌, ◌++◌, length, get_or, set, slice_index, eqb, ltb, drop, refl, sym, ap, ◌∙◌, subst, Option, Some, None, arith, eqb-true, eq-eqb}
use Rattle.std.specs.Option.{option_or}
use Rattle.std.proofs.lemmas.Bool.{ltb-true, ltb-false}
use Rattle.std.proofs.lemmas.List.{length-drop, get_or-drop, length_push}
use Rattle.cell_values.specs.declared.values.Shown.{Shown}
use Rattle.cell_words.specs.declared.cell_word.CellWord.{CellWord}
use Rattle.cell_words.specs.Records.{IsShown, tag_words, tag_of, value_of, record_words, filled, shown_read}
use Rattle.cell_words.proofs.Counts.{tag_words_some, words_by_tag}
use Rattle.claim_core.specs.declared.event.Claim.{Claim}
use Rattle.claim_core.specs.declared.event.Publish.{Publish}
use Rattle.claim_core.specs.declared.event.Event.{Event}
use Rattle.claim_core.specs.declared.view.View.{View}
use Rattle.claim_core.specs.Rule.{Setup, shown_in, shown_at, Seen, SeenDone, IsDoneWith, InRound, AnswerInRound}
use Rattle.claim_core.specs.Steps.{me, held_by, grown}
use Rattle.claim_core.proofs.SeenEvents.{seen_more, seen_done_more, seen_now, seen_done_now}
use Rattle.worker_machine.specs.declared.action.Action.{Action}
use Rattle.worker_machine.specs.declared.action.Next.{Next}
use Rattle.worker_machine.specs.declared.action.Next.TheVariants.{Alter, Do, Rest}
use Rattle.worker_machine.specs.declared.state.Entry.{Entry}
use Rattle.worker_machine.specs.Jobs.{Job, IsJob, shows}
use Rattle.worker_machine.specs.Evaluation.{IsEvaluation, Among, Knows, cells_of, first_from, first_unknown, has, pop}
use Rattle.worker_machine.specs.States.{State, Phase, Free, Claiming, ReadingTag, ReadingValue, start, known_at}
use Rattle.worker_machine.specs.Machine.{begins_at, look_at_cell, action_from, action, next, after_word, after_tag, after_load_tag, after_record, after_value, after_load_value, after, push_cell, learn_cell}
use Rattle.worker_machine.specs.RoundSteps.{IsViewOf, action_of, claimer_in, IsTold, IsHint, IsStep}
use Rattle.worker_machine.specs.Invariant.{TopIsOwed, open_cells, WordsRead, SawDone, SawDoneWith, ReadsDone, IsOwed, AreOwed, IsTied, IsMet, IsRightState}
use Rattle.worker_machine.proofs.Coding.{tag_carried, tag_value, words_tell}
use Rattle.worker_machine.proofs.Places.{number_some}
use Rattle.worker_machine.proofs.Numbers.{KnownList, set_from}
use Rattle.worker_machine.proofs.Evaluating.{tail_evaluates, learnt_evaluates, pushed_evaluates, first_evaluates, none_known, start_evaluates}
use Rattle.worker_machine.proofs.Changing.{top_evaluates, top_demands, met_popped, owed_popped}
use Rattle.worker_machine.proofs.Why.{TopNeeds, WhyDo, why_is}

-- why a cell is looked at

pub data LookWhy (j : Job) (s : State) (i : ℕ) : Type 0 where
  demanded : TopNeeds j s i → has i (cells_of s.stack) ≡ false → LookWhy j s i
  first : s.phase ≡ Free → s.stack ≡ [] → i < length j.pending.cells → known_at s i ≡ None → LookWhy j s i

abbrev pub WhyStep : Job → State → Action → Type 0
WhyStep j s (Action.Look i) = LookWhy j s i
WhyStep j s a = WhyDo j s a

first_is : (k : KnownList) (i n : ℕ) → first_unknown k i ≡ Some n → (d : ℕ) × (n ≡ i + d) × (d < length k) × (get_or k d None ≡ None)
first_is [] i n e = cc
first_is (None ∷ k) i n e = (let same : i ≡ n = cc in (0, omega arith, omega arith, refl))
first_is (Some r ∷ k) i n e = (let w = first_is k (suc i) n e in (suc w.0, omega (arith, w.1), omega (arith, w.2), w.3))

-- wherever the search begins
pub from_is : (k : KnownList) (i n : ℕ) → first_from k i ≡ Some n → (n < length k) × (get_or k n None ≡ None)
from_is k i n e = go (first_unknown (drop i k) i) refl e
  where
    go : (o : Option ℕ) → first_unknown (drop i k) i ≡ o → option_or o (first_unknown k 0) ≡ Some n → (n < length k) × (get_or k n None ≡ None)
    go (Some m) d f =
        let same : m ≡ n = cc in
        let w = first_is (drop i k) i m d in
        let z = length-drop i k in
        let at : n ≡ i + w.0 = sym same ∙ w.1 in
        let low = w.2 in
        (omega arith, subst (λ q. get_or k q None ≡ None) (sym at) (sym (get_or-drop i k w.0 None) ∙ w.3))
    go None d f =
        let w = first_is k 0 n f in
        let at : w.0 ≡ n = omega (arith, w.1) in
        (omega (arith, w.2), subst (λ q. get_or k q None ≡ None) at w.3)

why_look : (j : Job) (s : State) (hint : Option ℕ) (a : Action) → length s.known ≡ length j.pending.cells → IsHint j s hint → s.phase ≡ Free → s.stack ≡ [] → look_at_cell (option_or hint (first_from s.known (begins_at j))) ≡ Some a → WhyStep j s a
why_look j s (Some i) a z fits p q e = (let same : Action.Look i ≡ a = cc in subst (WhyStep j s) same (first p q fits.0 fits.1))
why_look j s None a z fits p q e = go (first_from s.known (begins_at j)) refl e
  where
    go : (o : Option ℕ) → first_from s.known (begins_at j) ≡ o → look_at_cell o ≡ Some a → WhyStep j s a
    go None d f = cc
    go (Some n) d f =
        let same : Action.Look n ≡ a = cc in
        let w = from_is s.known (begins_at j) n d in
        let l = w.0 in
        subst (WhyStep j s) same (first p q (omega arith) w.1)

step_of_do : (j : Job) (s : State) (a : Action) → WhyDo j s a → WhyStep j s a
step_of_do j s (Action.Look i) w = demanded w.0 w.1
step_of_do j s (Action.Claim i) w = w
step_of_do j s Action.TakeRecord w = w
step_of_do j s (Action.StoreValue n k x) w = w
step_of_do j s (Action.StoreTag n x) w = w
step_of_do j s (Action.Publish i n c) w = w
step_of_do j s (Action.LoadTag r) w = w
step_of_do j s (Action.LoadValue r k) w = w

pub why_step : (j : Job) (s : State) (hint : Option ℕ) (a : Action) → length s.known ≡ length j.pending.cells → IsHint j s hint → action j s hint ≡ Some a → WhyStep j s a
why_step j s hint a z fits e = go (next j s) refl e
  where
    go : (n : Next) → next j s ≡ n → action_from j s hint n ≡ Some a → WhyStep j s a
    go (Alter c) d f = cc
    go (Do b) d f = (let same : b ≡ a = cc in subst (WhyStep j s) same (step_of_do j s b (why_is j s (Do b) d)))
    go Rest d f = (let w = why_is j s Rest d in why_look j s hint a z fits w.0 w.1 f)

-- the action that an event was made by, and why
pub why_event : (j : Job) (v : View) (s : State) (e : Event) → length s.known ≡ length j.pending.cells → (st : IsStep j v s e) → WhyStep j s (action_of (claimer_in st.act) e)
why_event j v s e z st = subst (WhyStep j s) st.made (why_step j s st.hint st.act z st.new st.called)

-- a cell may come onto the stack
may_look : (j : Job) (v : View) (s : State) (i : ℕ) → IsJob j → IsRightState j v s → LookWhy j s i → IsEvaluation j.pending s.known (i ∷ cells_of s.stack)
may_look j v s i job h (demanded n off) =
    let t = n.asked.top in
    subst (λ fs. IsEvaluation j.pending s.known (i ∷ cells_of fs)) (sym t.on_top)
    (pushed_evaluates j.pending s.known t.entry.cell i (cells_of t.rest) (top_demands j v s i job h n) (number_some j.pending n.cell i n.is_number).0 (subst (λ fs. has i (cells_of fs) ≡ false) t.on_top off) (top_evaluates j v s t h))
may_look j v s i job h (first p q l u) =
    let o : IsEvaluation j.pending s.known [] = subst (λ fs. IsEvaluation j.pending s.known (cells_of fs)) q (subst (λ p. IsEvaluation j.pending s.known (open_cells p (cells_of s.stack))) p h.evaluation) in
    subst (λ fs. IsEvaluation j.pending s.known (i ∷ cells_of fs)) (sym q) (first_evaluates j.pending s.known i l o)

-- the phase of a state, with its stack
pub in_phase : (j : Job) (v : View) (s : State) (p : Phase) → s.phase ≡ p → IsRightState j v s → IsEvaluation j.pending s.known (open_cells p (cells_of s.stack))
in_phase j v s p e h = subst (λ q. IsEvaluation j.pending s.known (open_cells q (cells_of s.stack))) e h.evaluation

pub reads_in : (j : Job) (v : View) (s : State) (p : Phase) → s.phase ≡ p → IsRightState j v s → ReadsDone j v p
reads_in j v s p e h = subst (ReadsDone j v) e h.tied.reading

-- what was seen stays seen

owing_more : (j : Job) (v : View) (e : Event) (fs : List Entry) → AreOwed j v fs → AreOwed j (grown e v) fs
owing_more j v e [] h = tt
owing_more j v e (f ∷ rest) h = (go f.owed h.0, owing_more j v e rest h.1)
  where
    go : (o : Option ℕ) → IsOwed j v f.cell o → IsOwed j (grown e v) f.cell o
    go None k = (k.0, seen_done_more e (held_by e v.held) v f.cell k.0 k.1)
    go (Some c) k = (seen_more e (held_by e v.held) v f.cell (CellWord.Claimed c) k.0, k.1)

done_more : (j : Job) (v : View) (e : Event) (i r : ℕ) → SawDoneWith j v i r → SawDoneWith j (grown e v) i r
done_more j v e i r h = (seen_done_more e (held_by e v.held) v i r h.0, h.1)

reading_more : (j : Job) (v : View) (e : Event) (p : Phase) → ReadsDone j v p → ReadsDone j (grown e v) p
reading_more j v e Free h = tt
reading_more j v e (Claiming i) h = tt
reading_more j v e (ReadingTag i r) h = done_more j v e i r h
reading_more j v e (ReadingValue i r t ws) h = (done_more j v e i r h.0, h.1)

met_more : (v : View) (e : Event) (k : KnownList) (cs : List ℕ) → IsMet v k cs → IsMet (grown e v) k cs
met_more v e k cs m = λ i q d. ⊎_elim (λ (x : SawDone v i). inl (x.0, seen_done_more e (held_by e v.held) v i x.0 x.1)) (λ a. inr a) (m i q d)

met_pushed : (v : View) (k : KnownList) (c : ℕ) (cs : List ℕ) → IsMet v k cs → IsMet v k (c ∷ cs)
met_pushed v k c cs m = λ i q d. ⊎_elim (λ x. inl x) (λ (a : Among i cs). inr (inr a)) (m i q d)

met_learnt : (j : Job) (v : View) (k : KnownList) (c : ℕ) (r : Shown) (cs : List ℕ) → Knows j.pending k → c < length j.pending.cells → SawDone v c → IsMet v k cs → IsMet v (set k c (Some r)) cs
met_learnt j v k c r cs h l d m = λ i q e. ⊎_elim (λ (p : (i ≡ c) × (q ≡ r)). inl (subst (SawDone v) (sym p.0) d)) (λ p. m i q p) (set_from k c i r q (subst (λ z. c < z) (sym h.sized) l) e)

-- what the view says of the job

pub workers_same : (j : Job) (v : View) → IsViewOf j v → v.workers ≡ j.workers
workers_same j v h = ap (λ (t : Setup). t.workers) h.of_round

pub cells_same : (j : Job) (v : View) → IsViewOf j v → v.cells ≡ j.pending.cells
cells_same j v h = ap (λ (t : Setup). t.cells) h.of_round

pub shown_same : (j : Job) (v : View) → IsViewOf j v → (i : ℕ) → shown_at v i ≡ shows j.pending i
shown_same j v h i = ap (λ (t : Setup). shown_in t i) h.of_round

number_same : (j : Job) (v : View) → IsViewOf j v → me v ≡ j.worker
number_same j v h = ap (λ ns. slice_index ns 0) h.number

-- the numbers of a word that was found
abbrev IsWordIn : Job → CellWord → Type 0
IsWordIn j CellWord.Stale = Unit {0}
IsWordIn j (CellWord.Claimed c) = c < j.workers
IsWordIn j (CellWord.Done p c r) = r < length j.pending.cells + j.workers

word_in : (j : Job) (v : View) → IsViewOf j v → (w : CellWord) → InRound v w → IsWordIn j w
word_in j v h CellWord.Stale t = tt
word_in j v h (CellWord.Claimed c) t = subst (λ n. c < n) (workers_same j v h) t
word_in j v h (CellWord.Done p c r) t = (let a = workers_same j v h in let b = ap (λ cs. length cs) (cells_same j v h) in let l = t.2 in omega arith)

answer_in : (v : View) (w : CellWord) → AnswerInRound v (Claim.Found w) → InRound v w
answer_in v CellWord.Stale t = absurd t
answer_in v (CellWord.Claimed c) t = t
answer_in v (CellWord.Done p c r) t = t

-- a word that a look or a claim found
word_keeps : (j : Job) (v : View) (s : State) (i : ℕ) (w : CellWord) → IsEvaluation j.pending s.known (i ∷ cells_of s.stack) → AreOwed j v s.stack → IsMet v s.known (cells_of s.stack) → Seen v i w → ((r : ℕ) → IsDoneWith r w → SeenDone v i r) → IsWordIn j w → IsRightState j v (after_word s i w)
word_keeps j v s i CellWord.Stale m o met seen done low = record { evaluation = m; tied = record { reading = tt; owing = o; met = met } }
word_keeps j v s i (CellWord.Claimed c) m o met seen done low = record { evaluation = m; tied = record { reading = tt; owing = ((seen, low), o); met = met_pushed v s.known i (cells_of s.stack) met } }
word_keeps j v s i (CellWord.Done p c r) m o met seen done low = record { evaluation = m; tied = record { reading = (done r refl, low); owing = o; met = met } }

-- a result that was loaded
learnt_keeps : (j : Job) (v : View) (s : State) (i k : ℕ) (r : Shown) → IsEvaluation j.pending s.known (i ∷ cells_of s.stack) → AreOwed j v s.stack → IsMet v s.known (cells_of s.stack) → SeenDone v i k → r ≡ shows j.pending i → ((n : ℕ) → r ≡ Shown.Cycle n → ⊥) → IsRightState j v (learn_cell i r s)
learnt_keeps j v s i k r m o met seen e n = record {
  evaluation = learnt_evaluates j.pending s.known (cells_of s.stack) i r (tail_evaluates j.pending s.known i (cells_of s.stack) m) m.below.0 e n;
  tied = record { reading = tt; owing = o; met = met_learnt j v s.known i r (cells_of s.stack) m.knows m.below.0 (k, seen) met };
}

-- a tag that was loaded
tag_keeps : (j : Job) (v : View) (s : State) (i r t : ℕ) → IsEvaluation j.pending s.known (i ∷ cells_of s.stack) → AreOwed j v s.stack → IsMet v s.known (cells_of s.stack) → SawDoneWith j v i r → t ≡ tag_of (shows j.pending i) → IsRightState j v (after_tag s i r t)
tag_keeps j v s i r t m o met seen e = go (eqb t 7) refl (eqb t 6) refl
  where
    go : (x : Bool) → eqb t 7 ≡ x → (y : Bool) → eqb t 6 ≡ y → IsRightState j v (cond x (learn_cell i Shown.ToCycle s) (cond y (push_cell i None s) (record s { phase = ReadingValue i r t [] })))
    go true p y q =
        let carried : shows j.pending i ≡ Shown.ToCycle = tag_carried (shows j.pending i) (sym e ∙ eqb-true t 7 p) in
        learnt_keeps j v s i r Shown.ToCycle m o met seen.0 (sym carried) (λ n z. cc)
    go false p true q = record { evaluation = m; tied = record { reading = tt; owing = ((r, seen.0), o); met = met_pushed v s.known i (cells_of s.stack) met } }
    go false p false q =
        let x = tag_value (shows j.pending i) (λ z. let d = eq-eqb t 7 (e ∙ z) in cc) (λ z. let d = eq-eqb t 6 (e ∙ z) in cc) in
        record {
          evaluation = m;
          tied = record {
            reading = (seen, record { value = x.0; is_value = x.1; tag = e; more = tag_words_some t; same = λ n l. absurd (omega arith) });
            owing = o;
            met = met;
          };
        }

-- a word that was loaded

words_more : (f : ℕ → ℕ) (ws : List ℕ) (w : ℕ) → ((k : ℕ) → k < length ws → get_or ws k 0 ≡ f k) → w ≡ f (length ws) → (k : ℕ) → k < length (ws ++ w ∷ []) → get_or (ws ++ w ∷ []) k 0 ≡ f k
words_more f [] w h e zero l = e
words_more f [] w h e (suc k) l = absurd (omega arith)
words_more f (x ∷ ws) w h e zero l = h 0 (omega arith)
words_more f (x ∷ ws) w h e (suc k) l = words_more (λ n. f (suc n)) ws w (λ n m. h (suc n) (omega arith)) e k (omega arith)

value_keeps : (j : Job) (v : View) (s : State) (i r t : ℕ) (ws : List ℕ) (w : ℕ) → IsEvaluation j.pending s.known (i ∷ cells_of s.stack) → AreOwed j v s.stack → IsMet v s.known (cells_of s.stack) → SawDoneWith j v i r → WordsRead j i t ws → w ≡ value_of (shows j.pending i) (length ws) → IsShown (shows j.pending i) → IsRightState j v (after_value s i r t (ws ++ w ∷ []))
value_keeps j v s i r t ws w m o met seen read e fits = go (ltb (length (ws ++ w ∷ [])) (tag_words t)) refl
  where
    all : (n : ℕ) → n < length (ws ++ w ∷ []) → get_or (ws ++ w ∷ []) n 0 ≡ value_of (shows j.pending i) n
    all = words_more (value_of (shows j.pending i)) ws w read.same e

    no_cycle : (n : ℕ) → shows j.pending i ≡ Shown.Cycle n → ⊥
    no_cycle n z = (let q = read.is_value in cc)

    go : (b : Bool) → ltb (length (ws ++ w ∷ [])) (tag_words t) ≡ b → IsRightState j v (cond b (record s { phase = ReadingValue i r t (ws ++ w ∷ []) }) (after_record s i (shown_read t (filled (ws ++ w ∷ [])))))
    go true p = record {
      evaluation = m;
      tied = record {
        reading = (seen, record { value = read.value; is_value = read.is_value; tag = read.tag; more = ltb-true (length (ws ++ w ∷ [])) (tag_words t) p; same = all });
        owing = o;
        met = met;
      };
    }
    go false p =
        let size = length_push ws w in
        let last = ltb-false (length (ws ++ w ∷ [])) (tag_words t) p in
        let more = read.more in
        let full : length (ws ++ w ∷ []) ≡ tag_words t = omega arith in
        let count : length (ws ++ w ∷ []) ≡ record_words (shows j.pending i) = full ∙ ap tag_words read.tag ∙ words_by_tag (shows j.pending i) in
        let told : shown_read t (filled (ws ++ w ∷ [])) ≡ Some (shows j.pending i) = ap (λ z. shown_read z (filled (ws ++ w ∷ []))) read.tag ∙ words_tell (shows j.pending i) (ws ++ w ∷ []) fits count all in
        subst (λ x. IsRightState j v (after_record s i x)) (sym told) (learnt_keeps j v s i r (shows j.pending i) m o met seen.0 refl no_cycle)

-- a publish shows its cell done, won or lost
publish_done : (v : View) (i r : ℕ) (a : Publish) → SawDone (grown (Event.Publish i r a) v) i
publish_done v i r Publish.Won = (r, seen_done_now (Event.Publish i r Publish.Won) (held_by (Event.Publish i r Publish.Won) v.held) v i r (refl, refl))
publish_done v i r (Publish.Lost p c x) = (x, seen_done_now (Event.Publish i r (Publish.Lost p c x)) (held_by (Event.Publish i r (Publish.Lost p c x)) v.held) v i x (refl, refl))

-- and takes the top off
taken_evaluates : (j : Job) (v : View) (s : State) (i c : ℕ) (r : Shown) → TopIsOwed s i c r → IsRightState j v s → IsEvaluation j.pending s.known (open_cells s.phase (cells_of (pop s.stack)))
taken_evaluates j v s i c r o h =
    let all : IsEvaluation j.pending s.known (cells_of (o.entry ∷ o.rest)) = subst (λ fs. IsEvaluation j.pending s.known (cells_of fs)) o.on_top (in_phase j v s Free o.is_free h) in
    subst (λ p. IsEvaluation j.pending s.known (open_cells p (cells_of (pop s.stack)))) (sym o.is_free) (subst (λ fs. IsEvaluation j.pending s.known (cells_of (pop fs))) (sym o.on_top) (tail_evaluates j.pending s.known o.entry.cell (cells_of o.rest) all))

module _ (j : Job) (v : View) (s : State) (job : IsJob j) (of : IsViewOf j v) (h : IsRightState j v s) where
  owing_of : (e : Event) → AreOwed j (grown e v) s.stack
  owing_of e = owing_more j v e s.stack h.tied.owing

  met_of : (e : Event) → IsMet (grown e v) s.known (cells_of s.stack)
  met_of e = met_more v e s.known (cells_of s.stack) h.tied.met

  claiming : (i : ℕ) → s.phase ≡ Claiming i → IsEvaluation j.pending s.known (i ∷ cells_of s.stack)
  claiming i p = in_phase j v s (Claiming i) p h

  same_tied : (e : Event) → IsTied j (grown e v) s
  same_tied e = record { reading = reading_more j v e s.phase h.tied.reading; owing = owing_of e; met = met_of e }

  won_keeps : (i : ℕ) → s.phase ≡ Claiming i → IsRightState j (grown (Event.Claim i Claim.Won) v) (push_cell i (Some j.worker) s)
  won_keeps i p =
      let e = Event.Claim i Claim.Won in
      let seen : Seen (grown e v) i (CellWord.Claimed j.worker) = subst (λ n. Seen (grown e v) i (CellWord.Claimed n)) (number_same j v of) (seen_now e (held_by e v.held) v i (CellWord.Claimed (me v)) (refl, refl)) in
      record { evaluation = claiming i p; tied = record { reading = tt; owing = ((seen, job.worker), owing_of e); met = met_pushed (grown e v) s.known i (cells_of s.stack) (met_of e) } }

  after_keeps : (c : ℕ) (e : Event) → WhyStep j s (action_of c e) → IsTold v s e → IsRightState j (grown e v) (after j s e)
  after_keeps c (Event.Look i w) why told =
      let e = Event.Look i w in
      word_keeps j (grown e v) s i w (may_look j v s i job h why) (owing_of e) (met_of e) (seen_now e (held_by e v.held) v i w (refl, refl)) (λ r d. seen_done_now e (held_by e v.held) v i r (refl, d)) (word_in j v of w told)
  after_keeps c (Event.Claim i Claim.Won) why told = won_keeps i why
  after_keeps c (Event.Claim i (Claim.Found w)) why told =
      let e = Event.Claim i (Claim.Found w) in
      word_keeps j (grown e v) s i w (claiming i why) (owing_of e) (met_of e) (seen_now e (held_by e v.held) v i w (refl, refl)) (λ r d. seen_done_now e (held_by e v.held) v i r (refl, d)) (word_in j v of w (answer_in v w told))
  after_keeps c (Event.TakeRecord r) why told = (let k = same_tied (Event.TakeRecord r) in record { evaluation = h.evaluation; tied = record { reading = k.reading; owing = k.owing; met = k.met } })
  after_keeps c (Event.StoreValue r k w) why told = (let k = same_tied (Event.StoreValue r k w) in record { evaluation = h.evaluation; tied = record { reading = k.reading; owing = k.owing; met = k.met } })
  after_keeps c (Event.StoreTag r w) why told = (let k = same_tied (Event.StoreTag r w) in record { evaluation = h.evaluation; tied = record { reading = k.reading; owing = k.owing; met = k.met } })
  after_keeps c (Event.Publish i r a) why told =
      let e = Event.Publish i r a in
      let o = why.2 in
      let k = same_tied e in
      let done : SawDone (grown e v) o.entry.cell = subst (SawDone (grown e v)) (sym o.cell) (publish_done v i r a) in
      record {
        evaluation = taken_evaluates j v s i c why.1 o h;
        tied = record { reading = k.reading; owing = owed_popped j (grown e v) s.stack k.owing; met = subst (λ fs. IsMet (grown e v) s.known (cells_of (pop fs))) (sym o.on_top) (met_popped (grown e v) s.known o.entry.cell (cells_of o.rest) done (subst (λ fs. IsMet (grown e v) s.known (cells_of fs)) o.on_top k.met)) };
      }
  after_keeps c (Event.LoadTag r t) why told =
      let e = Event.LoadTag r t in
      let i = why.0 in
      let reads : SawDoneWith j v i r = reads_in j v s (ReadingTag i r) why.1 h in
      let tag : t ≡ tag_of (shows j.pending i) = (told i reads.0).0 ∙ ap tag_of (shown_same j v of i) in
      subst (λ p. IsRightState j (grown e v) (after_load_tag s t p)) (sym why.1)
      (tag_keeps j (grown e v) s i r t (in_phase j v s (ReadingTag i r) why.1 h) (owing_of e) (met_of e) (done_more j v e i r reads) tag)
  after_keeps c (Event.LoadValue r k w) why told =
      let e = Event.LoadValue r k w in
      let i = why.0 in
      let t = why.1 in
      let ws = why.2 in
      let reads : SawDoneWith j v i r × WordsRead j i t ws = reads_in j v s (ReadingValue i r t ws) why.3 h in
      let read = reads.1 in
      let more = read.more in
      let count : tag_words t ≡ record_words (shows j.pending i) = ap tag_words read.tag ∙ words_by_tag (shows j.pending i) in
      let at = why.4 in
      let low : k < record_words (shows j.pending i) = omega arith in
      let all : k < record_words (shows j.pending i) → (w ≡ value_of (shows j.pending i) k) × IsShown (shows j.pending i) = subst (λ z. k < record_words z → (w ≡ value_of z k) × IsShown z) (shown_same j v of i) (told i reads.0.0) in
      let one = all low in
      subst (λ p. IsRightState j (grown e v) (after_load_value s w p)) (sym why.3)
      (value_keeps j (grown e v) s i r t ws w (in_phase j v s (ReadingValue i r t ws) why.3 h) (owing_of e) (met_of e) (done_more j v e i r reads.0) read (one.0 ∙ ap (value_of (shows j.pending i)) at) one.1)

  -- one step, found in the settled state
  pub step_right : (e : Event) → IsStep j v s e → IsRightState j (grown e v) (after j s e)
  step_right e st = after_keeps (claimer_in st.act) e (why_event j v s e h.evaluation.knows.sized st) st.told

-- the start
pub start_right : (j : Job) (v : View) → IsRightState j v (start j)
start_right j v = record { evaluation = start_evaluates j.pending; tied = record { reading = tt; owing = tt; met = λ i r e. absurd (none_known (length j.pending.cells) i r e) } }
