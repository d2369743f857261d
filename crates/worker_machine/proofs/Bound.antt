-- A worker makes few steps, whatever the others do.
use Rattle.std.proofs.Common.{◌≡◌, ℕ, zero, suc, ◌+◌, ◌*◌, ◌<◌, ◌≤◌, ◌≢◌, Bool, true, false, cond, ◌||◌, ⊎_elim, List, [], ◌∷◌, ◌++◌, length, get_or, set, eqb, ltb, is_some, refl, sym, ap, subst, Option, Some, None, arith, eqb-true, eq-eqb}
use Rattle.std.proofs.Math.Nat.{mul-le-mul_left}
use Rattle.std.proofs.lemmas.Bool.{ltb-true, or_cases, or_left, or_right, cases_eq}
use Rattle.std.proofs.lemmas.List.{get_or-set_same, length_push}
use Rattle.cell_values.specs.declared.values.Shown.{Shown}
use Rattle.cell_words.specs.declared.TheConstants.{WORDS}
use Rattle.cell_words.specs.declared.cell_word.CellWord.{CellWord}
use Rattle.cell_words.specs.Records.{record_words, tag_words, filled, shown_read}
use Rattle.cell_words.proofs.Counts.{tag_words_small, record_words_small, few_words, one_word_at_least}
use Rattle.claim_core.specs.declared.event.Claim.{Claim}
use Rattle.claim_core.specs.declared.event.Publish.{Publish}
use Rattle.claim_core.specs.declared.event.Event.{Event}
use Rattle.claim_core.specs.declared.view.View.{View}
use Rattle.claim_core.specs.Rule.{AnswerInRound}
use Rattle.claim_core.specs.Steps.{me, made, grown}
use Rattle.worker_machine.specs.declared.action.Change.{Change}
use Rattle.worker_machine.specs.declared.action.Change.TheVariants.{Take, Learn, Close}
use Rattle.worker_machine.specs.declared.action.Next.TheVariants.{Alter}
use Rattle.worker_machine.specs.declared.state.Entry.{Entry}
use Rattle.worker_machine.specs.declared.state.Store.{Store}
use Rattle.worker_machine.specs.Jobs.{Job}
use Rattle.worker_machine.specs.Evaluation.{cells_of, has, learn_top, mark_all, mark_cycle, part_to, pop}
use Rattle.worker_machine.specs.States.{State, Phase, Free, Claiming, ReadingTag, ReadingValue, start, known_at}
use Rattle.worker_machine.specs.Machine.{after_change, next, settle, after_word, after_claim, after_tag, after_load_tag, after_record, after_value, after_load_value, after, push_cell, learn_cell, fresh_store, store_after, with_word, with_tag}
use Rattle.worker_machine.specs.RoundSteps.{IsFreshView, action_of, claimer_in, IsTold, IsStep}
use Rattle.worker_machine.specs.Invariant.{TopIsOwed, IsBounded}
use Rattle.worker_machine.specs.Left.{in_phase, met_in, one_less, fresh_cells, owed_one, owed_in, phase_left, tag_left, held_left, left_of, left}
use Rattle.worker_machine.proofs.Places.{number_some}
use Rattle.worker_machine.proofs.Numbers.{KnownList}
use Rattle.worker_machine.proofs.Settle.{settle_keeps}
use Rattle.worker_machine.proofs.Stepping.{LookWhy, demanded, first, WhyStep, why_event}
use Rattle.worker_machine.proofs.Why.{Top, why_is}

one_less_le : (p q : Bool) (n m : ℕ) → (p ≡ true → q ≡ true) → m ≤ n → one_less q m ≤ one_less p n
one_less_le true true n m h l = l
one_less_le true false n m h l = (let x = h refl in cc)
one_less_le false true n m h l = omega arith
one_less_le false false n m h l = omega arith

pub fresh_le : (f g : ℕ → Bool) (n : ℕ) → ((i : ℕ) → i < n → f i ≡ true → g i ≡ true) → fresh_cells g n ≤ fresh_cells f n
fresh_le f g zero h = omega arith
fresh_le f g (suc n) h = one_less_le (f n) (g n) (fresh_cells f n) (fresh_cells g n) (h n (omega arith)) (fresh_le f g n (λ i l. h i (omega arith)))

one_less_lt : (p q : Bool) (n m : ℕ) → (p ≡ true → q ≡ true) → m < n → one_less q m < one_less p n
one_less_lt true true n m h l = l
one_less_lt true false n m h l = (let x = h refl in cc)
one_less_lt false true n m h l = omega arith
one_less_lt false false n m h l = omega arith

pub fresh_lt : (f g : ℕ → Bool) (n i : ℕ) → i < n → ((k : ℕ) → k < n → f k ≡ true → g k ≡ true) → f i ≡ false → g i ≡ true → fresh_cells g n < fresh_cells f n
fresh_lt f g zero i l h e d = absurd (omega arith)
fresh_lt f g (suc n) i l h e d = ⊎_elim
    (λ (s : i ≡ n). here s)
    (λ (ne : i ≢ n). one_less_lt (f n) (g n) (fresh_cells f n) (fresh_cells g n) (h n (omega arith)) (fresh_lt f g n i (omega arith) (λ k m. h k (omega arith)) e d))
    (cases_eq i n)
  where
    here : i ≡ n → fresh_cells g (suc n) < fresh_cells f (suc n)
    here s =
        let fn : f n ≡ false = subst (λ z. f z ≡ false) s e in
        let gn : g n ≡ true = subst (λ z. g z ≡ true) s d in
        let le = fresh_le f g n (λ k m. h k (omega arith)) in
        rw (fn, gn) (omega arith)

fresh_all : (f : ℕ → Bool) (n : ℕ) → fresh_cells f n ≤ n
fresh_all f zero = omega arith
fresh_all f (suc n) = go (f n) (fresh_all f n)
  where
    go : (b : Bool) → fresh_cells f n ≤ n → one_less b (fresh_cells f n) ≤ suc n
    go true l = omega arith
    go false l = omega arith

-- where a cell stays met

abbrev pub StaysMet : ℕ → KnownList → List Entry → Phase → KnownList → List Entry → Phase → Type 0
StaysMet m k fs p k' fs' p' = (i : ℕ) → i < m → met_in k fs p i ≡ true → met_in k' fs' p' i ≡ true

abbrev pub is_known : KnownList → ℕ → Type 0
is_known k i = is_some (get_or k i None) ≡ true

met_known : (k : KnownList) (fs : List Entry) (p : Phase) (i : ℕ) → is_known k i → met_in k fs p i ≡ true
met_known k fs p i h = or_left (is_some (get_or k i None)) (has i (cells_of fs) || in_phase i p) h

met_stack : (k : KnownList) (fs : List Entry) (p : Phase) (i : ℕ) → has i (cells_of fs) ≡ true → met_in k fs p i ≡ true
met_stack k fs p i h = or_right (is_some (get_or k i None)) (has i (cells_of fs) || in_phase i p) (or_left (has i (cells_of fs)) (in_phase i p) h)

met_phase : (k : KnownList) (fs : List Entry) (p : Phase) (i : ℕ) → in_phase i p ≡ true → met_in k fs p i ≡ true
met_phase k fs p i h = or_right (is_some (get_or k i None)) (has i (cells_of fs) || in_phase i p) (or_right (has i (cells_of fs)) (in_phase i p) h)

stays : (m : ℕ) (k : KnownList) (fs : List Entry) (p : Phase) (k' : KnownList) (fs' : List Entry) (p' : Phase)
    → ((i : ℕ) → i < m → is_known k i → met_in k' fs' p' i ≡ true)
    → ((i : ℕ) → i < m → has i (cells_of fs) ≡ true → met_in k' fs' p' i ≡ true)
    → ((i : ℕ) → i < m → in_phase i p ≡ true → met_in k' fs' p' i ≡ true)
    → StaysMet m k fs p k' fs' p'
stays m k fs p k' fs' p' a b c i l h = ⊎_elim (λ (x : is_known k i). a i l x)
    (λ (y : (has i (cells_of fs) || in_phase i p) ≡ true). ⊎_elim (λ (x : has i (cells_of fs) ≡ true). b i l x) (λ (x : in_phase i p ≡ true). c i l x) (or_cases (has i (cells_of fs)) (in_phase i p) y))
    (or_cases (is_some (get_or k i None)) (has i (cells_of fs) || in_phase i p) h)

known_stays : (k : KnownList) (i n : ℕ) (r : Shown) → is_known k n → is_known (set k i (Some r)) n
known_stays [] i n r h = h
known_stays (o ∷ k) zero zero r h = refl
known_stays (o ∷ k) zero (suc n) r h = h
known_stays (o ∷ k) (suc i) zero r h = h
known_stays (o ∷ k) (suc i) (suc n) r h = known_stays k i n r h

known_set : (k : KnownList) (i : ℕ) (r : Shown) → i < length k → is_known (set k i (Some r)) i
known_set k i r l = ap is_some (get_or-set_same k i (Some r) None l)

pub marks_stay : (m : ℕ) (xs : List ℕ) (k : KnownList) (n : ℕ) → is_known k n → is_known (mark_all m xs k) n
marks_stay m [] k n h = h
marks_stay m (i ∷ xs) k n h = marks_stay m xs (set k i (Some (Shown.Cycle m))) n (known_stays k i n (Shown.Cycle m) h)

pub learns_stay : (fs : List Entry) (r : Shown) (k : KnownList) (n : ℕ) → is_known k n → is_known (learn_top fs r k) n
learns_stay [] r k n h = h
learns_stay (f ∷ rest) r k n h = known_stays k f.cell n r h

-- a stack whose top is known, without it
pub stays_popped : (m : ℕ) (k : KnownList) (f : Entry) (rest : List Entry) (p : Phase) (r : Shown) → get_or k f.cell None ≡ Some r → StaysMet m k (f ∷ rest) p k rest p
stays_popped m k f rest p r e = stays m k (f ∷ rest) p k rest p
    (λ i l h. met_known k rest p i h)
    (λ i l h. ⊎_elim (λ (x : eqb f.cell i ≡ true). met_known k rest p i (subst (λ z. is_known k z) (eqb-true f.cell i x) (ap is_some e))) (λ (x : has i (cells_of rest) ≡ true). met_stack k rest p i x) (or_cases (eqb f.cell i) (has i (cells_of rest)) h))
    (λ i l h. met_phase k rest p i h)

-- more are known, and the rest is as it was
pub stays_known : (m : ℕ) (k k' : KnownList) (fs : List Entry) (p : Phase) → ((i : ℕ) → is_known k i → is_known k' i) → StaysMet m k fs p k' fs p
stays_known m k k' fs p h = stays m k fs p k' fs p (λ i l x. met_known k' fs p i (h i x)) (λ i l x. met_stack k' fs p i x) (λ i l x. met_phase k' fs p i x)

-- the cell that was looked at is on the stack now
pub stays_pushed : (m : ℕ) (k : KnownList) (fs : List Entry) (p : Phase) (i : ℕ) (o : Option ℕ) → ((n : ℕ) → in_phase n p ≡ true → eqb i n ≡ true) → StaysMet m k fs p k (record { cell = i; owed = o } ∷ fs) Free
stays_pushed m k fs p i o h = stays m k fs p k (record { cell = i; owed = o } ∷ fs) Free
    (λ n l x. met_known k (record { cell = i; owed = o } ∷ fs) Free n x)
    (λ n l x. met_stack k (record { cell = i; owed = o } ∷ fs) Free n (or_right (eqb i n) (has n (cells_of fs)) x))
    (λ n l x. met_stack k (record { cell = i; owed = o } ∷ fs) Free n (or_left (eqb i n) (has n (cells_of fs)) (h n x)))

-- or it is known now
stays_learnt : (m : ℕ) (k : KnownList) (fs : List Entry) (p : Phase) (i : ℕ) (r : Shown) → m ≡ length k → ((n : ℕ) → in_phase n p ≡ true → eqb i n ≡ true) → StaysMet m k fs p (set k i (Some r)) fs Free
stays_learnt m k fs p i r e h = stays m k fs p (set k i (Some r)) fs Free
    (λ n l x. met_known (set k i (Some r)) fs Free n (known_stays k i n r x))
    (λ n l x. met_stack (set k i (Some r)) fs Free n x)
    (λ n l x. let same = eqb-true i n (h n x) in met_known (set k i (Some r)) fs Free n (subst (λ z. is_known (set k i (Some r)) z) same (known_set k i r (omega arith))))

-- another phase about the same cell
stays_phase : (m : ℕ) (k : KnownList) (fs : List Entry) (p q : Phase) → ((n : ℕ) → in_phase n p ≡ true → in_phase n q ≡ true) → StaysMet m k fs p k fs q
stays_phase m k fs p q h = stays m k fs p k fs q (λ n l x. met_known k fs q n x) (λ n l x. met_stack k fs q n x) (λ n l x. met_phase k fs q n (h n x))

-- less is left

less : (m : ℕ) (k : KnownList) (fs : List Entry) (p : Phase) (h : Option Store) (k' : KnownList) (fs' : List Entry) (p' : Phase) (h' : Option Store)
    → StaysMet m k fs p k' fs' p'
    → (3 + WORDS) * owed_in fs' + (phase_left p' + held_left h') < (3 + WORDS) * owed_in fs + (phase_left p + held_left h)
    → left_of m k' fs' p' h' < left_of m k fs p h
less m k fs p h k' fs' p' h' s l =
    let f = mul-le-mul_left (5 + WORDS) (fresh_le (met_in k fs p) (met_in k' fs' p') m s) in
    omega arith

no_more : (m : ℕ) (k : KnownList) (fs : List Entry) (p : Phase) (h : Option Store) (k' : KnownList) (fs' : List Entry) (p' : Phase) (h' : Option Store)
    → StaysMet m k fs p k' fs' p'
    → (3 + WORDS) * owed_in fs' + (phase_left p' + held_left h') ≤ (3 + WORDS) * owed_in fs + (phase_left p + held_left h)
    → left_of m k' fs' p' h' ≤ left_of m k fs p h
no_more m k fs p h k' fs' p' h' s l =
    let f = mul-le-mul_left (5 + WORDS) (fresh_le (met_in k fs p) (met_in k' fs' p') m s) in
    omega arith

-- a new cell pays for all that it can bring
new_cell : (m : ℕ) (k : KnownList) (fs : List Entry) (h : Option Store) (fs' : List Entry) (p' : Phase) (i : ℕ)
    → i < m → met_in k fs Free i ≡ false → met_in k fs' p' i ≡ true
    → StaysMet m k fs Free k fs' p'
    → (3 + WORDS) * owed_in fs' + phase_left p' ≤ (3 + WORDS) * owed_in fs + (4 + WORDS)
    → left_of m k fs' p' h < left_of m k fs Free h
new_cell m k fs h fs' p' i l e d s c =
    let f = mul-le-mul_left (5 + WORDS) (fresh_lt (met_in k fs Free) (met_in k fs' p') m i l s e d) in
    let g : (5 + WORDS) * suc (fresh_cells (met_in k fs' p') m) ≤ (5 + WORDS) * fresh_cells (met_in k fs Free) m = f in
    omega arith

-- changes

top_form : (s : State) (t : Top s) (m : ℕ) → left m s ≡ left_of m s.known (t.entry ∷ t.rest) Free s.held
top_form s t m = (λ i. left_of m s.known (t.on_top i) (t.is_free i) s.held)

change_left : (j : Job) (m : ℕ) (s : State) (c : Change) → next j s ≡ Alter c → left m (after_change s c) ≤ left m s
change_left j m s Take e =
    let w = why_is j s (Alter Take) e in
    let t = w.0.top in
    let new : left m (after_change s Take) ≡ left_of m s.known t.rest Free s.held = (λ i. left_of m s.known (pop (t.on_top i)) (t.is_free i) s.held) in
    let owes : owed_in (t.entry ∷ t.rest) ≡ owed_in t.rest = ap (λ o. owed_one o (owed_in t.rest)) w.1 in
    let le = no_more m s.known (t.entry ∷ t.rest) Free s.held s.known t.rest Free s.held (stays_popped m s.known t.entry t.rest Free w.0.result w.0.is_known) (rw owes (omega arith)) in
    rw (new, top_form s t m) le
change_left j m s (Learn r) e = no_more m s.known s.stack s.phase s.held (learn_top s.stack r s.known) s.stack s.phase s.held (stays_known m s.known (learn_top s.stack r s.known) s.stack s.phase (learns_stay s.stack r s.known)) (omega arith)
change_left j m s (Close i) e = no_more m s.known s.stack s.phase s.held (mark_cycle (part_to i (cells_of s.stack)) s.known) s.stack s.phase s.held (stays_known m s.known (mark_cycle (part_to i (cells_of s.stack)) s.known) s.stack s.phase (marks_stay (length (part_to i (cells_of s.stack))) (part_to i (cells_of s.stack)) s.known)) (omega arith)

pub settle_left : (j : Job) (m : ℕ) (s : State) → left m (settle j s) ≤ left m s
settle_left j m s = settle_keeps j (λ t. left m t ≤ left m s) (λ t c e l. let d = change_left j m t c e in omega arith) s (omega arith)

-- steps

-- a cell that is looked at was not met
look_free : (j : Job) (s : State) (i : ℕ) → LookWhy j s i → s.phase ≡ Free
look_free j s i (demanded n off) = n.asked.top.is_free
look_free j s i (first p q l u) = p

look_new : (j : Job) (s : State) (i : ℕ) → LookWhy j s i → (i < length j.pending.cells) × (met_in s.known s.stack Free i ≡ false)
look_new j s i (demanded n off) = ((number_some j.pending n.cell i n.is_number).0, rw (n.lacking, off) refl)
look_new j s i (first p q l u) = (l, rw (u, q) refl)

eqb_self : (i : ℕ) → eqb i i ≡ true
eqb_self i = eq-eqb i i refl

look_left : (j : Job) (s : State) (i : ℕ) (w : CellWord) → LookWhy j s i → left (length j.pending.cells) (after_word s i w) < left_of (length j.pending.cells) s.known s.stack Free s.held
look_left j s i CellWord.Stale h =
    let n = look_new j s i h in
    new_cell (length j.pending.cells) s.known s.stack s.held s.stack (Claiming i) i n.0 n.1 (met_phase s.known s.stack (Claiming i) i (eqb_self i)) (stays_phase (length j.pending.cells) s.known s.stack Free (Claiming i) (λ k e. cc)) (omega arith)
look_left j s i (CellWord.Claimed c) h =
    let n = look_new j s i h in
    let fs : List Entry = record { cell = i; owed = Some c } ∷ s.stack in
    new_cell (length j.pending.cells) s.known s.stack s.held fs Free i n.0 n.1 (met_stack s.known fs Free i (or_left (eqb i i) (has i (cells_of s.stack)) (eqb_self i))) (stays_pushed (length j.pending.cells) s.known s.stack Free i (Some c) (λ k e. cc)) (omega arith)
look_left j s i (CellWord.Done p c r) h =
    let n = look_new j s i h in
    new_cell (length j.pending.cells) s.known s.stack s.held s.stack (ReadingTag i r) i n.0 n.1 (met_phase s.known s.stack (ReadingTag i r) i (eqb_self i)) (stays_phase (length j.pending.cells) s.known s.stack Free (ReadingTag i r) (λ k e. cc)) (omega arith)

push_left : (m : ℕ) (s : State) (i c : ℕ) → left m (push_cell i (Some c) s) < left_of m s.known s.stack (Claiming i) s.held
push_left m s i c = less m s.known s.stack (Claiming i) s.held s.known (record { cell = i; owed = Some c } ∷ s.stack) Free s.held (stays_pushed m s.known s.stack (Claiming i) i (Some c) (λ n x. x)) (omega arith)

found_left : (m : ℕ) (v : View) (s : State) (i : ℕ) (w : CellWord) → AnswerInRound v (Claim.Found w) → left m (after_word s i w) < left_of m s.known s.stack (Claiming i) s.held
found_left m v s i CellWord.Stale h = absurd h
found_left m v s i (CellWord.Claimed c) h = push_left m s i c
found_left m v s i (CellWord.Done p c r) h = less m s.known s.stack (Claiming i) s.held s.known s.stack (ReadingTag i r) s.held (stays_phase m s.known s.stack (Claiming i) (ReadingTag i r) (λ n x. x)) (omega arith)

claim_left : (j : Job) (m : ℕ) (v : View) (s : State) (i : ℕ) (a : Claim) → AnswerInRound v a → left m (after_claim j s i a) < left_of m s.known s.stack (Claiming i) s.held
claim_left j m v s i Claim.Won told = push_left m s i j.worker
claim_left j m v s i (Claim.Found w) told = found_left m v s i w told

same_met : (m : ℕ) (k : KnownList) (fs : List Entry) (p : Phase) → StaysMet m k fs p k fs p
same_met m k fs p i l h = h

take_left : (m : ℕ) (s : State) (r : ℕ) → left_of m s.known s.stack s.phase (Some (fresh_store r)) < left_of m s.known s.stack s.phase None
take_left m s r = less m s.known s.stack s.phase None s.known s.stack s.phase (Some (fresh_store r)) (same_met m s.known s.stack s.phase) (omega arith)

store_left : (m : ℕ) (s : State) (h : Store) (r : Shown) → ltb h.stored (record_words r) ≡ true → left_of m s.known s.stack s.phase (with_word (Some h)) < left_of m s.known s.stack s.phase (Some h)
store_left m s h r e =
    let l = ltb-true h.stored (record_words r) e in
    let w = record_words_small r in
    less m s.known s.stack s.phase (Some h) s.known s.stack s.phase (with_word (Some h)) (same_met m s.known s.stack s.phase) (omega arith)

store_tag_left : (m : ℕ) (s : State) (h : Store) → h.tagged ≡ false → left_of m s.known s.stack s.phase (with_tag (Some h)) < left_of m s.known s.stack s.phase (Some h)
store_tag_left m s h e =
    let t : tag_left h.tagged ≡ 1 = ap tag_left e in
    less m s.known s.stack s.phase (Some h) s.known s.stack s.phase (with_tag (Some h)) (same_met m s.known s.stack s.phase) (omega arith)

held_within : (a : Publish) (r : ℕ) → held_left (store_after a r) ≤ 2 + WORDS
held_within Publish.Won r = omega arith
held_within (Publish.Lost p c k) r = omega arith

publish_left : (m : ℕ) (s : State) (i n c : ℕ) (a : Publish) (r : Shown) → (o : TopIsOwed s i c r) → left_of m s.known (pop (o.entry ∷ o.rest)) Free (store_after a n) < left_of m s.known (o.entry ∷ o.rest) Free s.held
publish_left m s i n c a r o =
    let owes : owed_in (o.entry ∷ o.rest) ≡ suc (owed_in o.rest) = ap (λ z. owed_one z (owed_in o.rest)) o.owed in
    let w = held_within a n in
    less m s.known (o.entry ∷ o.rest) Free s.held s.known o.rest Free (store_after a n)
    (stays_popped m s.known o.entry o.rest Free r (subst (λ z. known_at s z ≡ Some r) (sym o.cell) o.is_known))
    (rw owes (omega arith))

tag_left_of : (m : ℕ) (s : State) (i r t : ℕ) → m ≡ length s.known → left m (after_tag s i r t) < left_of m s.known s.stack (ReadingTag i r) s.held
tag_left_of m s i r t e = go (eqb t 7) (eqb t 6)
  where
    go : (x y : Bool) → left m (cond x (learn_cell i Shown.ToCycle s) (cond y (push_cell i None s) (record s { phase = ReadingValue i r t [] }))) < left_of m s.known s.stack (ReadingTag i r) s.held
    go true y = less m s.known s.stack (ReadingTag i r) s.held (set s.known i (Some Shown.ToCycle)) s.stack Free s.held (stays_learnt m s.known s.stack (ReadingTag i r) i Shown.ToCycle e (λ n x. x)) (omega arith)
    go false true = less m s.known s.stack (ReadingTag i r) s.held s.known (record { cell = i; owed = None } ∷ s.stack) Free s.held (stays_pushed m s.known s.stack (ReadingTag i r) i None (λ n x. x)) (omega arith)
    go false false =
        let w = tag_words_small t in
        let o = one_word_at_least in
        less m s.known s.stack (ReadingTag i r) s.held s.known s.stack (ReadingValue i r t []) s.held (stays_phase m s.known s.stack (ReadingTag i r) (ReadingValue i r t []) (λ n x. x)) (omega arith)

value_left_of : (m : ℕ) (s : State) (i r t : ℕ) (ws : List ℕ) (w : ℕ) → m ≡ length s.known → left m (after_value s i r t (ws ++ w ∷ [])) < left_of m s.known s.stack (ReadingValue i r t ws) s.held
value_left_of m s i r t ws w e = go (ltb (length (ws ++ w ∷ [])) (tag_words t)) refl (shown_read t (filled (ws ++ w ∷ [])))
  where
    go : (b : Bool) → ltb (length (ws ++ w ∷ [])) (tag_words t) ≡ b → (o : Option Shown) → left m (cond b (record s { phase = ReadingValue i r t (ws ++ w ∷ []) }) (after_record s i o)) < left_of m s.known s.stack (ReadingValue i r t ws) s.held
    go true p o =
        let l = ltb-true (length (ws ++ w ∷ [])) (tag_words t) p in
        let z = length_push ws w in
        less m s.known s.stack (ReadingValue i r t ws) s.held s.known s.stack (ReadingValue i r t (ws ++ w ∷ [])) s.held (stays_phase m s.known s.stack (ReadingValue i r t ws) (ReadingValue i r t (ws ++ w ∷ [])) (λ n x. x)) (omega arith)
    go false p (Some q) = less m s.known s.stack (ReadingValue i r t ws) s.held (set s.known i (Some q)) s.stack Free s.held (stays_learnt m s.known s.stack (ReadingValue i r t ws) i q e (λ n x. x)) (omega arith)
    go false p None = less m s.known s.stack (ReadingValue i r t ws) s.held s.known (record { cell = i; owed = None } ∷ s.stack) Free s.held (stays_pushed m s.known s.stack (ReadingValue i r t ws) i None (λ n x. x)) (omega arith)

after_left : (j : Job) (v : View) (s : State) (x : ℕ) (e : Event) → length j.pending.cells ≡ length s.known → WhyStep j s (action_of x e) → IsTold v s e → left (length j.pending.cells) (after j s e) < left (length j.pending.cells) s
after_left j v s x (Event.Look i w) z why told = subst (λ p. left (length j.pending.cells) (after_word s i w) < left_of (length j.pending.cells) s.known s.stack p s.held) (sym (look_free j s i why)) (look_left j s i w why)
after_left j v s x (Event.Claim i a) z why told = subst (λ p. left (length j.pending.cells) (after_claim j s i a) < left_of (length j.pending.cells) s.known s.stack p s.held) (sym why) (claim_left j (length j.pending.cells) v s i a told)
after_left j v s x (Event.TakeRecord r) z why told = subst (λ h. left_of (length j.pending.cells) s.known s.stack s.phase (Some (fresh_store r)) < left_of (length j.pending.cells) s.known s.stack s.phase h) (sym why.4) (take_left (length j.pending.cells) s r)
after_left j v s x (Event.StoreValue r k w) z why told = subst (λ h. left_of (length j.pending.cells) s.known s.stack s.phase (with_word h) < left_of (length j.pending.cells) s.known s.stack s.phase h) (sym why.2.held) (store_left (length j.pending.cells) s why.0 why.1 why.6)
after_left j v s x (Event.StoreTag r w) z why told = subst (λ h. left_of (length j.pending.cells) s.known s.stack s.phase (with_tag h) < left_of (length j.pending.cells) s.known s.stack s.phase h) (sym why.2.held) (store_tag_left (length j.pending.cells) s why.0 why.6)
after_left j v s x (Event.Publish i r a) z why told =
    let o = why.2 in
    let new : left (length j.pending.cells) (after j s (Event.Publish i r a)) ≡ left_of (length j.pending.cells) s.known (pop (o.entry ∷ o.rest)) Free (store_after a r) = (λ z. left_of (length j.pending.cells) s.known (pop (o.on_top z)) (o.is_free z) (store_after a r)) in
    let old : left (length j.pending.cells) s ≡ left_of (length j.pending.cells) s.known (o.entry ∷ o.rest) Free s.held = (λ z. left_of (length j.pending.cells) s.known (o.on_top z) (o.is_free z) s.held) in
    let lt = publish_left (length j.pending.cells) s i r x a why.1 o in
    omega (arith, new, old, lt)
after_left j v s x (Event.LoadTag r t) z why told = subst (λ p. left (length j.pending.cells) (after_load_tag s t p) < left_of (length j.pending.cells) s.known s.stack p s.held) (sym why.1) (tag_left_of (length j.pending.cells) s why.0 r t z)
after_left j v s x (Event.LoadValue r k w) z why told = subst (λ p. left (length j.pending.cells) (after_load_value s w p) < left_of (length j.pending.cells) s.known s.stack p s.held) (sym why.3) (value_left_of (length j.pending.cells) s why.0 r why.1 why.2 w z)

pub step_left : (j : Job) (v : View) (s : State) (e : Event) → length s.known ≡ length j.pending.cells → IsStep j v s e → left (length j.pending.cells) (after j s e) < left (length j.pending.cells) s
step_left j v s e z st = after_left j v s (claimer_in st.act) e (sym z) (why_event j v s e z st) st.told

-- the steps that were made and those that can come

pub settle_bounded : (j : Job) (v : View) (s : State) (c : Change) → next j s ≡ Alter c → IsBounded j v s → IsBounded j v (after_change s c)
settle_bounded j v s c e h = (let d = change_left j (length j.pending.cells) s c e in omega arith)

pub step_bounded : (j : Job) (v : View) (s : State) (e : Event) → length s.known ≡ length j.pending.cells → IsStep j v s e → IsBounded j v s → IsBounded j (grown e v) (after j s e)
step_bounded j v s e z st h =
    let one = step_left j v s e z st in
    let size = length_push v.events (made (me v) e) in
    omega arith

pub start_bounded : (j : Job) (v : View) → IsFreshView j v → IsBounded j v (start j)
start_bounded j v h =
    let f = mul-le-mul_left (5 + WORDS) (fresh_all (met_in (start j).known [] Free) (length j.pending.cells)) in
    let none : length v.events ≡ 0 = ap length h.no_events in
    omega arith

pub few_events : (j : Job) (v : View) (s : State) → IsBounded j v s → length v.events ≤ 16 * length j.pending.cells + 16
few_events j v s h =
    let w = few_words in
    let c : (5 + WORDS) * length j.pending.cells ≤ 16 * length j.pending.cells = mul_le (5 + WORDS) 16 (length j.pending.cells) (omega arith) in
    omega arith
  where
    mul_le : (a b c : ℕ) → a ≤ b → a * c ≤ b * c
    mul_le a b c h = (let m = mul-le-mul_left c h in omega (arith, m))
