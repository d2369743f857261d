-- What stands in the held record, and that each step is one that the round allows.
use Rattle.std.proofs.Common.{◌≡◌, ℕ, suc, ◌<◌, ◌≢◌, Bool, true, false, cond, eqb, ltb, ◌⊎◌, inl, inr, ⊎_elim, List, [], ◌∷◌, ◌++◌, length, map, refl, sym, ap, ◌∙◌, subst, Option, Some, None, IfSome, arith, eqb-true, eq-eqb}
use Rattle.std.proofs.lemmas.Bool.{ltb-true, ltb-false, cases_eq}
use Rattle.cell_values.specs.declared.values.Shown.{Shown}
use Rattle.cell_words.specs.declared.cell_word.CellWord.{CellWord}
use Rattle.cell_words.specs.Records.{IsShown, record_words, tag_words, tag_of, value_of, filled, shown_read}
use Rattle.cell_words.proofs.Counts.{record_words_small, tag_words_small}
use Rattle.claim_core.specs.declared.event.Claim.{Claim}
use Rattle.claim_core.specs.declared.event.Publish.{Publish}
use Rattle.claim_core.specs.declared.event.Event.{Event}
use Rattle.claim_core.specs.declared.view.Held.{Held}
use Rattle.claim_core.specs.declared.view.View.{View}
use Rattle.claim_core.specs.HeldRecords.{held_tag, held_value}
use Rattle.claim_core.specs.Steps.{fresh, valued, tagged, rec_of, grown}
use Rattle.worker_machine.specs.declared.action.Action.{Action}
use Rattle.worker_machine.specs.declared.action.Change.{Change}
use Rattle.worker_machine.specs.declared.action.Change.TheVariants.{Take, Learn, Close}
use Rattle.worker_machine.specs.declared.action.Next.TheVariants.{Alter}
use Rattle.worker_machine.specs.declared.state.Entry.{Entry}
use Rattle.worker_machine.specs.declared.state.Store.{Store}
use Rattle.worker_machine.specs.Jobs.{Job, shows}
use Rattle.worker_machine.specs.States.{State, Phase, Free, Claiming, ReadingTag, ReadingValue, known_at, top_result, held_number}
use Rattle.worker_machine.specs.Machine.{after_change, next, after, after_word, after_load_tag, after_record, after_value, after_load_value, learn_cell, push_cell, store_after, with_word, with_tag}
use Rattle.worker_machine.specs.RoundSteps.{IsAllowed, action_of, claimer_in, IsTold, IsStep}
use Rattle.worker_machine.specs.Invariant.{AreOwed, IsOwed, IsRightState, TopIsOwed, HoldsPart, IsUnwritten, HoldsRecord, HoldsNoted, HoldsAsNoted}
use Rattle.worker_machine.proofs.Places.{number_some}
use Rattle.worker_machine.proofs.Numbers.{known_below}
use Rattle.worker_machine.proofs.Stepping.{in_phase, reads_in, LookWhy, demanded, first, WhyStep, why_event}
use Rattle.worker_machine.proofs.Why.{Top, Marked, Storing, other, known, nothing, why_is}

-- a top cell that is owed is neither unknown nor owing nothing

not_unknown : (s : State) (i c : ℕ) (r : Shown) → TopIsOwed s i c r → (t : Top s) → known_at s t.entry.cell ≡ None → ⊥
not_unknown s i c r o t u =
    let same : t.entry ≡ o.entry = (let a = t.on_top in let b = o.on_top in cc) in
    let k : known_at s t.entry.cell ≡ Some r = subst (λ (f : Entry). known_at s f.cell ≡ Some r) (sym same) (subst (λ n. known_at s n ≡ Some r) (sym o.cell) o.is_known) in
    cc

not_done : (s : State) (i c : ℕ) (r : Shown) → TopIsOwed s i c r → (t : Top s) → t.entry.owed ≡ None → ⊥
not_done s i c r o t u =
    let same : t.entry ≡ o.entry = (let a = t.on_top in let b = o.on_top in cc) in
    let k : t.entry.owed ≡ Some c = ap (λ (f : Entry). f.owed) same ∙ o.owed in
    cc

not_marked : (j : Job) (s : State) (i c : ℕ) (r : Shown) → TopIsOwed s i c r → Marked j s → ⊥
not_marked j s i c r o (other x g p) = not_unknown s i c r o g.top g.unknown
not_marked j s i c r o (known x g n p q e) = not_unknown s i c r o g.top g.unknown
not_marked j s i c r o (nothing g) = not_unknown s i c r o g.top g.unknown

-- so nothing changes there before a step
no_change : (j : Job) (s : State) (i c : ℕ) (r : Shown) → TopIsOwed s i c r → (d : Change) → next j s ≡ Alter d → ⊥
no_change j s i c r o Take e = (let w = why_is j s (Alter Take) e in not_done s i c r o w.0.top w.1)
no_change j s i c r o (Learn (Shown.Val v)) e = (let g = why_is j s (Alter (Learn (Shown.Val v))) e in not_unknown s i c r o g.top g.unknown)
no_change j s i c r o (Learn Shown.ToCycle) e = not_marked j s i c r o (why_is j s (Alter (Learn Shown.ToCycle)) e)
no_change j s i c r o (Learn (Shown.Cycle n)) e = absurd (why_is j s (Alter (Learn (Shown.Cycle n))) e)
no_change j s i c r o (Close k) e = (let w = why_is j s (Alter (Close k)) e in not_unknown s i c r o w.0.asked.top w.0.asked.unknown)

-- and no cell is looked at
not_looked : (j : Job) (s : State) (i c n : ℕ) (r : Shown) → TopIsOwed s i c r → LookWhy j s n → ⊥
not_looked j s i c n r o (demanded k off) = not_unknown s i c r o k.asked.top k.asked.unknown
not_looked j s i c n r o (first p q l u) = (let b = o.on_top in cc)

-- nothing is stored yet where the top cell is not one that is owed
fresh_held : (v : View) (s t : State) (h : Option Store) → ((i c : ℕ) (r : Shown) → TopIsOwed s i c r → ⊥) → HoldsNoted v s h → HoldsNoted v t h
fresh_held v s t None n w = w
fresh_held v s t (Some h) n w = record { holds = w.holds; is_held = w.is_held; rec = w.rec; stored = ⊎_elim (λ (f : IsUnwritten h). inl f) (λ (p : HoldsPart s h w.holds). absurd (n p.cell p.claimer p.result p.owed)) w.stored }

pub change_writes : (j : Job) (v : View) (s : State) (c : Change) → next j s ≡ Alter c → HoldsAsNoted v s → HoldsAsNoted v (after_change s c)
change_writes j v s Take e w = fresh_held v s (after_change s Take) s.held (λ i n r o. no_change j s i n r o Take e) w
change_writes j v s (Learn r) e w = fresh_held v s (after_change s (Learn r)) s.held (λ i n q o. no_change j s i n q o (Learn r) e) w
change_writes j v s (Close k) e w = fresh_held v s (after_change s (Close k)) s.held (λ i n r o. no_change j s i n r o (Close k) e) w

-- the same top cell is known by one result
same_result : (s : State) (i c n d : ℕ) (r q : Shown) → TopIsOwed s i c r → TopIsOwed s n d q → q ≡ r
same_result s i c n d r q o p =
    let same : p.entry ≡ o.entry = (let a = p.on_top in let b = o.on_top in cc) in
    let k : known_at s n ≡ known_at s i = ap (known_at s) (sym p.cell ∙ ap (λ (f : Entry). f.cell) same ∙ o.cell) in
    let a = p.is_known in
    let b = o.is_known in
    cc

-- what is stored so far of the result
record SoFar (h : Store) (x : Held) (r : Shown) : Type 0 where
  words : (k : ℕ) → k < h.stored → held_value k x ≡ Some (value_of r k)
  tag : h.tagged ≡ true → (x.tag ≡ Some (tag_of r)) × IsShown r

so_far : (s : State) (i c : ℕ) (r : Shown) (h : Store) (x : Held) → TopIsOwed s i c r → IsUnwritten h ⊎ HoldsPart s h x → SoFar h x r
so_far s i c r h x o (inl f) = record { words = λ k l. absurd (omega (arith, f.0)); tag = λ e. let d = f.1 in cc }
so_far s i c r h x o (inr p) =
    let same : p.result ≡ r = same_result s i c p.cell p.claimer r p.result o p.owed in
    subst (λ q. SoFar h x q) same (record { words = p.words; tag = p.tag })

keeps_owed : (s : State) (h : Option Store) (i c : ℕ) (r : Shown) → TopIsOwed s i c r → TopIsOwed (record s { held = h }) i c r
keeps_owed s h i c r o = record { entry = o.entry; rest = o.rest; is_free = o.is_free; on_top = o.on_top; cell = o.cell; is_known = o.is_known; owed = o.owed }

word_stored : (v : View) (s : State) (h : Store) (r : Shown) (n k w : ℕ) → Storing s h r → k ≡ h.stored → w ≡ value_of r k → HoldsRecord v s h → HoldsRecord (grown (Event.StoreValue n k w) v) (record s { held = with_word (Some h) }) (record h { stored = suc h.stored })
word_stored v s h r n k w st at e x =
    let f = so_far s st.cell st.claimer r h x.holds st.owed x.stored in
    record {
      holds = valued k w x.holds;
      is_held = ap (map (valued k w)) x.is_held;
      rec = x.rec;
      stored = inr (record {
        cell = st.cell;
        claimer = st.claimer;
        result = r;
        owed = keeps_owed s (with_word (Some h)) st.cell st.claimer r st.owed;
        words = λ i l. go f i l (eqb k i) refl;
        tag = f.tag;
      });
    }
  where
    go : SoFar h x.holds r → (i : ℕ) → i < suc h.stored → (b : Bool) → eqb k i ≡ b → cond b (Some w) (held_value i x.holds) ≡ Some (value_of r i)
    go f i l true q = (let same = eqb-true k i q in ap Some (e ∙ ap (value_of r) same))
    go f i l false q = f.words i (not_last (λ z. let d = eq-eqb k i (sym z) in cc))
      where
        not_last : (i ≡ k → ⊥) → i < h.stored
        not_last ne = ⊎_elim (λ (z : i ≡ h.stored). absurd (ne (z ∙ sym at))) (λ (z : i ≢ h.stored). omega arith) (cases_eq i h.stored)

tag_stored : (v : View) (s : State) (h : Store) (r : Shown) (n w : ℕ) → Storing s h r → w ≡ tag_of r → IsShown r → HoldsRecord v s h → HoldsRecord (grown (Event.StoreTag n w) v) (record s { held = with_tag (Some h) }) (record h { tagged = true })
tag_stored v s h r n w st e fits x =
    let f = so_far s st.cell st.claimer r h x.holds st.owed x.stored in
    record {
      holds = tagged w x.holds;
      is_held = ap (map (tagged w)) x.is_held;
      rec = x.rec;
      stored = inr (record {
        cell = st.cell;
        claimer = st.claimer;
        result = r;
        owed = keeps_owed s (with_tag (Some h)) st.cell st.claimer r st.owed;
        words = f.words;
        tag = λ q. (ap Some e, fits);
      });
    }

-- the result of the top cell is one of the program
top_fits : (s : State) (i c : ℕ) (r : Shown) → TopIsOwed s i c r → IfSome (top_result s.known s.stack) IsShown → IsShown r
top_fits s i c r o told = subst (λ q. IfSome q IsShown) (ap (top_result s.known) o.on_top ∙ ap (known_at s) o.cell ∙ o.is_known) told

lost_or_won : (v : View) (s : State) (fs : List Entry) (i n : ℕ) (a : Publish) (h : Store) → n ≡ h.rec → HoldsRecord v s h → HoldsNoted (grown (Event.Publish i n a) v) (record s { stack = fs; held = store_after a n }) (store_after a n)
lost_or_won v s fs i n Publish.Won h e x = refl
lost_or_won v s fs i n (Publish.Lost p d k) h e x = record { holds = x.holds; is_held = x.is_held; rec = x.rec ∙ sym e; stored = inl (refl, refl) }

by_phase : (s : State) (p : Phase) (i c : ℕ) (r : Shown) → s.phase ≡ p → (p ≡ Free → ⊥) → TopIsOwed s i c r → ⊥
by_phase s p i c r e n o = n (sym e ∙ o.is_free)

after_load : (v : View) (s : State) (t : ℕ) (p : Phase) → s.phase ≡ p → (p ≡ Free → ⊥) → HoldsAsNoted v s → HoldsAsNoted v (after_load_tag s t p)
after_load v s t Free e n w = absurd (n refl)
after_load v s t (Claiming i) e n w = w
after_load v s t (ReadingValue i r q ws) e n w = w
after_load v s t (ReadingTag i r) e n w = go (eqb t 7) (eqb t 6)
  where
    go : (x y : Bool) → HoldsAsNoted v (cond x (learn_cell i Shown.ToCycle s) (cond y (push_cell i None s) (record s { phase = ReadingValue i r t [] })))
    go true y = fresh_held v s (learn_cell i Shown.ToCycle s) s.held (λ k c q o. by_phase s (ReadingTag i r) k c q e n o) w
    go false true = fresh_held v s (push_cell i None s) s.held (λ k c q o. by_phase s (ReadingTag i r) k c q e n o) w
    go false false = fresh_held v s (record s { phase = ReadingValue i r t [] }) s.held (λ k c q o. by_phase s (ReadingTag i r) k c q e n o) w

after_word_writes : (v : View) (s : State) (i : ℕ) (w : CellWord) → ((k c : ℕ) (q : Shown) → TopIsOwed s k c q → ⊥) → HoldsAsNoted v s → HoldsAsNoted v (after_word s i w)
after_word_writes v s i CellWord.Stale n h = fresh_held v s (after_word s i CellWord.Stale) s.held n h
after_word_writes v s i (CellWord.Claimed c) n h = fresh_held v s (after_word s i (CellWord.Claimed c)) s.held n h
after_word_writes v s i (CellWord.Done p c r) n h = fresh_held v s (after_word s i (CellWord.Done p c r)) s.held n h

-- an event that writes nothing
over : (v later : View) (s : State) (h : Option Store) → later.held ≡ v.held → HoldsNoted v s h → HoldsNoted later s h
over v later s None e w = e ∙ w
over v later s (Some h) e w = record { holds = w.holds; is_held = e ∙ w.is_held; rec = w.rec; stored = w.stored }

after_value_writes : (v : View) (s : State) (i r t : ℕ) (ws : List ℕ) → ((k c : ℕ) (q : Shown) → TopIsOwed s k c q → ⊥) → HoldsAsNoted v s → HoldsAsNoted v (after_value s i r t ws)
after_value_writes v s i r t ws n w = go (ltb (length ws) (tag_words t)) (shown_read t (filled ws))
  where
    go : (b : Bool) (o : Option Shown) → HoldsAsNoted v (cond b (record s { phase = ReadingValue i r t ws }) (after_record s i o))
    go true o = fresh_held v s (record s { phase = ReadingValue i r t ws }) s.held n w
    go false (Some q) = fresh_held v s (learn_cell i q s) s.held n w
    go false None = fresh_held v s (push_cell i None s) s.held n w

after_writes : (j : Job) (v : View) (s : State) (x : ℕ) (e : Event) → WhyStep j s (action_of x e) → IsTold v s e → HoldsAsNoted v s → HoldsAsNoted (grown e v) (after j s e)
after_writes j v s x (Event.Look i w) why told h = (let t = after_word s i w in over v (grown (Event.Look i w) v) t t.held refl (after_word_writes v s i w (λ k c q o. not_looked j s k c i q o why) h))
after_writes j v s x (Event.Claim i Claim.Won) why told h = (let t = push_cell i (Some j.worker) s in over v (grown (Event.Claim i Claim.Won) v) t s.held refl (fresh_held v s t s.held (λ k c q o. by_phase s (Claiming i) k c q why (λ z. cc) o) h))
after_writes j v s x (Event.Claim i (Claim.Found w)) why told h = (let t = after_word s i w in over v (grown (Event.Claim i (Claim.Found w)) v) t t.held refl (after_word_writes v s i w (λ k c q o. by_phase s (Claiming i) k c q why (λ z. cc) o) h))
after_writes j v s x (Event.TakeRecord r) why told h = record { holds = fresh r; is_held = refl; rec = refl; stored = inl (refl, refl) }
after_writes j v s x (Event.StoreValue n k w) why told h =
    subst (λ z. HoldsNoted (grown (Event.StoreValue n k w) v) (record s { held = with_word z }) (with_word z)) (sym why.2.held)
    (word_stored v s why.0 why.1 n k w why.2 why.4 why.5 (subst (λ z. HoldsNoted v s z) why.2.held h))
after_writes j v s x (Event.StoreTag n w) why told h =
    subst (λ z. HoldsNoted (grown (Event.StoreTag n w) v) (record s { held = with_tag z }) (with_tag z)) (sym why.2.held)
    (tag_stored v s why.0 why.1 n w why.2 why.4 (top_fits s why.2.cell why.2.claimer why.1 why.2.owed told) (subst (λ z. HoldsNoted v s z) why.2.held h))
after_writes j v s x (Event.Publish i n a) why told h = lost_or_won v s (after j s (Event.Publish i n a)).stack i n a why.0 why.4 (subst (λ z. HoldsNoted v s z) why.3 h)
after_writes j v s x (Event.LoadTag r t) why told h =
    let u = after_load_tag s t s.phase in
    over v (grown (Event.LoadTag r t) v) u u.held refl (after_load v s t s.phase refl (λ e. let d = sym why.1 ∙ e in cc) h)
after_writes j v s x (Event.LoadValue r k w) why told h =
    let u = after_load_value s w s.phase in
    over v (grown (Event.LoadValue r k w) v) u u.held refl
    (subst (λ p. HoldsAsNoted v (after_load_value s w p)) (sym why.3) (after_value_writes v s why.0 r why.1 (why.2 ++ w ∷ []) (λ n c q o. by_phase s (ReadingValue why.0 r why.1 why.2) n c q why.3 (λ z. cc) o) h))

pub step_writes : (j : Job) (v : View) (s : State) (e : Event) → length s.known ≡ length j.pending.cells → HoldsAsNoted v s → IsStep j v s e → HoldsAsNoted (grown e v) (after j s e)
step_writes j v s e z w st = after_writes j v s (claimer_in st.act) e (why_event j v s e z st) st.told w

-- what the round asks of each step

owing_top : (j : Job) (v : View) (s : State) (i c : ℕ) (r : Shown) → IsRightState j v s → TopIsOwed s i c r → IsOwed j v i (Some c)
owing_top j v s i c r h o =
    let all : AreOwed j v (o.entry ∷ o.rest) = subst (AreOwed j v) o.on_top h.tied.owing in
    let top : IsOwed j v o.entry.cell (Some c) = subst (IsOwed j v o.entry.cell) o.owed all.0 in
    subst (λ n. IsOwed j v n (Some c)) o.cell top

-- the words of one record that is held
abbrev SpeltIn : Shown → List Held → Type 0
SpeltIn r held =
    IsShown r
    × (map held_tag held ≡ map (λ _. Some (tag_of r)) held)
    × ((k : ℕ) → k < record_words r → map (held_value k) held ≡ map (λ _. Some (value_of r k)) held)

spelt_one : (r : Shown) (x : Held) → IsShown r → x.tag ≡ Some (tag_of r) → ((k : ℕ) → k < record_words r → held_value k x ≡ Some (value_of r k)) → SpeltIn r (x ∷ [])
spelt_one r x fits tag words = (fits, ap (λ o. o ∷ []) tag, λ k l. ap (λ o. o ∷ []) (words k l))

-- the number of the record that is held, as the view has it
rec_held : (v : View) (s : State) (h : Store) → HoldsRecord v s h → rec_of v.held ≡ h.rec
rec_held v s h d = ap rec_of d.is_held ∙ d.rec

pub step_allowed : (j : Job) (v : View) (s : State) (a : Action) → IsRightState j v s → HoldsAsNoted v s → WhyStep j s a → IsAllowed j v (held_number s.held) a
step_allowed j v s (Action.Look i) h w (demanded n off) = (number_some j.pending n.cell i n.is_number).0
step_allowed j v s (Action.Look i) h w (first p q l u) = l
step_allowed j v s (Action.Claim i) h w why = (let o = in_phase j v s (Claiming i) why h in o.below.0)
step_allowed j v s Action.TakeRecord h w why = (ap held_number why.4, subst (λ z. HoldsNoted v s z) why.4 w)
step_allowed j v s (Action.StoreValue n k x) h w why =
    let d : HoldsRecord v s why.0 = subst (λ z. HoldsNoted v s z) why.2.held w in
    let l = ltb-true why.0.stored (record_words why.1) why.6 in
    let m = record_words_small why.1 in
    let e = why.4 in
    (ap held_number why.2.held ∙ ap Some (sym why.3), rec_held v s why.0 d ∙ sym why.3, omega arith)
step_allowed j v s (Action.StoreTag n x) h w why =
    let d : HoldsRecord v s why.0 = subst (λ z. HoldsNoted v s z) why.2.held w in
    (ap held_number why.2.held ∙ ap Some (sym why.3), rec_held v s why.0 d ∙ sym why.3)
step_allowed j v s (Action.Publish i n c) h w why =
    let d : HoldsRecord v s why.0 = subst (λ z. HoldsNoted v s z) why.3 w in
    let f = so_far s i c why.1 why.0 d.holds why.2 d.stored in
    let l = ltb-false why.0.stored (record_words why.1) why.5 in
    let right : why.1 ≡ shows j.pending i = h.evaluation.knows.right i why.1 why.2.is_known in
    let low = known_below s.known i why.1 why.2.is_known in
    let size = h.evaluation.knows.sized in
    let owed = owing_top j v s i c why.1 h why.2 in
    let tag = f.tag why.6 in
    let spelt : SpeltIn why.1 (d.holds ∷ []) = spelt_one why.1 d.holds tag.1 tag.0 (λ k m. f.words k (omega arith)) in (
      ap held_number why.3 ∙ ap Some (sym why.4),
      rec_held v s why.0 d ∙ sym why.4,
      omega arith,
      owed.1,
      owed.0,
      subst (λ r. SpeltIn r v.held) right (subst (SpeltIn why.1) (sym d.is_held) spelt),
    )
step_allowed j v s (Action.LoadTag r) h w why = (let o = reads_in j v s (ReadingTag why.0 r) why.1 h in o.1)
step_allowed j v s (Action.LoadValue r k) h w why =
    let o = reads_in j v s (ReadingValue why.0 r why.1 why.2) why.3 h in
    let more = o.1.more in
    let few = tag_words_small why.1 in
    let e = why.4 in
    (o.0.1, omega arith)
