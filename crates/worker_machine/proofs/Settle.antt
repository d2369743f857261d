-- The changes before a step end, and what each of them keeps is kept.
use Rattle.std.proofs.Common.{◌≡◌, ℕ, zero, suc, ◌<◌, ◌≤◌, Bool, true, false, cond, List, [], ◌∷◌, length, get_or, set, eqb, refl, sym, ap, ◌∙◌, subst, Some, None, arith}
use Rattle.std.proofs.lemmas.List.{length-set}
use Rattle.cell_values.specs.declared.values.Shown.{Shown}
use Rattle.worker_machine.specs.declared.action.Change.{Change}
use Rattle.worker_machine.specs.declared.action.Next.{Next}
use Rattle.worker_machine.specs.declared.state.Entry.{Entry}
use Rattle.worker_machine.specs.declared.action.Next.TheVariants.{Alter, Do, Rest}
use Rattle.worker_machine.specs.declared.action.Change.TheVariants.{Take, Learn, Close}
use Rattle.worker_machine.proofs.Numbers.{KnownList, length-marks}
use Rattle.worker_machine.proofs.Why.{Top, Marked, other, known, nothing, why_is}
use Rattle.worker_machine.specs.Invariant.{EntriesBelow, Within}
use Rattle.worker_machine.specs.Jobs.{Job}
use Rattle.worker_machine.specs.Evaluation.{cells_of, learn_top, mark_all, mark_cycle, part_to, pop}
use Rattle.worker_machine.specs.Machine.{after_change, changes_left, next, settle, settle_by, settle_for, unknown_in}
use Rattle.worker_machine.specs.Runs.{IsSettled}
use Rattle.worker_machine.specs.States.{State, known_at}

pub length-learn_top : (fs : List Entry) (r : Shown) (k : KnownList) → length (learn_top fs r k) ≡ length k
length-learn_top [] r k = refl
length-learn_top (f ∷ rest) r k = length-set k f.cell (Some r)

pub length-after_change : (s : State) (c : Change) → length (after_change s c).known ≡ length s.known
length-after_change s Take = refl
length-after_change s (Learn r) = length-learn_top s.stack r s.known
length-after_change s (Close i) = length-marks (length (part_to i (cells_of s.stack))) (part_to i (cells_of s.stack)) s.known

-- fewer are unknown

unknown_set : (k : KnownList) (i : ℕ) (r : Shown) → unknown_in (set k i (Some r)) ≤ unknown_in k
unknown_set [] i r = omega arith
unknown_set (None ∷ k) zero r = omega arith
unknown_set (Some q ∷ k) zero r = omega arith
unknown_set (None ∷ k) (suc i) r = omega (arith, unknown_set k i r)
unknown_set (Some q ∷ k) (suc i) r = unknown_set k i r

unknown_less : (k : KnownList) (i : ℕ) (r : Shown) → i < length k → get_or k i None ≡ None → unknown_in (set k i (Some r)) < unknown_in k
unknown_less [] i r l e = absurd (omega arith)
unknown_less (None ∷ k) zero r l e = omega arith
unknown_less (Some q ∷ k) zero r l e = cc
unknown_less (None ∷ k) (suc i) r l e = omega (arith, unknown_less k i r (omega arith) e)
unknown_less (Some q ∷ k) (suc i) r l e = unknown_less k i r (omega arith) e

unknown_marks : (n : ℕ) (xs : List ℕ) (k : KnownList) → unknown_in (mark_all n xs k) ≤ unknown_in k
unknown_marks n [] k = omega arith
unknown_marks n (i ∷ xs) k = omega (arith, unknown_marks n xs (set k i (Some (Shown.Cycle n))), unknown_set k i (Shown.Cycle n))

pop_below : (n : ℕ) (fs : List Entry) → EntriesBelow n fs → EntriesBelow n (pop fs)
pop_below n [] h = tt
pop_below n (f ∷ rest) h = h.1

pub change_within : (s : State) (c : Change) → Within s → Within (after_change s c)
change_within s Take h = pop_below (length s.known) s.stack h
change_within s (Learn r) h = subst (λ n. EntriesBelow n s.stack) (sym (length-after_change s (Learn r))) h
change_within s (Close i) h = subst (λ n. EntriesBelow n s.stack) (sym (length-after_change s (Close i))) h

pub learn_less : (s : State) (t : Top s) (r : Shown) → known_at s t.entry.cell ≡ None → Within s → unknown_in (learn_top s.stack r s.known) < unknown_in s.known
learn_less s t r e w =
    let below : EntriesBelow (length s.known) (t.entry ∷ t.rest) = subst (EntriesBelow (length s.known)) t.on_top w in
    subst (λ fs. unknown_in (learn_top fs r s.known) < unknown_in s.known) (sym t.on_top) (unknown_less s.known t.entry.cell r below.0 e)

pub close_less : (s : State) (t : Top s) (i : ℕ) → known_at s t.entry.cell ≡ None → Within s → unknown_in (mark_cycle (part_to i (cells_of s.stack)) s.known) < unknown_in s.known
close_less s t i e w =
    let below : EntriesBelow (length s.known) (t.entry ∷ t.rest) = subst (EntriesBelow (length s.known)) t.on_top w in
    subst (λ fs. unknown_in (mark_cycle (part_to i (cells_of fs)) s.known) < unknown_in s.known) (sym t.on_top) (go below.0 (eqb t.entry.cell i))
  where
    go : t.entry.cell < length s.known → (b : Bool) → unknown_in (mark_cycle (cond b (t.entry.cell ∷ []) (t.entry.cell ∷ part_to i (cells_of t.rest))) s.known) < unknown_in s.known
    go l true = unknown_less s.known t.entry.cell (Shown.Cycle 1) l e
    go l false =
        let part = part_to i (cells_of t.rest) in
        let n = suc (length part) in
        omega (arith, unknown_less s.known t.entry.cell (Shown.Cycle n) l e, unknown_marks n part (set s.known t.entry.cell (Some (Shown.Cycle n))))

marked_less : (j : Job) (s : State) (r : Shown) → Marked j s → Within s → unknown_in (learn_top s.stack r s.known) < unknown_in s.known
marked_less j s r (other x g p) w = learn_less s g.top r g.unknown w
marked_less j s r (known x g i p q e) w = learn_less s g.top r g.unknown w
marked_less j s r (nothing g) w = learn_less s g.top r g.unknown w

drop_less : (s : State) (t : Top s) → length (pop s.stack) < length s.stack
drop_less s t = subst (λ fs. length (pop fs) < length fs) (sym t.on_top) (omega arith)

pub change_less : (j : Job) (s : State) (c : Change) → next j s ≡ Alter c → Within s → changes_left (after_change s c) < changes_left s
change_less j s Take e w = (let k = why_is j s (Alter Take) e in omega (arith, drop_less s k.0.top))
change_less j s (Learn (Shown.Val v)) e w = (let g = why_is j s (Alter (Learn (Shown.Val v))) e in omega (arith, learn_less s g.top (Shown.Val v) g.unknown w))
change_less j s (Learn Shown.ToCycle) e w = (let g = why_is j s (Alter (Learn Shown.ToCycle)) e in omega (arith, marked_less j s Shown.ToCycle g w))
change_less j s (Learn (Shown.Cycle n)) e w = absurd (why_is j s (Alter (Learn (Shown.Cycle n))) e)
change_less j s (Close i) e w = (let g = why_is j s (Alter (Close i)) e in omega (arith, close_less s g.0.asked.top i g.0.asked.unknown w))

-- settling

module _ (j : Job) where
  stays : (again : State → State) (s : State) (n : Next) → ((c : Change) → n ≡ Alter c → ⊥) → settle_by again s n ≡ s
  stays again s (Alter c) h = absurd (h c refl)
  stays again s (Do a) h = refl
  stays again s Rest h = refl

  ended_by : (n : ℕ) (s : State) → ((t : State) → Within t → changes_left t ≤ n → IsSettled j (settle_for j n t)) → Within s → changes_left s ≤ suc n → (x : Next) → next j s ≡ x → IsSettled j (settle_by (settle_for j n) s x)
  ended_by n s ih w l (Alter c) e = ih (after_change s c) (change_within s c w) (omega (arith, change_less j s c e w))
  ended_by n s ih w l (Do a) e = λ c d. cc
  ended_by n s ih w l Rest e = λ c d. cc

  ended_for : (n : ℕ) (s : State) → Within s → changes_left s ≤ n → IsSettled j (settle_for j n s)
  ended_for zero s w l = λ c e. absurd (omega (arith, change_less j s c e w))
  ended_for (suc n) s w l = ended_by n s (λ t v m. ended_for n t v m) w l (next j s) refl

  same_by : (n m : ℕ) (s : State) → ((t : State) → Within t → changes_left t ≤ n → changes_left t ≤ m → settle_for j n t ≡ settle_for j m t) → Within s → changes_left s ≤ suc n → changes_left s ≤ suc m → (x : Next) → next j s ≡ x → settle_by (settle_for j n) s x ≡ settle_by (settle_for j m) s x
  same_by n m s ih w l k (Alter c) e = (let d = change_less j s c e w in ih (after_change s c) (change_within s c w) (omega arith) (omega arith))
  same_by n m s ih w l k (Do a) e = refl
  same_by n m s ih w l k Rest e = refl

  none_left : (n : ℕ) (s : State) → Within s → changes_left s ≤ 0 → settle_for j n s ≡ s
  none_left zero s w l = refl
  none_left (suc n) s w l = stays (settle_for j n) s (next j s) (λ c e. absurd (omega (arith, change_less j s c e w)))

  same_for : (n m : ℕ) (s : State) → Within s → changes_left s ≤ n → changes_left s ≤ m → settle_for j n s ≡ settle_for j m s
  same_for zero m s w l k = sym (none_left m s w l)
  same_for (suc n) zero s w l k = none_left (suc n) s w k
  same_for (suc n) (suc m) s w l k = same_by n m s (λ t v a b. same_for n m t v a b) w l k (next j s) refl

pub settle_ends : (j : Job) (s : State) → Within s → IsSettled j (settle j s)
unfolding settle
settle_ends j s w = ended_for j (changes_left s) s w (omega arith)

-- one round of the loop
pub settle_step : (j : Job) (s : State) (c : Change) → Within s → next j s ≡ Alter c → settle j (after_change s c) ≡ settle j s
unfolding settle
settle_step j s c w e =
    let d = change_less j s c e w in
    let one : settle_for j (suc (changes_left s)) s ≡ settle_for j (changes_left s) (after_change s c) = ap (settle_by (settle_for j (changes_left s)) s) e in
    same_for j (changes_left (after_change s c)) (changes_left s) (after_change s c) (change_within s c w) (omega arith) (omega arith) ∙ sym one ∙ same_for j (suc (changes_left s)) (changes_left s) s w (omega arith) (omega arith)

pub settle_stays : (j : Job) (s : State) → IsSettled j s → settle j s ≡ s
unfolding settle
settle_stays j s h = go (changes_left s)
  where
    go : (n : ℕ) → settle_for j n s ≡ s
    go zero = refl
    go (suc n) = stays j (settle_for j n) s (next j s) h

pub settle_keeps : (j : Job) (P : State → Type 0) → ((s : State) (c : Change) → next j s ≡ Alter c → P s → P (after_change s c)) → (s : State) → P s → P (settle j s)
unfolding settle
settle_keeps j P keeps s p = go (changes_left s) s p
  where
    by_next : (n : ℕ) (t : State) → ((u : State) → P u → P (settle_for j n u)) → P t → (x : Next) → next j t ≡ x → P (settle_by (settle_for j n) t x)
    by_next n t ih q (Alter c) e = ih (after_change t c) (keeps t c e q)
    by_next n t ih q (Do a) e = q
    by_next n t ih q Rest e = q

    go : (n : ℕ) (t : State) → P t → P (settle_for j n t)
    go zero t q = q
    go (suc n) t q = by_next n t (λ u r. go n u r) q (next j t) refl
