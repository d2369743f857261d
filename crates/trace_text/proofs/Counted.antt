-- Counts of events, with one event more and with one less.
use Rattle.std.proofs.Common.{◌≡◌, ℕ, ◌+◌, ◌-◌, ◌<◌, ◌≤◌, List, ◌∷◌, nat_eq, take, length, drop, get_or, set, sym, ap, ◌∙◌, arith, add-zero}
use Rattle.std.proofs.lemmas.Grind.{common_steps}
use Rattle.std.proofs.lemmas.List.{get_or-drop}
use Rattle.std.proofs.lemmas.List.Sums.{count_by_more_yes, count_by_more_no, count_by-le-length}
use Rattle.parallel_evaluation.specs.declared.trace.Traced.{Traced}
use Rattle.trace_text.specs.Counting.{AreCounted}

-- one event more
pub counted_more : (counts : List ℕ) (events : List Traced) (i : ℕ) (d : Traced) (n : ℕ) → i < length events → n ≡ get_or counts (get_or events i d).worker n → AreCounted counts (take i events) →
    AreCounted (set counts (get_or events i d).worker (n + 1)) (take (i + 1) events)
counted_more counts events i d n below e m = record {
  all = grind (arith, common_steps, m.all);
  each = λ v low. grind (arith, common_steps, count_by_more_yes, count_by_more_no, m.each v low, m.all);
}

-- what is counted is no more than there are
pub counted_few : (counts : List ℕ) (events : List Traced) (i w n : ℕ) → w < 256 → n ≡ get_or counts w n → AreCounted counts (take i events) → n ≤ i
counted_few counts events i w n small e m = grind (arith, common_steps, m.all, m.each w small, count_by-le-length (λ (t : Traced). nat_eq t.worker w) (take i events))

-- one event less
pub counted_less : (counts : List ℕ) (t : Traced) (later : List Traced) → AreCounted counts (t ∷ later) → AreCounted (set counts t.worker (get_or counts t.worker 0 - 1)) later
counted_less counts t later m = record {
  all = grind (arith, common_steps, m.all);
  each = λ v low. grind (arith, common_steps, m.each v low, m.all);
}

-- the event at a place is the first one from there on
pub at_front : (events : List Traced) (i : ℕ) (d t : Traced) (later : List Traced) → drop i events ≡ t ∷ later → get_or events i d ≡ t
at_front events i d t later e = sym (rw add-zero at (get_or-drop i events 0 d)) ∙ ap (λ (xs : List Traced). get_or xs 0 d) e

-- the same where the event is the first of those from a place on
pub counted_less_at : (counts : List ℕ) (events : List Traced) (i : ℕ) (d t : Traced) (later : List Traced) → drop i events ≡ t ∷ later → AreCounted counts (drop i events) →
    AreCounted (set counts (get_or events i d).worker (get_or counts (get_or events i d).worker 0 - 1)) later
counted_less_at counts events i d t later e m =
    let here : get_or events i d ≡ t = at_front events i d t later e in
    rw here (counted_less counts t later (rw e at m))
