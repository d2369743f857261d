-- What a `take` did, from what each of its steps did.
use Rattle.std.proofs.Common.{◌≡◌, ℕ, zero, suc, ◌+◌, ◌<◌, ◌⊎◌, inl, inr, ⊎_elim, true, All, List, [], ◌∷◌, ◌++◌, map, length, get_or, set, take, drop, Option, None, Some, MatchOption, sym, refl, ap, ◌∙◌, subst, arith, add-one}
use Rattle.std.specs.List.{sum_by}
use Rattle.crossbeam_deque.specs.declared.steal.Steal.{Steal}
use Rattle.crossbeam_deque.specs.declared.steal.Steal.TheVariants.{Empty, Success, Retry}
use Rattle.crossbeam_deque.specs.Steals.{MatchSteal}
use Rattle.std.proofs.lemmas.List.{length_push, drop-drop, drop-set-lt}
use Rattle.std.proofs.lemmas.List.Elements.{All-cons, All-head, All-tail, All-weaker}
use Rattle.std.proofs.lemmas.List.Sums.{sum_by-append, sum_by-cons}
use Rattle.steal_tasks.specs.declared.share.Share.{Share}
use Rattle.steal_tasks.specs.Sharing.{IsSublist, given, CanBeEmpty}
use Rattle.steal_tasks.specs.Ends.{Part, Other, EndSeen, part_of, with_taken, with_others, AddsTo, IsTakenInOrder, IsCounted, FoundEmpty, Missed, AllMissed, Stolen, GotOne, NothingFound, Found}

abbrev parts_in : List Other → List Part
parts_in others = map (λ o. o.part) others

-- ---- one steal

-- what a steal tells
pub told : (s : Steal ℕ) (r : Option ℕ) (old now : Share) (before after : ℕ)
    → MatchSteal s ((now ≡ old) × CanBeEmpty old) ((now ≡ old) × ((before < after) ⊎ CanBeEmpty old)) (λ x. (now ≡ given old x) × IsSublist (old.taken ++ x ∷ []) old.dealt)
    → MatchSteal s (r ≡ None) (r ≡ None) (λ x. r ≡ Some x)
    → MatchOption r (Missed (record { part = part_of old; known = before }) (record { part = part_of now; known = after })) (λ x. (part_of now ≡ with_taken (part_of old) x) × IsTakenInOrder (part_of now))
told s r old now before after h e = by s h e
  where
    Answer : Option ℕ → Type 0
    Answer q = MatchOption q (Missed (record { part = part_of old; known = before }) (record { part = part_of now; known = after })) (λ x. (part_of now ≡ with_taken (part_of old) x) × IsTakenInOrder (part_of now))

    by : (s : Steal ℕ) → MatchSteal s ((now ≡ old) × CanBeEmpty old) ((now ≡ old) × ((before < after) ⊎ CanBeEmpty old)) (λ x. (now ≡ given old x) × IsSublist (old.taken ++ x ∷ []) old.dealt)
        → MatchSteal s (r ≡ None) (r ≡ None) (λ x. r ≡ Some x) → Answer r
    by Empty h e = subst Answer (sym e) (ap part_of h.0, inr (old.alone, h.1))
    by (Success x) h e = subst Answer (sym e) (ap part_of h.0, subst (λ (v : Share). IsSublist v.taken v.dealt) (sym h.0) h.1)
    by Retry h e = subst Answer (sym e) (ap part_of h.0, ⊎_elim (λ (t : before < after). inl t) (λ (t : CanBeEmpty old). inr (old.alone, t)) h.1)

-- ---- the loop over the other deques

-- one more missed
missed_next : (os ns : List Other) (i : ℕ) (d n : Other) → i < length ns → AllMissed (take i os) (take i ns) → drop i ns ≡ drop i os → Missed (get_or ns i d) n
    → AllMissed (take (suc i) os) (take (suc i) (set ns i n))
missed_next os [] i d n there before rest here = absurd (omega arith)
missed_next [] (q ∷ ns) zero d n there before rest here = absurd (let e : suc (length ns) ≡ 0 = ap length rest in omega arith)
missed_next (o ∷ os) (q ∷ ns) zero d n there before rest here = (subst (λ u. Missed u n) (ap (λ l. get_or l 0 d) rest) here, tt)
missed_next [] (q ∷ ns) (suc i) d n there before rest here = absurd before
missed_next (o ∷ os) (q ∷ ns) (suc i) d n there before rest here = (before.0, missed_next os ns i d n (omega arith) before.1 rest here)

pub missed_more : (os ns : List Other) (i : ℕ) (d n : Other) → i < length ns → AllMissed (take i os) (take i ns) → drop i ns ≡ drop i os → Missed (get_or ns i d) n
    → AllMissed (take (i + 1) os) (take (i + 1) (set ns i n)) × (drop (i + 1) (set ns i n) ≡ drop (i + 1) os)
missed_more os ns i d n there before rest here = (
  rw (add-one i) (missed_next os ns i d n there before rest here),
  drop-set-lt (i + 1) ns i n (omega arith) ∙ sym (drop-drop 1 i ns) ∙ ap (drop 1) rest ∙ drop-drop 1 i os,
)

-- the next one gives a number
pub stolen_at : (x : ℕ) (os ns : List Other) (i : ℕ) (d n : Other) → i < length ns → AllMissed (take i os) (take i ns) → drop i ns ≡ drop i os
    → n.part ≡ with_taken (get_or ns i d).part x → IsTakenInOrder n.part → Stolen x os (set ns i n)
stolen_at x os [] i d n there before rest got once = absurd (omega arith)
stolen_at x [] (q ∷ ns) zero d n there before rest got once = absurd (let e : suc (length ns) ≡ 0 = ap length rest in omega arith)
stolen_at x (o ∷ os) (q ∷ ns) zero d n there before rest got once =
    inl (got ∙ ap (λ l. with_taken (get_or l 0 d).part x) rest, once, ap (drop 1) rest)
stolen_at x [] (q ∷ ns) (suc i) d n there before rest got once = absurd before
stolen_at x (o ∷ os) (q ∷ ns) (suc i) d n there before rest got once = inr (before.0, stolen_at x os ns i d n (omega arith) before.1 rest got once)

-- ---- the deques of an end before and after

missed_same : (os ns : List Other) → AllMissed os ns → parts_in ns ≡ parts_in os
missed_same [] [] h = refl
missed_same [] (n ∷ ns) h = absurd h
missed_same (o ∷ os) [] h = absurd h
missed_same (o ∷ os) (n ∷ ns) h = λ k. h.0.0 k ∷ missed_same os ns h.1 k

missed_none : (os ns : List Other) → AllMissed os ns → ns ≡ [] → os ≡ []
missed_none [] ns h e = refl
missed_none (o ∷ os) [] h e = absurd h
missed_none (o ∷ os) (n ∷ ns) h e = absurd (let f : suc (length ns) ≡ 0 = ap length e in omega arith)

stolen_some : (x : ℕ) (os ns : List Other) → Stolen x os ns → ns ≡ [] → ⊥
stolen_some x [] ns h e = absurd h
stolen_some x (o ∷ os) [] h e = absurd h
stolen_some x (o ∷ os) (n ∷ ns) h e = let f : suc (length ns) ≡ 0 = ap length e in omega arith

-- x was added to one deque, and is no number that was taken from it before
abbrev AddsOnce : ℕ → List Part → List Part → Type 0
AddsOnce x old new = (before : List Part) × (p : Part) × (after : List Part) × (old ≡ before ++ p ∷ after) × (new ≡ before ++ with_taken p x ∷ after) × IsTakenInOrder (with_taken p x)

adds_further : (x : ℕ) (p : Part) (old new : List Part) → AddsOnce x old new → AddsOnce x (p ∷ old) (p ∷ new)
adds_further x p old new h = (p ∷ h.0, h.1, h.2, ap (λ l. p ∷ l) h.3, ap (λ l. p ∷ l) h.4, h.5)

stolen_adds : (x : ℕ) (os ns : List Other) → Stolen x os ns → AddsOnce x (parts_in os) (parts_in ns)
stolen_adds x [] ns h = absurd h
stolen_adds x (o ∷ os) [] h = absurd h
stolen_adds x (o ∷ os) (n ∷ ns) h = ⊎_elim
    (λ (t : (n.part ≡ with_taken o.part x) × IsTakenInOrder n.part × (ns ≡ os)). ([], o.part, parts_in os, refl, (λ k. t.0 k ∷ parts_in (t.2 k)), subst IsTakenInOrder t.0 t.1))
    (λ (t : Missed o n × Stolen x os ns). subst (λ q. AddsOnce x (o.part ∷ parts_in os) (q ∷ parts_in ns)) (sym t.0.0) (adds_further x o.part (parts_in os) (parts_in ns) (stolen_adds x os ns t.1))) h

got_adds : (x : ℕ) (own own' : Share) (os ns : List Other) → GotOne x own own' os ns → AddsOnce x (with_others (part_of own) os) (with_others (part_of own') ns)
got_adds x own own' os ns h = ⊎_elim
    (λ (t : (own' ≡ given own x) × IsSublist own'.taken own'.dealt × (ns ≡ os)). ([], part_of own, parts_in os, refl, (λ k. part_of (t.0 k) ∷ parts_in (t.2 k)), subst (λ (v : Share). IsSublist v.taken v.dealt) t.0 t.1))
    (λ (t : (own' ≡ own) × CanBeEmpty own × Stolen x os ns). subst (λ q. AddsOnce x (with_others (part_of own) os) (with_others (part_of q) ns)) (sym t.0) (adds_further x (part_of own) (parts_in os) (parts_in ns) (stolen_adds x os ns t.2))) h

pub adds : (x : ℕ) (own own' : Share) (os ns : List Other) → GotOne x own own' os ns → AddsTo x (with_others (part_of own) os) (with_others (part_of own') ns)
adds x own own' os ns h = let a = got_adds x own own' os ns h in (a.0, a.1, a.2, a.3, a.4)

pub same_parts : (own own' : Share) (os ns : List Other) → own' ≡ own → AllMissed os ns → with_others (part_of own') ns ≡ with_others (part_of own) os
same_parts own own' os ns e h = λ k. part_of (e k) ∷ missed_same os ns h k

-- ---- the count

all_but_one : (before : List Part) (p q : Part) (after : List Part) → IsTakenInOrder q → All IsTakenInOrder (before ++ p ∷ after) → All IsTakenInOrder (before ++ q ∷ after)
all_but_one [] p q after new h = All-cons IsTakenInOrder q after new (All-tail IsTakenInOrder p after h)
all_but_one (b ∷ before) p q after new h =
    All-cons IsTakenInOrder b (before ++ q ∷ after) (All-head IsTakenInOrder b (before ++ p ∷ after) h) (all_but_one before p q after new (All-tail IsTakenInOrder b (before ++ p ∷ after) h))

abbrev taken_count : List Part → ℕ
taken_count ps = sum_by (λ p. length p.taken) ps

count_more : (x : ℕ) (before : List Part) (p : Part) (after : List Part) → taken_count (before ++ with_taken p x ∷ after) ≡ taken_count (before ++ p ∷ after) + 1
count_more x before p after = let f : Part → ℕ = λ p. length p.taken in
    omega (
      arith,
      length_push p.taken x,
      sum_by-append f before (p ∷ after),
      sum_by-append f before (with_taken p x ∷ after),
      sum_by-cons f p after,
      sum_by-cons f (with_taken p x) after,
    )

-- nothing is taken yet
none_taken : (ps : List Part) → All (λ p. p.taken ≡ []) ps → 0 ≡ taken_count ps
none_taken [] h = refl
none_taken (p ∷ ps) h =
    let none : length p.taken ≡ 0 = ap length (All-head (λ p. p.taken ≡ []) p ps h) in
    let rest = none_taken ps (All-tail (λ p. p.taken ≡ []) p ps h) in
    omega (arith, sum_by-cons (λ (p : Part). length p.taken) p ps)

pub counted_none : (count : ℕ) (ps : List Part) → All (λ p. p.taken ≡ []) ps → IsCounted count 0 ps
counted_none count ps h = record {
  few = omega arith;
  sum = none_taken ps h;
  once = All-weaker (λ p. p.taken ≡ []) IsTakenInOrder (λ p e. subst (λ l. IsSublist l p.dealt) (sym e) tt) ps h;
}

counted_more : (count n x : ℕ) (old new : List Part) → n < count → IsCounted count n old → AddsOnce x old new → IsCounted count (n + 1) new
counted_more count n x old new few h a = record {
  few = omega arith;
  sum = ap (λ k. k + 1) (h.sum ∙ ap taken_count a.3) ∙ sym (count_more x a.0 a.1 a.2) ∙ ap taken_count (sym a.4);
  once = subst (All IsTakenInOrder) (sym a.4) (all_but_one a.0 a.1 (with_taken a.1 x) a.2 a.5 (subst (All IsTakenInOrder) a.3 h.once));
}

-- what holds of an end between its calls
abbrev pub Keeps : ℕ → ℕ → Share → List Other → Type 0
Keeps count n own os = IsCounted count n (with_others (part_of own) os) × (os ≡ [] → own.alone ≡ true)

pub kept_with_one : (count n x : ℕ) (own own' : Share) (os ns : List Other) → n < count → GotOne x own own' os ns → Keeps count n own os → Keeps count (n + 1) own' ns
kept_with_one count n x own own' os ns few h keeps = (
  counted_more count n x (with_others (part_of own) os) (with_others (part_of own') ns) few keeps.0 (got_adds x own own' os ns h),
  λ none. ⊎_elim
      (λ (t : (own' ≡ given own x) × IsSublist own'.taken own'.dealt × (ns ≡ os)). ap (λ (v : Share). v.alone) t.0 ∙ keeps.1 (sym t.2 ∙ none))
      (λ (t : (own' ≡ own) × CanBeEmpty own × Stolen x os ns). absurd (stolen_some x os ns t.2 none)) h,
)

pub kept_with_none : (count n : ℕ) (own own' : Share) (os ns : List Other) → own' ≡ own → AllMissed os ns → Keeps count n own os → Keeps count n own' ns
kept_with_none count n own own' os ns e h keeps = (
  subst (IsCounted count n) (sym (same_parts own own' os ns e h)) keeps.0,
  λ none. ap (λ (v : Share). v.alone) e ∙ keeps.1 (missed_none os ns h none),
)

-- ---- as callers see it

pub found : (x : ℕ) (own own' : Share) (os ns : List Other) (old new : EndSeen) → GotOne x own own' os ns → old.own ≡ part_of own → old.others ≡ os → new.own ≡ part_of own' → new.others ≡ ns → Found x old new
found x own own' os ns old new h a b c d = ⊎_elim
    (λ (t : (own' ≡ given own x) × IsSublist own'.taken own'.dealt × (ns ≡ os)). inl (c ∙ ap part_of t.0 ∙ ap (λ p. with_taken p x) (sym a), d ∙ t.2 ∙ sym b))
    (λ (t : (own' ≡ own) × CanBeEmpty own × Stolen x os ns). inr (
      c ∙ ap part_of t.0 ∙ sym a,
      subst FoundEmpty (sym a) (own.alone, t.1),
      subst (λ l. Stolen x l new.others) (sym b) (subst (Stolen x os) (sym d) t.2),
    )) h

pub nothing_found : (own own' : Share) (os ns : List Other) (old new : EndSeen) → own' ≡ own → CanBeEmpty own → AllMissed os ns → old.own ≡ part_of own → old.others ≡ os → new.own ≡ part_of own' → new.others ≡ ns → NothingFound old new
nothing_found own own' os ns old new e empty h a b c d = (
  c ∙ ap part_of e ∙ sym a,
  subst FoundEmpty (sym a) (own.alone, empty),
  subst (λ l. AllMissed l new.others) (sym b) (subst (AllMissed os) (sym d) h),
)
