-- Each step keeps the rule of a deque.
use Rattle.std.proofs.Common.{◌≡◌, ℕ, zero, suc, true, false, true≢false, List, [], ◌∷◌, ◌++◌, length, set, sym, refl, ap, ◌∙◌, subst, inl, inr, ⊎_elim, append_assoc, append-nil, ◌+◌, ◌≤◌, ◌<◌, arith}
use mathlib.Core.Option.{some, some-injective, some-ne-none}
use lib.ListN.{get_elem?}
use Rattle.std.specs.List.{flat_map, sum_by}
use Rattle.std.proofs.lemmas.List.{length-set, nil_from_length}
use Rattle.std.proofs.lemmas.List.Concat.{flat_map-append}
use Rattle.std.proofs.lemmas.List.Sums.{sum_by-append, sum_by-cons}
use Rattle.crossbeam_deque.specs.Tasks.{Pushes, Takes, Finds, FindsFew, Forks}
use Rattle.crossbeam_deque.proofs.Lists.{at_set, at_snoc}
use Rattle.steal_tasks.specs.declared.share.Share.{Share}
use Rattle.steal_tasks.specs.Sharing.{share, IsSublist, IsShared, CanBeEmpty, TakenOnce}

abbrev taken_of : List Share → List ℕ
taken_of views = flat_map (λ v. v.taken) views

-- what all have taken, after a change of one
all_set : (h : ℕ → ℕ) (views : List Share) (port : ℕ) (v w : Share) → get_elem? views port ≡ some v
    → sum_by h (taken_of (set views port w)) + sum_by h v.taken ≡ sum_by h (taken_of views) + sum_by h w.taken
all_set h [] port v w e = absurd (some-ne-none v (sym e))
all_set h (u ∷ us) zero v w e = let same : sum_by h u.taken ≡ sum_by h v.taken = ap (λ (q : Share). sum_by h q.taken) (some-injective u v e) in
    omega (arith, sum_by-append h w.taken (taken_of us), sum_by-append h u.taken (taken_of us))
all_set h (u ∷ us) (suc port) v w e = let below = all_set h us port v w e in
    omega (arith, sum_by-append h u.taken (taken_of (set us port w)), sum_by-append h u.taken (taken_of us))

-- one has taken no more than all have
part_of_all : (h : ℕ → ℕ) (views : List Share) (port : ℕ) (v : Share) → get_elem? views port ≡ some v → sum_by h v.taken ≤ sum_by h (taken_of views)
part_of_all h [] port v e = absurd (some-ne-none v (sym e))
part_of_all h (u ∷ us) zero v e = let same : sum_by h u.taken ≡ sum_by h v.taken = ap (λ (q : Share). sum_by h q.taken) (some-injective u v e) in
    omega (arith, sum_by-append h u.taken (taken_of us))
part_of_all h (u ∷ us) (suc port) v e = let below = part_of_all h us port v e in omega (arith, sum_by-append h u.taken (taken_of us))

at_below : (views : List Share) (port : ℕ) (v : Share) → get_elem? views port ≡ some v → port < length views
at_below [] port v e = absurd (some-ne-none v (sym e))
at_below (u ∷ us) zero v e = omega arith
at_below (u ∷ us) (suc port) v e = let below = at_below us port v e in omega arith

-- where one takes itself to be alone there is no other
no_other : (views : List Share) (port i : ℕ) (v u : Share) → length views ≡ 1 → get_elem? views port ≡ some v → get_elem? views i ≡ some u → i ≡ port
no_other views port i v u one at e = let a = at_below views port v at in let b = at_below views i u e in omega arith

only_one : (views : List Share) (port : ℕ) (v : Share) → length views ≡ 1 → get_elem? views port ≡ some v → views ≡ v ∷ []
only_one [] port v n e = absurd (omega arith)
only_one (u ∷ []) zero v n e = ap (λ (q : Share). q ∷ []) (some-injective u v e)
only_one (u ∷ []) (suc port) v n e = absurd (some-ne-none v (sym e))
only_one (u ∷ w ∷ us) port v n e = absurd (omega arith)

one_is : (v : Share) (port : ℕ) (w : Share) → get_elem? (v ∷ []) port ≡ some w → v ≡ w
one_is v zero w e = some-injective v w e
one_is v (suc port) w e = absurd (some-ne-none w (sym e))

-- ---- lists without some of their numbers

sublist_skip : (y : ℕ) (xs ys : List ℕ) → IsSublist xs ys → IsSublist xs (y ∷ ys)
sublist_skip y [] ys h = tt
sublist_skip y (x ∷ xs) ys h = inr h

sublist_self : (xs : List ℕ) → IsSublist xs xs
sublist_self [] = tt
sublist_self (x ∷ xs) = inl (refl, sublist_self xs)

sublist_behind : (ys xs : List ℕ) → IsSublist xs (ys ++ xs)
sublist_behind [] xs = sublist_self xs
sublist_behind (y ∷ ys) xs = sublist_skip y xs (ys ++ xs) (sublist_behind ys xs)

sublist_more : (xs ys zs : List ℕ) → IsSublist xs ys → IsSublist xs (ys ++ zs)
sublist_more [] ys zs h = tt
sublist_more (x ∷ xs) [] zs h = absurd h
sublist_more (x ∷ xs) (y ∷ ys) zs h = ⊎_elim (λ (t : (x ≡ y) × IsSublist xs ys). inl (t.0, sublist_more xs ys zs t.1)) (λ (t : IsSublist (x ∷ xs) ys). inr (sublist_more (x ∷ xs) ys zs t)) h

sublist_both : (xs ys zs : List ℕ) → IsSublist xs ys → IsSublist (xs ++ zs) (ys ++ zs)
sublist_both [] ys zs h = sublist_behind ys zs
sublist_both (x ∷ xs) [] zs h = absurd h
sublist_both (x ∷ xs) (y ∷ ys) zs h = ⊎_elim (λ (t : (x ≡ y) × IsSublist xs ys). inl (t.0, sublist_both xs ys zs t.1)) (λ (t : IsSublist (x ∷ xs) ys). inr (sublist_both (x ∷ xs) ys zs t)) h

sublist_short : (xs ys : List ℕ) → IsSublist xs ys → length xs ≤ length ys
sublist_short [] ys h = omega arith
sublist_short (x ∷ xs) [] h = absurd h
sublist_short (x ∷ xs) (y ∷ ys) h = ⊎_elim (λ (t : (x ≡ y) × IsSublist xs ys). let e = sublist_short xs ys t.1 in let f : length (x ∷ xs) ≤ length (y ∷ ys) = omega arith in f) (λ (t : IsSublist (x ∷ xs) ys). let e = sublist_short (x ∷ xs) ys t in let f : length (x ∷ xs) ≤ length (y ∷ ys) = omega arith in f) h

-- without any of none
sublist_whole : (xs ys : List ℕ) → IsSublist xs ys → length ys ≤ length xs → xs ≡ ys
sublist_whole [] [] h long = refl
sublist_whole [] (y ∷ ys) h long = absurd (omega arith)
sublist_whole (x ∷ xs) [] h long = absurd h
sublist_whole (x ∷ xs) (y ∷ ys) h long = ⊎_elim
    (λ (t : (x ≡ y) × IsSublist xs ys). λ i. t.0 i ∷ sublist_whole xs ys t.1 (let f : length ys ≤ length xs = omega arith in f) i)
    (λ (t : IsSublist (x ∷ xs) ys). absurd (let e = sublist_short (x ∷ xs) ys t in omega arith)) h

-- ---- the steps

-- what the rule says of each view
abbrev Knows : List ℕ → List ℕ → ℕ → Share → Type 0
Knows dealt gone ends v = (v.dealt ≡ dealt) × IsSublist v.taken gone × (v.alone ≡ true → ends ≡ 1)

-- it stays where one view is replaced, if it holds of the new one, and if it stays for the others
known_set : (dealt gone : List ℕ) (views : List Share) (port : ℕ) (w : Share) → Knows dealt gone (length views) w
    → ((i : ℕ) (u : Share) → (i ≡ port → ⊥) → get_elem? views i ≡ some u → Knows dealt gone (length views) u)
    → (i : ℕ) (u : Share) → get_elem? (set views port w) i ≡ some u → Knows dealt gone (length (set views port w)) u
known_set dealt gone views port w mine theirs i u e =
    let Now : Share → Type 0 = Knows dealt gone (length views) in
    let now : Now u = ⊎_elim (λ (t : (i ≡ port) × (w ≡ u)). subst Now t.1 mine) (λ (t : (i ≡ port → ⊥) × (get_elem? views i ≡ some u)). theirs i u t.0 t.1) (at_set views port i w u e) in
    subst (λ n. Knows dealt gone n u) (sym (length-set views port w)) now

pub begins : IsShared [] (share true [] [] ∷ [])
begins = (
  [],
  [],
  refl,
  (λ h. refl),
  λ port v e. let same = one_is (share true [] []) port v e in subst (Knows [] [] 1) same (refl, tt, λ _. refl),
)

-- the numbers are dealt before another end can take
pub deals : (port : ℕ) (v : Share) (xs : List ℕ) → v.alone ≡ true → Pushes IsShared port v xs (λ w. w ≡ share v.alone (v.dealt ++ xs) v.taken)
deals port v xs alone items views rule at =
    let w : Share = share v.alone (v.dealt ++ xs) v.taken in
    let mine = rule.4 port v at in (
      w,
      (
        rule.0 ++ xs,
        rule.1,
        sym (append_assoc rule.1 items xs) ∙ ap (λ l. l ++ xs) rule.2,
        (λ h. let before = rule.3 h in let after = all_set h views port v w at in omega arith),
        known_set (rule.0 ++ xs) rule.1 views port w (ap (λ l. l ++ xs) mine.0, mine.1, mine.2) (λ i u other e. absurd (other (no_other views port i v u (mine.2 alone) at e))),
      ),
      refl,
    )

-- the first number goes from the deque to the one who takes it
pub takes : (port : ℕ) (v : Share) → Takes IsShared port v 1 (λ xs w. (w ≡ share v.alone v.dealt (v.taken ++ xs)) × IsSublist (v.taken ++ xs) v.dealt)
takes port v xs items views some_left one rule at =
    let w : Share = share v.alone v.dealt (v.taken ++ xs) in
    let mine = rule.4 port v at in
    let gone : List ℕ = rule.1 ++ xs in
    let all : gone ++ items ≡ rule.0 = append_assoc rule.1 xs items ∙ rule.2 in
    let own : IsSublist (v.taken ++ xs) gone = sublist_both v.taken rule.1 xs mine.1 in (
      w,
      (
        rule.0,
        gone,
        all,
        (λ h. let before = rule.3 h in let after = all_set h views port v w at in omega (arith, sum_by-append h rule.1 xs, sum_by-append h v.taken xs)),
        known_set rule.0 gone views port w (mine.0, own, mine.2) (λ i u other e. let theirs = rule.4 i u e in (theirs.0, sublist_more u.taken rule.1 xs theirs.1, theirs.2)),
      ),
      (refl, subst (IsSublist (v.taken ++ xs)) (all ∙ sym mine.0) (sublist_more (v.taken ++ xs) gone items own)),
    )

-- an empty deque is one that the rule allows to be empty
pub finds : (port : ℕ) (v : Share) → Finds IsShared port v (CanBeEmpty v)
finds port v views rule at = (views, port, rule, at)

pub finds_few : (most port : ℕ) (v : Share) → most ≡ 0 → FindsFew IsShared most port v (CanBeEmpty v)
finds_few most port v none items views few rule at = (views, port, subst (λ l. IsShared l views) (nil_from_length items (omega arith)) rule, at)

-- another end may take from now on
pub opens : (port : ℕ) (v : Share) → Forks IsShared port v (share false v.dealt v.taken) (share false v.dealt [])
opens port v items views rule at =
    let l : Share = share false v.dealt v.taken in
    let r : Share = share false v.dealt [] in
    let mine = rule.4 port v at in
    let vs : List Share = set views port l in (
      rule.0,
      rule.1,
      rule.2,
      (λ h.
          let before = rule.3 h in
          let after = all_set h views port v l at in
          rw flat_map-append omega (arith, sum_by-append h (taken_of vs) (taken_of (r ∷ [])))),
      λ i u e.
          let Now : Share → Type 0 = Knows rule.0 rule.1 (length (vs ++ r ∷ [])) in
          let rest : get_elem? vs i ≡ some u → Now u = λ there. ⊎_elim
          (λ (t : (i ≡ port) × (l ≡ u)). subst Now t.1 (mine.0, mine.1, λ a. absurd (true≢false (sym a))))
          (λ (t : (i ≡ port → ⊥) × (get_elem? views i ≡ some u)).
          let theirs = rule.4 i u t.1 in
          (theirs.0, theirs.1, λ a. absurd (t.0 (no_other views port i v u (theirs.2 a) at t.1))))
          (at_set views port i l u there) in
          let new : r ≡ u → Now u = λ same. subst Now same (mine.0, tt, λ a. absurd (true≢false (sym a))) in
          ⊎_elim rest new (at_snoc vs r u i e),
    )

one_each : (xs : List ℕ) → sum_by (λ (n : ℕ). 1) xs ≡ length xs
one_each [] = refl
one_each (x ∷ xs) = let rest = one_each xs in omega (arith, sum_by-cons (λ (n : ℕ). 1) x xs)

-- who was alone has taken all
pub alone_has_all : (v : Share) → v.alone ≡ true → CanBeEmpty v → v.taken ≡ v.dealt
alone_has_all v alone e =
    let views = e.0 in
    let rule = e.2 in
    let mine = rule.4 e.1 v e.3 in
    let single = only_one views e.1 v (mine.2 alone) e.3 in
    let many : sum_by (λ (n : ℕ). 1) (taken_of views) ≡ sum_by (λ (n : ℕ). 1) (v.taken ++ []) = ap (λ l. sum_by (λ (n : ℕ). 1) (taken_of l)) single in
    let all = rule.3 (λ (n : ℕ). 1) in
    let long : length rule.1 ≤ length v.taken = omega (arith, sum_by-append (λ (n : ℕ). 1) v.taken [], one_each rule.1, one_each v.taken) in
    sublist_whole v.taken rule.1 mine.1 long ∙ sym (append-nil rule.1) ∙ rule.2 ∙ sym mine.0

-- two have taken no more than all have
two_of_all : (h : ℕ → ℕ) (views : List Share) (i j : ℕ) (v w : Share) → i < j → get_elem? views i ≡ some v → get_elem? views j ≡ some w → sum_by h v.taken + sum_by h w.taken ≤ sum_by h (taken_of views)
two_of_all h [] i j v w low at at' = absurd (some-ne-none v (sym at))
two_of_all h (u ∷ us) i zero v w low at at' = absurd (omega arith)
two_of_all h (u ∷ us) zero (suc j) v w low at at' =
    let same : sum_by h u.taken ≡ sum_by h v.taken = ap (λ (q : Share). sum_by h q.taken) (some-injective u v at) in
    let rest = part_of_all h us j w at' in
    omega (arith, sum_by-append h u.taken (taken_of us))
two_of_all h (u ∷ us) (suc i) (suc j) v w low at at' = let below = two_of_all h us i j v w (omega arith) at at' in omega (arith, sum_by-append h u.taken (taken_of us))

pub taken_once : TakenOnce
taken_once inside views i j v w rule low at at' = λ h.
    let both = two_of_all h views i j v w low at at' in
    let all = rule.3 h in
    let dealt : sum_by h v.dealt ≡ sum_by h rule.0 = ap (sum_by h) (rule.4 i v at).0 in
    let whole : sum_by h (rule.1 ++ inside) ≡ sum_by h rule.0 = ap (sum_by h) rule.2 in
    omega (arith, sum_by-append h v.taken w.taken, sum_by-append h rule.1 inside)
