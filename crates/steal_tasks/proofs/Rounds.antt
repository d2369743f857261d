-- The deques that each end gets, its own first and the others round from it.
use Rattle.std.proofs.Common.{◌≡◌, ℕ, zero, suc, true, All, ◌+◌, ◌-◌, ◌%◌, ◌<◌, ◌≤◌, List, [], ◌∷◌, ◌++◌, map, length, get_or, set, drop, sym, refl, ap, ◌∙◌, subst, arith}
use Rattle.std.specs.List.{range_with_len, zip}
use Rattle.std.proofs.lemmas.List.{map-append, map_push, map-id, get_or-map, length-map}
use Rattle.std.proofs.Math.Nat.{mod-eq_of_lt}
use Rattle.std.proofs.lemmas.List.Elements.{All-nil, All-cons, All-head, All-tail, All-map}
use Rattle.std.proofs.lemmas.List.FromFn.{map-range_with_len_more, length-map-range_with_len, fill_by_all}
use Rattle.steal_tasks.specs.declared.share.Share.{Share}
use Rattle.steal_tasks.specs.Sharing.{share}
use Rattle.steal_tasks.specs.Dealing.{part_start, dealt_to, all_dealt}
use Rattle.steal_tasks.specs.Ends.{Part, Other, part_of, with_others, untaken, part_behind, parts_from, others_from, IsReady}

abbrev pub dealt_in : List Share → List (List ℕ)
dealt_in deques = map (λ d. d.dealt) deques

same_dealt-parts : (deques : List Share) → dealt_in deques ≡ map (λ p. p.dealt) (map part_of deques)
same_dealt-parts [] = refl
same_dealt-parts (d ∷ ds) = ap (λ l. d.dealt ∷ l) (same_dealt-parts ds)

-- where the parts are the same, so are the numbers dealt
pub same_dealt : (xs ys : List Share) → map part_of xs ≡ map part_of ys → dealt_in xs ≡ dealt_in ys
same_dealt xs ys e = same_dealt-parts xs ∙ ap (λ ps. map (λ p. p.dealt) ps) e ∙ sym (same_dealt-parts ys)

-- and there are as many
pub same_length : (xs ys : List Share) → map part_of xs ≡ map part_of ys → length xs ≡ length ys
same_length xs ys e = sym (length-map xs part_of) ∙ ap length e ∙ length-map ys part_of

-- one of them was lent
pub still_same : (deques : List Share) (i : ℕ) (d new : Share) → part_of new ≡ part_of (get_or deques i d) → map part_of (set deques i new) ≡ map part_of deques
still_same [] i d new e = refl
still_same (x ∷ xs) zero d new e = ap (λ p. p ∷ map part_of xs) e
still_same (x ∷ xs) (suc i) d new e = ap (λ l. part_of x ∷ l) (still_same xs i d new e)

-- one more for the round of worker w
pub round_more : (all : List (List ℕ)) (deques : List Share) (w step i : ℕ) (d : Share) (others : List Other) (o : Other) → 1 ≤ step → dealt_in deques ≡ all → i ≡ (w + step) % length all → i < length deques
    → map (λ o. o.part) others ≡ map (part_behind all w) (range_with_len 1 (step - 1)) → o.part ≡ untaken (get_or deques i d).dealt
    → map (λ o. o.part) (others ++ o ∷ []) ≡ map (part_behind all w) (range_with_len 1 (step + 1 - 1))
round_more all deques w step i d others o some same at there before now =
    let f : ℕ → Part = part_behind all w in
    let behind : step - 1 + 1 ≡ step + 1 - 1 = omega arith in
    let place : 1 + (step - 1) ≡ step = omega arith in
    let read : (get_or deques i d).dealt ≡ get_or all ((w + step) % length all) [] =
    sym (get_or-map (λ (s : Share). s.dealt) deques i d [] there) ∙ ap (λ l. get_or l i []) same ∙ ap (λ k. get_or all k []) at in
    map-append (λ (o : Other). o.part) others (o ∷ [])
    ∙ ap (λ l. l ++ o.part ∷ []) before
    ∙ ap (λ p. map f (range_with_len 1 (step - 1)) ++ p ∷ []) (now ∙ ap untaken read)
    ∙ sym (map-range_with_len_more f 1 (step - 1) step place)
    ∙ ap (λ n. map f (range_with_len 1 n)) behind

-- ---- the ends, each with its deque and the others

-- the first is its own
own_first : (all : List (List ℕ)) (w : ℕ) → w < length all → parts_from all w ≡ untaken (get_or all w []) ∷ others_from all w
own_first [] w there = absurd (omega arith)
own_first (x ∷ xs) w there =
    let all : List (List ℕ) = x ∷ xs in
    let here : w + 0 ≡ w = omega arith in
    let own : (w + 0) % length all ≡ w = ap (λ k. k % length all) here ∙ mod-eq_of_lt there in
    let rest : length xs ≡ length all - 1 = omega arith in
    λ i. untaken (get_or all (own i) []) ∷ map (part_behind all w) (range_with_len 1 (rest i))

tails : {A : Type 0} (x y : A) (xs ys : List A) → x ∷ xs ≡ y ∷ ys → xs ≡ ys
tails x y xs ys e = ap (drop 1) e

-- from worker w on, the deques with the others round from them
pub all_parts : {V : Type 0} (others : V → List Other) (all : List (List ℕ)) (w : ℕ) (ds : List Share) (os : List V) → w + length ds ≡ length all
    → map part_of ds ≡ map (λ k. untaken (get_or all k [])) (range_with_len w (length ds))
    → map (λ o. map (λ p. p.part) (others o)) os ≡ map (others_from all) (range_with_len w (length ds))
    → map (λ (p : Share × V). with_others (part_of p.0) (others p.1)) (zip ds os) ≡ map (parts_from all) (range_with_len w (length ds))
all_parts others all w [] os n own round = refl
all_parts others all w (d ∷ ds) [] n own round = absurd (let e : 0 ≡ suc (length (map (others_from all) (range_with_len (w + 1) (length ds)))) = ap length round in omega arith)
all_parts others all w (d ∷ ds) (o ∷ os) n own round =
    let first : part_of d ≡ untaken (get_or all w []) = ap (λ l. get_or l 0 (untaken [])) own in
    let next : map (λ p. p.part) (others o) ≡ others_from all w = ap (λ l. get_or l 0 []) round in
    let here : with_others (part_of d) (others o) ≡ parts_from all w = (λ i. first i ∷ next i) ∙ sym (own_first all w (omega arith)) in
    let rest = all_parts others all (w + 1) ds os (omega arith) (tails _ _ _ _ own) (tails _ _ _ _ round) in
    λ i. here i ∷ rest i

untaken_behind : (all : List (List ℕ)) (w a n : ℕ) → All (λ p. p.taken ≡ []) (map (part_behind all w) (range_with_len a n))
untaken_behind all w a n = All-map (λ p. p.taken ≡ []) (part_behind all w) (range_with_len a n) (λ k d _. refl)

pub all_ready : {V : Type 0} (others : V → List Other) (all : List (List ℕ)) (w : ℕ) (ds : List Share) (os : List V) → w + length ds ≡ length all
    → map part_of ds ≡ map (λ k. untaken (get_or all k [])) (range_with_len w (length ds))
    → map (λ o. map (λ p. p.part) (others o)) os ≡ map (others_from all) (range_with_len w (length ds))
    → (length all ≡ 1 → All (λ d. d.alone ≡ true) ds) → All (λ (p : Share × V). IsReady p.0 (others p.1)) (zip ds os)
all_ready {V} others all w [] os n own round alone = All-nil (λ (p : Share × V). IsReady p.0 (others p.1))
all_ready {V} others all w (d ∷ ds) [] n own round alone = All-nil (λ (p : Share × V). IsReady p.0 (others p.1))
all_ready {V} others all w (d ∷ ds) (o ∷ os) n own round alone =
    let first : part_of d ≡ untaken (get_or all w []) = ap (λ l. get_or l 0 (untaken [])) own in
    let next : map (λ p. p.part) (others o) ≡ others_from all w = ap (λ l. get_or l 0 []) round in
    let no_more : others o ≡ [] → length all ≡ 1 = λ none.
    (let long : length (others_from all w) ≡ length all - 1 = length-map-range_with_len (part_behind all w) 1 (length all - 1) in
    let short : length (others_from all w) ≡ 0 = ap length (sym next) ∙ ap (λ (l : List Other). length (map (λ p. p.part) l)) none in
    omega arith) in
    All-cons
    (λ (p : Share × V). IsReady p.0 (others p.1))
    (d, o)
    (zip ds os) (
      All-cons (λ p. p.taken ≡ []) (part_of d) (map (λ p. p.part) (others o)) (ap (λ (p : Part). p.taken) first) (subst (All (λ p. p.taken ≡ [])) (sym next) (untaken_behind all w 1 (length all - 1))),
      λ none. All-head (λ d. d.alone ≡ true) d ds (alone (no_more none)),
    )
    (all_ready others all (w + 1) ds os (omega arith) (tails _ _ _ _ own) (tails _ _ _ _ round) (λ one. All-tail (λ d. d.alone ≡ true) d ds (alone one)))

-- ---- as they are dealt

dealt_is : (f : ℕ → List ℕ) (ks : List ℕ) → dealt_in (map (λ w. share true (f w) []) ks) ≡ map f ks
dealt_is f [] = refl
dealt_is f (k ∷ ks) = ap (λ l. f k ∷ l) (dealt_is f ks)

parts_are : (f : ℕ → List ℕ) (ks : List ℕ) → map part_of (map (λ w. share true (f w) []) ks) ≡ map untaken (map f ks)
parts_are f [] = refl
parts_are f (k ∷ ks) = ap (λ l. untaken (f k) ∷ l) (parts_are f ks)

by_number : (all : List (List ℕ)) → map untaken all ≡ map (λ k. untaken (get_or all k [])) (range_with_len 0 (length all))
by_number all = fill_by_all (λ k. untaken (get_or all k [])) (map untaken all) (length all) (untaken []) (length-map all untaken) (λ k there. get_or-map untaken all k [] (untaken []) there)

-- each deque as it was filled, then lent to all others, with the others round from it
pub ends_dealt : {V : Type 0} (others : V → List Other) (count workers : ℕ) (old ds : List Share) (os : List V)
    → old ≡ map (λ w. share true (dealt_to count workers w) []) (range_with_len 0 workers)
    → map part_of ds ≡ map part_of old
    → (length old ≡ 1 → ds ≡ old)
    → map (λ o. map (λ p. p.part) (others o)) os ≡ map (others_from (dealt_in old)) (range_with_len 0 (length old))
    → (map (λ (p : Share × V). with_others (part_of p.0) (others p.1)) (zip ds os) ≡ map (parts_from (all_dealt count workers)) (range_with_len 0 workers)) × All (λ (p : Share × V). IsReady p.0 (others p.1)) (zip ds os)
ends_dealt others count workers old ds os made same alone round =
    let f : ℕ → List ℕ = dealt_to count workers in
    let filled : ℕ → Share = λ w. share true (f w) [] in
    let all : List (List ℕ) = all_dealt count workers in
    let known : dealt_in old ≡ all = ap dealt_in made ∙ dealt_is f (range_with_len 0 workers) in
    let many : length all ≡ workers = length-map-range_with_len f 0 workers in
    let before : length old ≡ workers = ap length made ∙ length-map-range_with_len filled 0 workers in
    let after : length ds ≡ length old = same_length ds old same in
    let every : length ds ≡ length all = after ∙ before ∙ sym many in
    let own : map part_of ds ≡ map (λ k. untaken (get_or all k [])) (range_with_len 0 (length ds)) =
    same ∙ ap (map part_of) made ∙ parts_are f (range_with_len 0 workers) ∙ by_number all ∙ ap (λ n. map (λ k. untaken (get_or all k [])) (range_with_len 0 n)) (sym every) in
    let turn : map (λ o. map (λ p. p.part) (others o)) os ≡ map (others_from all) (range_with_len 0 (length ds)) =
    round ∙ ap (λ l. map (others_from l) (range_with_len 0 (length old))) known ∙ ap (λ n. map (others_from all) (range_with_len 0 n)) (sym after) in
    let sole : length all ≡ 1 → All (λ d. d.alone ≡ true) ds = λ one.
    subst (All (λ d. d.alone ≡ true)) (sym (alone (before ∙ sym many ∙ one) ∙ made)) (All-map (λ d. d.alone ≡ true) filled (range_with_len 0 workers) (λ k d _. refl)) in (
      all_parts others all 0 ds os (omega arith) own turn ∙ ap (λ n. map (parts_from all) (range_with_len 0 n)) (every ∙ many),
      all_ready others all 0 ds os (omega arith) own turn sole,
    )

-- ---- the loop over both lists

-- one more of each
pub one_more : {A B C : Type 0} (f : A → C) (g : B → C) (xs xs' : List A) (ys : List B) (x : A) (y : B) → xs' ≡ xs ++ x ∷ [] → map f xs ≡ map g ys → f x ≡ g y → map f xs' ≡ map g (ys ++ y ∷ [])
one_more f g xs xs' ys x y pushed before same = ap (map f) pushed ∙ (map_push f xs x ∙ ((λ i. before i ++ same i ∷ []) ∙ sym (map_push g ys y)))

-- what holds of each holds of this one
pub at_turn : {A : Type 0} (xs : List A) (P : A → Type 0) (k : ℕ) (x : A) → All P xs → (k < length xs) × (x ≡ get_or xs k x) → P x
at_turn xs P k x all turn = subst P (sym turn.1) (all k x turn.0)

-- those that came are all
pub all_came : {A B C : Type 0} (f : A → C) (g : B → C) (xs : List A) (ys all : List B) → map f xs ≡ map g ys → map (λ y. y) ys ≡ all → map f xs ≡ map g all
all_came f g xs ys all before came = before ∙ ap (map g) (sym (map-id ys) ∙ came)

-- ---- what the loops of the dealer add

-- one more deque filled
pub filled_more : (count workers w : ℕ) (ds ds' : List Share) (d : Share) (start end : ℕ)
    → ds ≡ map (λ w. share true (dealt_to count workers w) []) (range_with_len 0 w) → ds' ≡ ds ++ d ∷ []
    → d ≡ share true (range_with_len start (end - start)) [] → start ≡ part_start count workers w → end ≡ part_start count workers (w + 1)
    → ds' ≡ map (λ w. share true (dealt_to count workers w) []) (range_with_len 0 (w + 1))
filled_more count workers w ds ds' d start end before pushed made first next =
    let filled : ℕ → Share = λ w. share true (dealt_to count workers w) [] in
    let here : d ≡ filled w = made ∙ (λ i. share true (range_with_len (first i) (next i - first i)) []) in
    pushed ∙ ((λ i. before i ++ here i ∷ []) ∙ sym (map-range_with_len_more filled 0 w w (omega arith)))

-- the others for one more worker
pub all_more : {V : Type 0} (others : V → List Other) (old ds ds' : List Share) (os os' : List V) (o : V) (w : ℕ)
    → (map part_of ds ≡ map part_of old)
    × (map (λ o. map (λ p. p.part) (others o)) os ≡ map (others_from (dealt_in old)) (range_with_len 0 w))
    × (length old ≡ 1 → ds ≡ old)
    → os' ≡ os ++ o ∷ [] → map part_of ds' ≡ map part_of ds → (length ds ≡ 1 → ds' ≡ ds) → map (λ p. p.part) (others o) ≡ others_from (dealt_in ds) w
    → (map part_of ds' ≡ map part_of old)
    × (map (λ o. map (λ p. p.part) (others o)) os' ≡ map (others_from (dealt_in old)) (range_with_len 0 (w + 1)))
    × (length old ≡ 1 → ds' ≡ old)
all_more {V} others old ds ds' os os' o w before pushed same alone round =
    let seen : V → List Part = λ o. map (λ p. p.part) (others o) in
    let many : length ds ≡ length old = same_length ds old before.0 in (
      same ∙ before.0,
      ap (map seen) pushed
          ∙ (map_push seen os o
          ∙ ((λ i. before.1 i ++ (round ∙ ap (λ l. others_from l w) (same_dealt ds old before.0)) i ∷ [])
          ∙ sym (map-range_with_len_more (others_from (dealt_in old)) 0 w w (omega arith)))),
      λ one. alone (many ∙ one) ∙ before.2 one,
    )

-- one more of the others round from a worker: the deque that was lent is as it was for all ends
pub others_more : (old ds : List Share) (w step i : ℕ) (d new : Share) (others others' : List Other) (o : Other) → 1 ≤ step → step < length old
    → (map part_of ds ≡ map part_of old)
    × (map (λ o. o.part) others ≡ map (part_behind (dealt_in old) w) (range_with_len 1 (step - 1)))
    × (length old ≡ 1 → ds ≡ old)
    → i ≡ (w + step) % length old → i < length old → part_of new ≡ part_of (get_or ds i d) → o.part ≡ untaken (get_or ds i d).dealt → others' ≡ others ++ o ∷ []
    → (map part_of (set ds i new) ≡ map part_of old)
    × (map (λ o. o.part) others' ≡ map (part_behind (dealt_in old) w) (range_with_len 1 (step + 1 - 1)))
    × (length old ≡ 1 → set ds i new ≡ old)
others_more old ds w step i d new others others' o some below before at there same lent pushed =
    let many : length ds ≡ length old = same_length ds old before.0 in
    let dealt : length (dealt_in old) ≡ length old = length-map old (λ d. d.dealt) in (
      still_same ds i d new same ∙ before.0,
      ap (map (λ o. o.part)) pushed
          ∙ round_more (dealt_in old) ds w step i d others o some (same_dealt ds old before.0) (at ∙ ap (λ n. (w + step) % n) (sym dealt)) (let low : i < length ds = omega arith in low) before.1 lent,
      λ one. absurd (omega arith),
    )
