-- A list of results, one changed.
use Rattle.std.proofs.Common.{◌≡◌, ◌≢◌, ℕ, zero, suc, ◌+◌, ◌<◌, ◌≤◌, ⊎_elim, Option, Some, None, List, [], ◌∷◌, ◌++◌, length, get_or, set, replicate, refl, sym, ap, ◌∙◌, subst, arith}
use Rattle.std.proofs.lemmas.Bool.{cases_eq}
use Rattle.std.proofs.lemmas.List.{length-set, length-map, length-append, map-set, get_or-set_same, get_or-set_other, get_or_append_left}
use Rattle.cell_values.specs.declared.short.ShortText.{ShortText}
use Rattle.cell_values.specs.declared.values.Value.{Value}
use Rattle.cell_values.specs.declared.values.Shown.{Shown}
use Rattle.result_list.specs.declared.list.Kept.{Kept}
use Rattle.result_list.specs.Lists.{no_text, result_of, results_of, IsWithin, known_count, IsRoomy}

-- all are within these texts
abbrev pub AllWithin : ℕ → List Kept → Type 0
AllWithin n ks = (i : ℕ) → IsWithin n (get_or ks i Kept.Unknown)

-- texts behind the others change nothing

result_longer : (ts more : List ShortText) (k : Kept) → IsWithin (length ts) k → result_of (ts ++ more) k ≡ result_of ts k
result_longer ts more Kept.Unknown w = refl
result_longer ts more (Kept.Number n) w = refl
result_longer ts more (Kept.Text t) w = refl
result_longer ts more (Kept.Short j) w = ap (λ (t : ShortText). Some (Shown.Val (Value.Short t))) (get_or_append_left ts more no_text j w)
result_longer ts more (Kept.Bool b) w = refl
result_longer ts more Kept.Blank w = refl
result_longer ts more (Kept.Error c) w = refl
result_longer ts more (Kept.Cycle n) w = refl
result_longer ts more Kept.ToCycle w = refl

results_longer : (ts more : List ShortText) (ks : List Kept) → AllWithin (length ts) ks → results_of (ts ++ more) ks ≡ results_of ts ks
results_longer ts more [] w = refl
results_longer ts more (k ∷ ks) w =
    let first = result_longer ts more k (w 0) in
    let rest = results_longer ts more ks (λ i. w (suc i)) in
    λ i. first i ∷ rest i

within_more : (n m : ℕ) (k : Kept) → n ≤ m → IsWithin n k → IsWithin m k
within_more n m Kept.Unknown l w = tt
within_more n m (Kept.Number z) l w = tt
within_more n m (Kept.Text t) l w = tt
within_more n m (Kept.Short j) l w = omega arith
within_more n m (Kept.Bool b) l w = tt
within_more n m Kept.Blank l w = tt
within_more n m (Kept.Error c) l w = tt
within_more n m (Kept.Cycle c) l w = tt
within_more n m Kept.ToCycle l w = tt

within_set : (n m : ℕ) (ks : List Kept) (i : ℕ) (k : Kept) → n ≤ m → i < length ks → AllWithin n ks → IsWithin m k → AllWithin m (set ks i k)
within_set n m ks i k l there w here j = ⊎_elim
    (λ (e : j ≡ i). subst (λ z. IsWithin m (get_or (set ks i k) z Kept.Unknown)) (sym e) (subst (IsWithin m) (sym (get_or-set_same ks i k Kept.Unknown there)) here))
    (λ (d : j ≢ i). subst (IsWithin m) (sym (get_or-set_other ks i j k Kept.Unknown d)) (within_more n m (get_or ks j Kept.Unknown) l (w j)))
    (cases_eq j i)

-- how many are known

count_learnt : (xs : List (Option Shown)) (i : ℕ) (r : Shown) → i < length xs → get_or xs i None ≡ None → known_count (set xs i (Some r)) ≡ suc (known_count xs)
count_learnt [] i r l e = absurd (omega arith)
count_learnt (None ∷ xs) zero r l e = refl
count_learnt (Some s ∷ xs) zero r l e = cc
count_learnt (None ∷ xs) (suc i) r l e = count_learnt xs i r (omega arith) e
count_learnt (Some s ∷ xs) (suc i) r l e = ap suc (count_learnt xs i r (omega arith) e)

count_marked : (xs : List (Option Shown)) (i : ℕ) (r : Shown) → known_count xs ≤ known_count (set xs i (Some r))
count_marked [] i r = omega arith
count_marked (None ∷ xs) zero r = omega arith
count_marked (Some s ∷ xs) zero r = omega arith
count_marked (None ∷ xs) (suc i) r = count_marked xs i r
count_marked (Some s ∷ xs) (suc i) r = (let h = count_marked xs i r in omega arith)

count_most : (xs : List (Option Shown)) → known_count xs ≤ length xs
count_most [] = omega arith
count_most (None ∷ xs) = (let h = count_most xs in omega arith)
count_most (Some s ∷ xs) = (let h = count_most xs in omega arith)

count_low : (xs : List (Option Shown)) (i : ℕ) → i < length xs → get_or xs i None ≡ None → known_count xs < length xs
count_low [] i l e = absurd (omega arith)
count_low (None ∷ xs) zero l e = (let h = count_most xs in omega arith)
count_low (Some s ∷ xs) zero l e = cc
count_low (None ∷ xs) (suc i) l e = (let h = count_low xs i (omega arith) e in omega arith)
count_low (Some s ∷ xs) (suc i) l e = (let h = count_low xs i (omega arith) e in omega arith)

-- there is room for a text more
pub room_for_text : (ks : List Kept) (ts : List ShortText) (room i : ℕ) → IsRoomy ks ts room → i < length ks → get_or (results_of ts ks) i None ≡ None → length ts < room
room_for_text ks ts room i h l e =
    let long = length-map ks (result_of ts) in
    let low = count_low (results_of ts ks) i (omega arith) e in
    let few = h.few in
    let fits = h.fits in
    omega arith

-- the result of a cell that was not known

pub learnt_is : (ks : List Kept) (ts ts' more : List ShortText) (room i : ℕ) (k : Kept) (r : Shown) → IsRoomy ks ts room → result_of ts' k ≡ Some r → ts' ≡ ts ++ more → results_of ts' (set ks i k) ≡ set (results_of ts ks) i (Some r)
learnt_is ks ts ts' more room i k r h e q =
    let rest : results_of ts' ks ≡ results_of ts ks = ap (λ z. results_of z ks) q ∙ results_longer ts more ks h.within in
    map-set (result_of ts') ks i k ∙ (λ j. set (rest j) i (e j))

pub learnt_roomy : (ks : List Kept) (ts ts' more : List ShortText) (room room' i : ℕ) (k : Kept) (r : Shown) → IsRoomy ks ts room → i < length ks → get_or (results_of ts ks) i None ≡ None → result_of ts' k ≡ Some r → IsWithin (length ts') k
    → ts' ≡ ts ++ more → length more ≤ 1 → room' ≡ room → IsRoomy (set ks i k) ts' room'
learnt_roomy ks ts ts' more room room' i k r h l u e w q one same =
    let long : length ts' ≡ length ts + length more = ap length q ∙ length-append ts more in
    let size = length-map ks (result_of ts) in
    let count : known_count (results_of ts' (set ks i k)) ≡ suc (known_count (results_of ts ks)) = ap known_count (learnt_is ks ts ts' more room i k r h e q) ∙ count_learnt (results_of ts ks) i r (omega arith) u in
    let few = h.few in
    let fits = h.fits in
    let still = length-set ks i k in
    record {
      within = within_set (length ts) (length ts') ks i k (omega arith) l h.within w;
      few = omega arith;
      fits = omega arith;
    }

-- a cell of a cycle

pub marked_is : (ks : List Kept) (ts : List ShortText) (i n : ℕ) → results_of ts (set ks i (Kept.Cycle n)) ≡ set (results_of ts ks) i (Some (Shown.Cycle n))
marked_is ks ts i n = map-set (result_of ts) ks i (Kept.Cycle n)

pub marked_roomy : (ks : List Kept) (ts : List ShortText) (room i n : ℕ) → IsRoomy ks ts room → i < length ks → IsRoomy (set ks i (Kept.Cycle n)) ts room
marked_roomy ks ts room i n h l =
    let more = count_marked (results_of ts ks) i (Shown.Cycle n) in
    let same = ap known_count (marked_is ks ts i n) in
    let few = h.few in
    let fits = h.fits in
    let still = length-set ks i (Kept.Cycle n) in
    record {
      within = within_set (length ts) (length ts) ks i (Kept.Cycle n) (omega arith) l h.within tt;
      few = omega arith;
      fits = omega arith;
    }

-- nothing is known
pub unknown_is : (ts : List ShortText) (ks : List Kept) (n : ℕ) → ks ≡ replicate n Kept.Unknown → results_of ts ks ≡ replicate n None
unknown_is ts ks n e = ap (results_of ts) e ∙ go n
  where
    go : (n : ℕ) → results_of ts (replicate n Kept.Unknown) ≡ replicate n None
    go zero = refl
    go (suc n) = ap (λ z. None ∷ z) (go n)
