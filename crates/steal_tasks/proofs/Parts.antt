-- The parts that are dealt: one after another they are all the numbers.
use Rattle.std.proofs.Common.{◌≡◌, ℕ, zero, suc, ◌+◌, ◌-◌, ◌*◌, ◌<◌, ◌≤◌, List, [], ◌∷◌, ◌++◌, map, sym, refl, ap, ◌∙◌, subst, arith, add-one, append_assoc, mul-le-mul_right}
use Rattle.std.proofs.Math.Nat.{div-le_of_le-mul, div-mul-le_self, mul-div_cancel_left}
use Rattle.std.specs.List.{range_with_len, concat}
use Rattle.std.proofs.lemmas.List.{append-nil}
use Rattle.std.proofs.lemmas.List.FromFn.{map-range_with_len_more}
use Rattle.std.proofs.lemmas.Nat.{le-div}
use Rattle.steal_tasks.specs.Dealing.{part_start, dealt_to, DealtOnce}

pub range_join : (start n m : ℕ) → range_with_len start n ++ range_with_len (start + n) m ≡ range_with_len start (n + m)
range_join start zero m = let e : start + 0 ≡ start = omega arith in let f : 0 + m ≡ m = omega arith in rw (e, f) refl
range_join start (suc n) m = let e : start + suc n ≡ start + 1 + n = omega arith in let f : suc n + m ≡ suc (n + m) = omega arith in
    rw (e, f) (ap (λ l. start ∷ l) (range_join (start + 1) n m))

-- one number more
pub range_more : (start n next : ℕ) → start + n ≡ next → range_with_len start n ++ next ∷ [] ≡ range_with_len start (n + 1)
range_more start n next e = ap (λ k. range_with_len start n ++ k ∷ []) (sym e) ∙ range_join start n 1

pub start_within : (count workers w : ℕ) → w ≤ workers → part_start count workers w ≤ count
start_within count workers w h = div-le_of_le-mul workers (mul-le-mul_right count h)

pub start_rises : (count workers w : ℕ) → 0 < workers → part_start count workers w ≤ part_start count workers (w + 1)
start_rises count workers w some =
    let below : part_start count workers w * workers ≤ w * count = div-mul-le_self (w * count) workers in
    let more : w * count ≤ (w + 1) * count = mul-le-mul_right count (let h : w ≤ w + 1 = omega arith in h) in
    le-div (part_start count workers w) ((w + 1) * count) workers some (let h : part_start count workers w * workers ≤ (w + 1) * count = omega arith in h)

concat_push : (xss : List (List ℕ)) (xs : List ℕ) → concat (xss ++ xs ∷ []) ≡ concat xss ++ xs
concat_push [] xs = append-nil xs
concat_push (ys ∷ xss) xs = ap (λ l. ys ++ l) (concat_push xss xs) ∙ sym (append_assoc ys (concat xss) xs)

-- the first n parts are the numbers before where the next one begins
first_parts : (count workers n : ℕ) → 0 < workers → concat (map (dealt_to count workers) (range_with_len 0 n)) ≡ range_with_len 0 (part_start count workers n)
first_parts count workers zero some =
    let none : part_start count workers 0 ≤ 0 = div-le_of_le-mul workers (let h : 0 * count ≤ workers * 0 = omega arith in h) in
    let start : part_start count workers 0 ≡ 0 = omega arith in
    rw start refl
first_parts count workers (suc n) some =
    let s : ℕ = part_start count workers n in
    let t : ℕ = part_start count workers (n + 1) in
    let rises : s ≤ t = start_rises count workers n some in
    let next : map (dealt_to count workers) (range_with_len 0 (n + 1)) ≡ map (dealt_to count workers) (range_with_len 0 n) ++ dealt_to count workers n ∷ [] =
    map-range_with_len_more (dealt_to count workers) 0 n n (omega arith) in
    let all : s + (t - s) ≡ t = omega arith in
    let from : 0 + s ≡ s = omega arith in
    subst (λ k. concat (map (dealt_to count workers) (range_with_len 0 k)) ≡ range_with_len 0 (part_start count workers k)) (add-one n) (ap concat next
    ∙ concat_push (map (dealt_to count workers) (range_with_len 0 n)) (dealt_to count workers n)
    ∙ ap (λ l. l ++ range_with_len s (t - s)) (first_parts count workers n some)
    ∙ ap (λ k. range_with_len 0 s ++ range_with_len k (t - s)) (sym from)
    ∙ range_join 0 s (t - s)
    ∙ ap (range_with_len 0) all)

pub dealt_once : DealtOnce
dealt_once count workers some = first_parts count workers workers some ∙ ap (range_with_len 0) (mul-div_cancel_left count some)
