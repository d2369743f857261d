-- The search for a cell that is not known.
use Rattle.std.proofs.Common.{◌≡◌, ℕ, zero, suc, ◌+◌, ◌-◌, ◌<◌, ◌≤◌, ◌⊎◌, inl, inr, ⊎_elim, [], ◌∷◌, length, get_or, drop, drop-cons, refl, sym, ap, ◌∙◌, subst, Option, Some, None, IsSome, arith}
use Rattle.std.specs.Option.{option_or}
use Rattle.std.proofs.lemmas.List.{length-drop}
use Rattle.cell_values.specs.declared.values.Shown.{Shown}
use Rattle.worker_machine.specs.Evaluation.{first_unknown, first_from}
use Rattle.worker_machine.proofs.Numbers.{KnownList}
use Rattle.demand_stack.specs.Kept.{AreKnown, IsNextUnknown}

-- none are passed yet
pub known_here : (k : KnownList) (a : ℕ) → a ≤ length k → AreKnown k a a
known_here k a l = record { order = omega arith; within = l; each = λ i low high. absurd (omega arith) }

-- one more is passed
pub known_more : (k : KnownList) (a b : ℕ) → AreKnown k a b → b < length k → IsSome (get_or k b None) → AreKnown k a (b + 1)
known_more k a b h l s = record {
  order = (let o = h.order in omega arith);
  within = omega arith;
  each = λ i low high. go i low high (last i b (omega arith));
}
  where
    last : (i b : ℕ) → i ≤ b → (i < b) ⊎ (i ≡ b)
    last i b l = grind (arith, l)

    go : (i : ℕ) → a ≤ i → i < b + 1 → (i < b) ⊎ (i ≡ b) → IsSome (get_or k i None)
    go i low high (inl m) = h.each i low m
    go i low high (inr e) = subst (λ z. IsSome (get_or k z None)) (sym e) s

-- one stretch after another
pub known_both : (k : KnownList) (a b c : ℕ) → AreKnown k a b → AreKnown k b c → AreKnown k a c
known_both k a b c h g = record {
  order = (let x = h.order in let y = g.order in omega arith);
  within = g.within;
  each = λ i low high. ⊎_elim (λ (l : i < b). h.each i low l) (λ (l : b ≤ i). g.each i l high) (sides i);
}
  where
    sides : (i : ℕ) → (i < b) ⊎ (b ≤ i)
    sides i = grind arith

pub seen_next : (k : KnownList) (a n : ℕ) → AreKnown k a n → (n < length k → get_or k n None ≡ None) → IsNextUnknown k a n
seen_next k a n h u = record { passed = h; unknown = u }

pub next_from : (k : KnownList) (a b n : ℕ) → AreKnown k a b → IsNextUnknown k b n → IsNextUnknown k a n
next_from k a b n h g = record { passed = known_both k a b n h g.passed; unknown = g.unknown }

some_or_none : (o : Option Shown) → IsSome o → (r : Shown) × (o ≡ Some r)
some_or_none (Some r) h = (r, refl)
some_or_none None h = cc

-- what is found so, at so many steps
steps_find : (k : KnownList) (d f n : ℕ) → n ≡ f + d → IsNextUnknown k f n → n < length k → first_unknown (drop f k) f ≡ Some n
steps_find k zero f n e h l =
    let at : n ≡ f = omega arith in
    let none : get_or k f None ≡ None = subst (λ z. get_or k z None ≡ None) at (h.unknown l) in
    ap (λ z. first_unknown z f) (drop-cons k f None (omega arith)) ∙ ap (λ o. first_unknown (o ∷ drop (suc f) k) f) none ∙ ap Some (sym at)
steps_find k (suc d) f n e h l =
    let s = some_or_none (get_or k f None) (h.passed.each f (omega arith) (omega arith)) in
    let rest : IsNextUnknown k (suc f) n = record { passed = record { order = omega arith; within = h.passed.within; each = λ i low high. h.passed.each i (omega arith) high }; unknown = h.unknown } in
    ap (λ z. first_unknown z f) (drop-cons k f None (omega arith)) ∙ ap (λ o. first_unknown (o ∷ drop (suc f) k) f) s.1 ∙ steps_find k d (suc f) n (omega arith) rest l

steps_miss : (k : KnownList) (d f n : ℕ) → n ≡ f + d → IsNextUnknown k f n → length k ≤ n → first_unknown (drop f k) f ≡ None
steps_miss k zero f n e h l = go (drop f k) (let z = length-drop f k in omega arith)
  where
    go : (ys : KnownList) → length ys ≡ 0 → first_unknown ys f ≡ None
    go [] q = refl
    go (y ∷ ys) q = absurd (omega arith)
steps_miss k (suc d) f n e h l =
    let w = h.passed.within in
    let s = some_or_none (get_or k f None) (h.passed.each f (omega arith) (omega arith)) in
    let rest : IsNextUnknown k (suc f) n = record { passed = record { order = omega arith; within = h.passed.within; each = λ i low high. h.passed.each i (omega arith) high }; unknown = h.unknown } in
    ap (λ z. first_unknown z f) (drop-cons k f None (omega arith)) ∙ ap (λ o. first_unknown (o ∷ drop (suc f) k) f) s.1 ∙ steps_miss k d (suc f) n (omega arith) rest l

find : (k : KnownList) (f n : ℕ) → IsNextUnknown k f n → n < length k → first_unknown (drop f k) f ≡ Some n
find k f n h l = (let o = h.passed.order in steps_find k (n - f) f n (omega arith) h l)

miss : (k : KnownList) (f n : ℕ) → IsNextUnknown k f n → length k ≤ n → first_unknown (drop f k) f ≡ None
miss k f n h l = (let o = h.passed.order in steps_miss k (n - f) f n (omega arith) h l)

pub found_ahead : (k : KnownList) (f n : ℕ) → IsNextUnknown k f n → n < length k → Some n ≡ first_from k f
found_ahead k f n h l = ap (λ o. option_or o (first_unknown k 0)) (sym (find k f n h l))

pub found_behind : (k : KnownList) (f n m : ℕ) → IsNextUnknown k f n → length k ≤ n → IsNextUnknown k 0 m → m < length k → Some m ≡ first_from k f
found_behind k f n m h l g low = sym (find k 0 m g low) ∙ ap (λ o. option_or o (first_unknown k 0)) (sym (miss k f n h l))

pub found_none : (k : KnownList) (f n m : ℕ) → IsNextUnknown k f n → length k ≤ n → IsNextUnknown k 0 m → length k ≤ m → None ≡ first_from k f
found_none k f n m h l g low = sym (miss k 0 m g low) ∙ ap (λ o. option_or o (first_unknown k 0)) (sym (miss k f n h l))
