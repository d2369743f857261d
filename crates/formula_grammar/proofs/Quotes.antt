-- How the double quotes of a text are doubled.
use Rattle.std.proofs.Common.{◌≡◌, ℕ, suc, ◌+◌, ◌<◌, Bool, true, false, cond, not, eqb, List, [], ◌∷◌, ◌++◌, length, take, drop, Option, Some, None, Result, Ok, Err, Bor, refl, ap, sym, ◌∙◌, subst, arith}
use Rattle.std.specs.Prelude.{OnOk}
use Rattle.std.specs.Option.{MatchOption}
use Rattle.std.specs.List.{position_or_len, before_first, after_first}
use Rattle.std.proofs.lemmas.Str.Pattern.{IsSplitOnceResult, split_once_first}
use Rattle.std.proofs.Common.{lit<, is_ok}
use Rattle.std.proofs.lemmas.List.{append_assoc}
use Rattle.formula_tokens.specs.Spelling.{doubled}

abbrev pub is_quote : ℕ → Bool
is_quote b = eqb b 34

-- the same list with its first part cut off at the first quote
pub record Splits (bs : List ℕ) (n : ℕ) : Type 0 where
  pub found : n < length bs → doubled bs ≡ take n bs ++ (34 ∷ 34 ∷ doubled (drop (n + 1) bs))
  pub missing : n ≡ length bs → doubled bs ≡ bs

one_more : (b : ℕ) (bs : List ℕ) (c : Bool) → is_quote b ≡ c → doubled (b ∷ bs) ≡ cond c (34 ∷ 34 ∷ []) (b ∷ []) ++ doubled bs
one_more b bs c e = ap (λ t. cond t (34 ∷ 34 ∷ []) (b ∷ []) ++ doubled bs) e

after : (n : ℕ) → n + 1 ≡ suc n
after n = omega arith

behind : (n : ℕ) → suc n + 1 ≡ suc (suc n)
behind n = omega arith

splits_step : (b : ℕ) (bs : List ℕ) (c : Bool) → is_quote b ≡ c → Splits bs (position_or_len is_quote bs) → Splits (b ∷ bs) (cond (not c) (suc (position_or_len is_quote bs)) 0)
splits_step b bs true e h = record { found = λ p. one_more b bs true e; missing = λ p. absurd (omega (arith, p)) }
splits_step b bs false e h = record {
  found = λ p.
      let n : ℕ = position_or_len is_quote bs in
      one_more b bs false e ∙ ap (λ rest. b ∷ rest) (h.found (omega (arith, p)) ∙ ap (λ k. take n bs ++ (34 ∷ 34 ∷ doubled (drop k bs))) (after n)) ∙ ap (λ k. b ∷ (take n bs ++ (34 ∷ 34 ∷ doubled (drop k (b ∷ bs))))) (sym (behind n));
  missing = λ p. one_more b bs false e ∙ ap (λ rest. b ∷ rest) (h.missing (omega (arith, p)));
}

one : (n : ℕ) → suc n ≡ 1 + n
one n = omega arith

pub splits : (bs : List ℕ) → Splits bs (position_or_len is_quote bs)
splits [] = record { found = λ p. absurd (omega (arith, p)); missing = λ p. refl }
splits (b ∷ bs) = subst (λ k. Splits (b ∷ bs) (cond (not (is_quote b)) k 0)) (one (position_or_len is_quote bs)) (splits_step b bs (is_quote b) refl (splits bs))

-- the parts round the first quote
pub doubled_parts : (text : List ℕ) (r : Option (Bor (List ℕ) × Bor (List ℕ))) → IsSplitOnceResult 34 text r → MatchOption r (doubled text ≡ text) (λ x. doubled text ≡ x.0.now ++ (34 ∷ 34 ∷ doubled x.1.now))
doubled_parts text r h = told r (split_once_first 34 text r h (lit< tt))
  where
    told : (r : Option (Bor (List ℕ) × Bor (List ℕ))) → MatchOption r (position_or_len is_quote text ≡ length text) (λ x. (position_or_len is_quote text < length text) × (x.0.now ≡ before_first is_quote text) × (x.1.now ≡ after_first is_quote text)) → MatchOption r (doubled text ≡ text) (λ x. doubled text ≡ x.0.now ++ (34 ∷ 34 ∷ doubled x.1.now))
    told None m = (splits text).missing m
    told (Some x) m = (splits text).found m.0 ∙ (λ i. sym m.1 i ++ (34 ∷ 34 ∷ doubled (sym m.2 i)))

pub pushed_last : {T E : Type 0} (r : Result T E) (was now text d : List ℕ) → d ≡ text → now ≡ cond (is_ok r) (was ++ text) was → OnOk r (now ≡ was ++ d)
pushed_last (Ok x) was now text d e p = p ∙ ap (λ z. was ++ z) (sym e)
pushed_last (Err x) was now text d e p = tt

pub pushed_parts : {T E : Type 0} (r : Result T E) (was first second now before rest d : List ℕ) → d ≡ before ++ (34 ∷ 34 ∷ rest) → first ≡ was ++ before → second ≡ first ++ (34 ∷ 34 ∷ []) → OnOk r (now ≡ second ++ rest) → OnOk r (now ≡ was ++ d)
pushed_parts (Ok x) was first second now before rest d e p q h = h ∙ ap (λ z. z ++ rest) (q ∙ ap (λ z. z ++ (34 ∷ 34 ∷ [])) p) ∙ append_assoc (was ++ before) (34 ∷ 34 ∷ []) rest ∙ append_assoc was before (34 ∷ 34 ∷ rest) ∙ ap (λ z. was ++ z) (sym e)
pushed_parts (Err x) was first second now before rest d e p q h = tt
