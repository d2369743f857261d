-- Lists over the first numbers, one number more at a time.
use Rattle.std.proofs.Common.{◌≡◌, ℕ, zero, suc, ◌+◌, ◌-◌, ◌<◌, List, [], ◌∷◌, ◌++◌, map, ap, ◌∙◌, arith}
use Rattle.std.specs.List.{flat_map}
use Rattle.std.proofs.lemmas.List.{append-nil, map-append}
use Rattle.std.proofs.lemmas.List.Concat.{flat_map-append}
use Rattle.cell_values.specs.Areas.{numbers_from}

numbers_split : (first n m : ℕ) → numbers_from first (n + m) ≡ numbers_from first n ++ numbers_from (first + n) m
numbers_split first zero m =
    let e : 0 + m ≡ m = omega arith in
    let f : first ≡ first + 0 = omega arith in
    ap (numbers_from first) e ∙ ap (λ k. numbers_from k m) f
numbers_split first (suc n) m =
    let e : suc n + m ≡ suc (n + m) = omega arith in
    let f : suc first + n ≡ first + suc n = omega arith in
    ap (numbers_from first) e ∙ ap (λ r. first ∷ r) (numbers_split (suc first) n m ∙ ap (λ k. numbers_from (suc first) n ++ numbers_from k m) f)

-- one more
pub numbers_more : (n : ℕ) → numbers_from 1 (n + 1) ≡ numbers_from 1 n ++ (n + 1) ∷ []
numbers_more n = (let e : 1 + n ≡ n + 1 = omega arith in numbers_split 1 n 1 ∙ ap (λ k. numbers_from 1 n ++ k ∷ []) e)

-- the first ones, the next one and the others
pub numbers_cut : (n m : ℕ) → n < m → numbers_from 1 m ≡ numbers_from 1 n ++ (n + 1) ∷ numbers_from (suc (n + 1)) (m - suc n)
numbers_cut n m h =
    let e : m ≡ n + suc (m - suc n) = omega arith in
    let f : 1 + n ≡ n + 1 = omega arith in
    ap (numbers_from 1) e ∙ numbers_split 1 n (suc (m - suc n)) ∙ ap (λ k. numbers_from 1 n ++ k ∷ numbers_from (suc k) (m - suc n)) f

module _ {A : Type 0} (f : ℕ → A) where
  pub mapped_more : (n : ℕ) → map f (numbers_from 1 (n + 1)) ≡ map f (numbers_from 1 n) ++ f (n + 1) ∷ []
  mapped_more n = ap (map f) (numbers_more n) ∙ map-append f (numbers_from 1 n) ((n + 1) ∷ [])

  pub mapped_cut : (n m : ℕ) → n < m → (rest : List A) × (map f (numbers_from 1 m) ≡ map f (numbers_from 1 n) ++ (f (n + 1) ∷ [] ++ rest))
  mapped_cut n m h = (map f (numbers_from (suc (n + 1)) (m - suc n)), ap (map f) (numbers_cut n m h) ∙ map-append f (numbers_from 1 n) ((n + 1) ∷ numbers_from (suc (n + 1)) (m - suc n)))

module _ {A : Type 0} (f : ℕ → List A) where
  pub joined_more : (n : ℕ) → flat_map f (numbers_from 1 (n + 1)) ≡ flat_map f (numbers_from 1 n) ++ f (n + 1)
  joined_more n = ap (flat_map f) (numbers_more n) ∙ flat_map-append f (numbers_from 1 n) ((n + 1) ∷ []) ∙ ap (λ r. flat_map f (numbers_from 1 n) ++ r) (append-nil (f (n + 1)))

  pub joined_cut : (n m : ℕ) → n < m → (rest : List A) × (flat_map f (numbers_from 1 m) ≡ flat_map f (numbers_from 1 n) ++ (f (n + 1) ++ rest))
  joined_cut n m h = (flat_map f (numbers_from (suc (n + 1)) (m - suc n)), ap (flat_map f) (numbers_cut n m h) ∙ flat_map-append f (numbers_from 1 n) ((n + 1) ∷ numbers_from (suc (n + 1)) (m - suc n)))
