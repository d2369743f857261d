-- Fewer numbers than there are workers leave a worker out.
use Rattle.std.proofs.Common.{◌≡◌, ℕ, zero, suc, ◌<◌, ◌≤◌, Bool, true, false, cond, ◌==◌, ◌||◌, List, [], ◌∷◌, length, refl, arith}
use Rattle.std.proofs.lemmas.Bool.Decides.{nat_tests}
use Rattle.parallel_evaluation.specs.Order.{is_stopped}

-- the list without a number
abbrev without : ℕ → List ℕ → List ℕ
without w [] = []
without w (x ∷ xs) = cond (x == w) (without w xs) (x ∷ without w xs)

kept_or_not : (b : Bool) (x n : ℕ) (xs : List ℕ) → length xs ≤ n → length (cond b xs (x ∷ xs)) ≤ suc n
kept_or_not true x n xs h = omega arith
kept_or_not false x n xs h = omega arith

no_longer : (w : ℕ) (xs : List ℕ) → length (without w xs) ≤ length xs
no_longer w [] = omega arith
no_longer w (x ∷ xs) = kept_or_not (x == w) x (length xs) (without w xs) (no_longer w xs)

found_or_later : (b later : Bool) (x n : ℕ) (xs : List ℕ) → length xs ≤ n → (later ≡ true → suc (length xs) ≤ n) → b || later ≡ true → suc (length (cond b xs (x ∷ xs))) ≤ suc n
found_or_later true later x n xs h g e = omega arith
found_or_later false later x n xs h g e = let k = g e in omega arith

shorter : (w : ℕ) (xs : List ℕ) → is_stopped xs w ≡ true → suc (length (without w xs)) ≤ length xs
shorter w [] e = absurd (cc)
shorter w (x ∷ xs) e = found_or_later (x == w) (is_stopped xs w) x (length xs) (without w xs) (no_longer w xs) (shorter w xs) e

or_later : (a b : Bool) → a ≡ false → a || b ≡ true → b ≡ true
or_later true b h e = absurd (cc)
or_later false b h e = e

or_still : (a b c : Bool) → (b ≡ true → c ≡ true) → a || b ≡ true → a || c ≡ true
or_still true b c h e = refl
or_still false b c h e = h e

apart : (w k x : ℕ) → k < w → (x == w) ≡ true → (x == k) ≡ false
apart w k x low e = grind (arith, nat_tests)

stays_by : (w k x : ℕ) (xs : List ℕ) (a : Bool) → (a ≡ true → (x == k) ≡ false) → (is_stopped xs k ≡ true → is_stopped (without w xs) k ≡ true)
    → (x == k) || is_stopped xs k ≡ true → is_stopped (cond a (without w xs) (x ∷ without w xs)) k ≡ true
stays_by w k x xs true other later e = later (or_later (x == k) (is_stopped xs k) (other refl) e)
stays_by w k x xs false other later e = or_still (x == k) (is_stopped xs k) (is_stopped (without w xs) k) later e

others_there : (w k : ℕ) (xs : List ℕ) → k < w → is_stopped xs k ≡ true → is_stopped (without w xs) k ≡ true
others_there w k [] low e = e
others_there w k (x ∷ xs) low e = stays_by w k x xs (x == w) (apart w k x low) (others_there w k xs low) e

-- where all workers below n are stopped, n numbers at least are given
pub all_stopped : (n : ℕ) (xs : List ℕ) → ((k : ℕ) → k < n → is_stopped xs k ≡ true) → n ≤ length xs
all_stopped zero xs h = omega arith
all_stopped (suc n) xs h =
    let rest = all_stopped n (without n xs) (λ k low. others_there n k xs low (h k (omega arith))) in
    let less = shorter n xs (h n (omega arith)) in omega arith
