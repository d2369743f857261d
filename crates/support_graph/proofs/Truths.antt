-- Truth values, and tests of lists.
use Rattle.std.proofs.Common.{◌≡◌, ℕ, ◌+◌, ◌<◌, Bool, true, false, ◌&&◌, ◌||◌, not, cond, ◌⊎◌, List, [], ◌∷◌, Ordering, is_eq, refl, sym, ◌∙◌, arith}
use Rattle.std.specs.List.{All, list_any, filter}
use Rattle.std.proofs.lemmas.List.Elements.{All-head, All-tail}

pub true_false : {A : Type 0} → (b : Bool) → b ≡ true → b ≡ false → A
true_false b e f = absurd (let g : true ≡ false = sym e ∙ f in cc)

pub not_true : (b : Bool) → not b ≡ true → b ≡ false
not_true true h = cc
not_true false h = refl

pub not_false : (b : Bool) → not b ≡ false → b ≡ true
not_false true h = refl
not_false false h = cc

pub and_first : (x y : Bool) → (x && y) ≡ true → x ≡ true
and_first true y h = refl
and_first false y h = h

pub and_second : (x y : Bool) → (x && y) ≡ true → y ≡ true
and_second true y h = h
and_second false y h = cc

pub and_both : (x y : Bool) → x ≡ true → y ≡ true → (x && y) ≡ true
and_both true y h k = k
and_both false y h k = h

pub and_comm : (x y : Bool) → (x && y) ≡ (y && x)
and_comm true true = refl
and_comm true false = refl
and_comm false true = refl
and_comm false false = refl

pub and_none : (x : Bool) → (x && false) ≡ false
and_none true = refl
and_none false = refl

pub and_all : (x : Bool) → x ≡ (x && true)
and_all true = refl
and_all false = refl

pub and_or : (x y z : Bool) → (x && (y || z)) ≡ ((x && y) || (x && z))
and_or true y z = refl
and_or false y z = refl

pub or_right : (x y : Bool) → y ≡ true → (x || y) ≡ true
or_right true y h = refl
or_right false y h = h

pub or_none : (x : Bool) → x ≡ (x || false)
or_none true = refl
or_none false = refl

pub or_false : (x y : Bool) → (x || y) ≡ false → (x ≡ false) × (y ≡ false)
or_false true y h = absurd cc
or_false false y h = (refl, h)

-- tests that say the same
pub both : (x y : Bool) → (x ≡ true → y ≡ true) → (y ≡ true → x ≡ true) → x ≡ y
both true y f g = sym (f refl)
both false true f g = g refl
both false false f g = refl

-- the last number below the next one, or an earlier one
pub below_next : (m n : ℕ) → m < n + 1 → (m < n) ⊎ (m ≡ n)
below_next m n h = grind (arith, h)

-- one of a list, by a test

pub any_more : {X : Type 0} (p q : X → Bool) → ((x : X) → p x ≡ true → q x ≡ true) → (xs : List X) → list_any p xs ≡ true → list_any q xs ≡ true
any_more p q h [] e = e
any_more p q h (x ∷ xs) e = go (p x) refl e (any_more p q h xs)
  where
    go : (b : Bool) → p x ≡ b → (b || list_any p xs) ≡ true → (list_any p xs ≡ true → list_any q xs ≡ true) → (q x || list_any q xs) ≡ true
    go true f k g = (λ i. h x f i || list_any q xs)
    go false f k g = or_right (q x) (list_any q xs) (g k)

-- one that passes, and what each that passes with it gives
pub one_passes : {X : Type 0} (P : X → Type 0) (p : X → Bool) (xs : List X) → All P xs → list_any p xs ≡ true → (x : X) × P x × (p x ≡ true) × ((q : X → Bool) → q x ≡ true → list_any q xs ≡ true)
one_passes P p [] good e = cc
one_passes {X} P p (x ∷ xs) good e = go (p x) refl e (one_passes P p xs (All-tail P x xs good))
  where
    go : (b : Bool) → p x ≡ b → (b || list_any p xs) ≡ true
        → (list_any p xs ≡ true → (y : X) × P y × (p y ≡ true) × ((q : X → Bool) → q y ≡ true → list_any q xs ≡ true))
        → (y : X) × P y × (p y ≡ true) × ((q : X → Bool) → q y ≡ true → (q x || list_any q xs) ≡ true)
    go true f k g = (x, All-head P x xs good, f, λ q m i. m i || list_any q xs)
    go false f k g = (let w = g k in (w.0, w.1, w.2, λ q m. or_right (q x) (list_any q xs) (w.3 q m)))

pub some_passes : {X : Type 0} (p : X → Bool) (xs : List X) → list_any p xs ≡ true → (x : X) × (p x ≡ true) × ((q : X → Bool) → q x ≡ true → list_any q xs ≡ true)
some_passes {X} p xs e = (let w = one_passes {X = X} (λ _. Unit {0}) p xs (λ k d h. tt) e in (w.0, w.2, w.3))

-- of those that pass another test
pub filter_any : {X : Type 0} (p q : X → Bool) (xs : List X) → list_any q (filter p xs) ≡ list_any (λ x. p x && q x) xs
filter_any p q [] = refl
filter_any {X} p q (x ∷ xs) = go (p x) (filter_any p q xs)
  where
    go : (b : Bool) → list_any q (filter p xs) ≡ list_any (λ x. p x && q x) xs → list_any q (cond b (x ∷ filter p xs) (filter p xs)) ≡ ((b && q x) || list_any (λ x. p x && q x) xs)
    go true e = λ i. q x || e i
    go false e = e

-- a key of a list, by the order or by a test that says the same
pub any_same : {K : Type 0} (cmp : K → K → Ordering) (same : K → K → Bool) → ((a b : K) → is_eq (cmp a b) ≡ same a b) → (q : K) (keys : List K) → list_any (λ x. is_eq (cmp q x)) keys ≡ list_any (same q) keys
any_same cmp same h q [] = refl
any_same cmp same h q (x ∷ keys) = λ i. h q x i || any_same cmp same h q keys i
