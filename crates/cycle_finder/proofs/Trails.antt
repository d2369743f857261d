-- A trail along the needs, and the loop that it is where the needs lead back.
use Rattle.std.proofs.Common.{◌≡◌, ℕ, zero, suc, ◌+◌, ◌-◌, ◌<◌, ◌≤◌, inl, inr, ⊎_elim, Option, Some, None, option_and_then, [], length, get_or, refl, sym, ap, ◌∙◌, subst, arith}
use Rattle.std.proofs.lemmas.Bool.{cases_lt}
use Rattle.cell_values.specs.declared.address.Addr.{Addr}
use Rattle.demand_spec.specs.Book.{Book, need, follow}
use Rattle.demand_spec.specs.Laws.{In, NeedChain, Distinct, HasPeriod, IsLoop, Unfinished}
use Rattle.demand_spec.proofs.Cycles.{needs_unfinished}
use Rattle.demand_spec.proofs.Loops.{follow_from, follow_then, period_moves}
use Rattle.cycle_finder.specs.Loops.{trail}

-- steps

no_need : (b : Book) (c : Addr) → need b c ≡ None → (n : ℕ) → follow b (suc n) c ≡ None
no_need b c e zero = e
no_need b c e (suc n) = ap (λ o. option_and_then (need b) o) (no_need b c e n)

-- what is followed on needs a cell
record Next (b : Book) (n : ℕ) (c y : Addr) : Type 0 where
  cell : Addr
  needed : need b c ≡ Some cell
  on : follow b n cell ≡ Some y

next_of : (b : Book) (n : ℕ) (c y : Addr) → follow b (suc n) c ≡ Some y → Next b n c y
next_of b n c y h = go (need b c) refl
  where
    go : (o : Option Addr) → need b c ≡ o → Next b n c y
    go (Some x) e = record { cell = x; needed = e; on = sym (follow_from b c x e n) ∙ h }
    go None e = (let k : None ≡ Some y = sym (no_need b c e n) ∙ h in cc)

-- trails

pub trail_none : (b : Book) (n : ℕ) → trail b n None ≡ []
trail_none b zero = refl
trail_none b (suc n) = refl

trail_first : (b : Book) (n : ℕ) (c y : Addr) → follow b n c ≡ Some y → get_or (trail b n (Some c)) 0 y ≡ c
trail_first b zero c y h = cc
trail_first b (suc n) c y h = refl

trail_chain : (b : Book) (n : ℕ) (c y : Addr) → follow b n c ≡ Some y → NeedChain b (trail b n (Some c)) y
trail_chain b zero c y h = tt
trail_chain b (suc n) c y h =
    let x = next_of b n c y h in (
      x.needed ∙ ap Some (sym (ap (λ o. get_or (trail b n o) 0 y) x.needed ∙ trail_first b n x.cell y x.on)),
      subst (λ o. NeedChain b (trail b n o) y) (sym x.needed) (trail_chain b n x.cell y x.on),
    )

pub trail_length : (b : Book) (n : ℕ) (c y : Addr) → follow b n c ≡ Some y → length (trail b n (Some c)) ≡ n
trail_length b zero c y h = refl
trail_length b (suc n) c y h =
    let x = next_of b n c y h in
    ap suc (ap (λ o. length (trail b n o)) x.needed ∙ trail_length b n x.cell y x.on)

-- a trail has the cells that fewer steps lead to
pub trail_has : (b : Book) (n j : ℕ) (c y : Addr) → j < n → follow b j c ≡ Some y → In y (trail b n (Some c))
trail_has b zero j c y l h = absurd (omega arith)
trail_has b (suc n) zero c y l h = inl cc
trail_has b (suc n) (suc j) c y l h =
    let x = next_of b j c y h in
    inr (subst (λ o. In y (trail b n o)) (sym x.needed) (trail_has b n j x.cell y (omega arith) x.on))

pub trail_gives : (b : Book) (n : ℕ) (c y : Addr) → In y (trail b n (Some c)) → (j : ℕ) × (j < n) × (follow b j c ≡ Some y)
trail_gives b zero c y k = absurd k
trail_gives b (suc n) c y (inl e) = (0, omega arith, ap Some (sym e))
trail_gives b (suc n) c y (inr k) = go (need b c) refl k (λ x. trail_gives b n x y)
  where
    go : (o : Option Addr) → need b c ≡ o → In y (trail b n o) → ((x : Addr) → In y (trail b n (Some x)) → (j : ℕ) × (j < n) × (follow b j x ≡ Some y)) → (j : ℕ) × (j < suc n) × (follow b j c ≡ Some y)
    go None e m later = absurd (subst (In y) (trail_none b n) m)
    go (Some x) e m later = (let w = later x m in (suc w.0, omega (arith, w.1), follow_from b c x e w.0 ∙ w.2))

-- the loop

trail_apart : (b : Book) (n : ℕ) (c : Addr) → ((i j : ℕ) (y : Addr) → i < j → j < n → follow b i c ≡ Some y → follow b j c ≡ Some y → ⊥) → Distinct (trail b n (Some c))
trail_apart b zero c h = tt
trail_apart b (suc n) c h = (λ k. again k, go (need b c) refl (trail_apart b n))
  where
    on : (x : Addr) → need b c ≡ Some x → (i j : ℕ) (y : Addr) → i < j → j < n → follow b i x ≡ Some y → follow b j x ≡ Some y → ⊥
    on x e i j y l m p q = h (suc i) (suc j) y (omega arith) (omega arith) (follow_from b c x e i ∙ p) (follow_from b c x e j ∙ q)

    back : (o : Option Addr) → need b c ≡ o → In c (trail b n o) → ⊥
    back None e k = subst (In c) (trail_none b n) k
    back (Some x) e k = (let w = trail_gives b n x c k in h 0 (suc w.0) c (omega arith) (omega (arith, w.1)) refl (follow_from b c x e w.0 ∙ w.2))

    again : In c (trail b n (need b c)) → ⊥
    again k = back (need b c) refl k

    go : (o : Option Addr) → need b c ≡ o → ((x : Addr) → ((i j : ℕ) (y : Addr) → i < j → j < n → follow b i x ≡ Some y → follow b j x ≡ Some y → ⊥) → Distinct (trail b n (Some x))) → Distinct (trail b n o)
    go None e later = subst Distinct (sym (trail_none b n)) tt
    go (Some x) e later = later x (on x e)

-- a cell that two counts of steps lead to is met again too soon
early : (b : Book) (c : Addr) (n : ℕ) → HasPeriod b c n → (i j : ℕ) (y : Addr) → i < j → j < n → follow b i c ≡ Some y → follow b j c ≡ Some y → ⊥
early b c n p i j y l m e f =
    let home : follow b (n - j) y ≡ Some c = sym (follow_then b j c y f (n - j) n (omega arith)) ∙ p.back in
    p.first (n - j + i) (omega arith) (omega arith) (follow_then b i c y e (n - j) (n - j + i) refl ∙ home)

period_unfinished : (b : Book) (c : Addr) (n : ℕ) → HasPeriod b c n → Unfinished b c
period_unfinished b c zero p = absurd (omega (arith, p.some))
period_unfinished b c (suc n) p = (let x = next_of b n c c p.back in needs_unfinished b c x.cell x.needed)

-- where the needs lead back first after so many steps, these are the loop
pub closes : (b : Book) (c : Addr) (n : ℕ) → HasPeriod b c (suc n) → IsLoop b c (trail b n (need b c))
closes b c n p = record {
  unfinished = λ x k. period_unfinished b x (suc n) (moved x k);
  steps = trail_chain b (suc n) c c p.back;
  apart = trail_apart b (suc n) c (early b c (suc n) p);
  period = λ x k. subst (HasPeriod b x) (sym (trail_length b (suc n) c c p.back)) (moved x k);
}
  where
    moved : (x : Addr) → In x (trail b (suc n) (Some c)) → HasPeriod b x (suc n)
    moved x k = (let w = trail_gives b (suc n) c x k in period_moves b c x (suc n) w.0 p w.1 w.2)

-- round and round

pub around : (b : Book) (c : Addr) (n : ℕ) → HasPeriod b c n → (most j : ℕ) (y : Addr) → j ≤ most → follow b j c ≡ Some y → In y (trail b n (Some c))
around b c n p zero j y l h = trail_has b n j c y (omega (arith, p.some)) h
around b c n p (suc most) j y l h = ⊎_elim
    (λ (m : j < n). trail_has b n j c y m h)
    (λ (m : n ≤ j). around b c n p most (j - n) y (omega (arith, p.some)) (sym (follow_then b n c c p.back (j - n) j (omega arith)) ∙ h))
    (cases_lt j n)

pub met_again : (b : Book) (c : Addr) (n : ℕ) → HasPeriod b c n → (x : Addr) → In x (trail b n (Some c)) → In c (trail b n (Some x))
met_again b c n p x k =
    let w = trail_gives b n c x k in
    let q : HasPeriod b x n = period_moves b c x n w.0 p w.1 w.2 in
    around b x n q (n - w.0) (n - w.0) c (omega arith) (sym (follow_then b w.0 c x w.2 (n - w.0) n (omega (arith, w.1))) ∙ p.back)

pub met_on : (b : Book) (c : Addr) (n : ℕ) → HasPeriod b c n → (x y : Addr) → In x (trail b n (Some c)) → In y (trail b n (Some x)) → In y (trail b n (Some c))
met_on b c n p x y k m =
    let v = trail_gives b n c x k in
    let w = trail_gives b n x y m in
    around b c n p (w.0 + v.0) (w.0 + v.0) y (omega arith) (follow_then b v.0 c x v.2 w.0 (w.0 + v.0) refl ∙ w.2)

pub met_period : (b : Book) (c : Addr) (n : ℕ) → HasPeriod b c n → (x : Addr) → In x (trail b n (Some c)) → HasPeriod b x n
met_period b c n p x k = (let w = trail_gives b n c x k in period_moves b c x n w.0 p w.1 w.2)
