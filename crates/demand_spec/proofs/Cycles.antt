-- What the test for a loop finds, and what a cell on one shows.
use Rattle.std.proofs.Common.{◌≡◌, ◌≢◌, ℕ, zero, suc, ◌<◌, ◌≤◌, Bool, true, false, cond, ◌⊎◌, inl, inr, ⊎_elim, List, [], ◌∷◌, length, get_or, refl, sym, ap, ◌∙◌, subst, Option, Some, None, option_and_then, arith}
use Rattle.std.specs.Option.{option_or}
use Rattle.std.proofs.lemmas.Bool.{cases_Bool, cases_eq}
use Rattle.std.proofs.lemmas.List.{get_or_past}
use Rattle.cell_values.specs.declared.address.Addr.{Addr}
use Rattle.cell_values.specs.declared.values.Shown.{Shown}
use Rattle.cell_values.specs.declared.values.Value.{Value}
use Rattle.cell_values.specs.Addresses.{same_addr}
use Rattle.cell_values.proofs.Order.{same_addr-true, same_addr-refl}
use Rattle.formula_trees.specs.Expr.{Expr}
use Rattle.demand_spec.specs.declared.Asked.{Asked}
use Rattle.demand_spec.specs.declared.Asked.TheVariants.{Val, Needs}
use Rattle.demand_spec.specs.Book.{Book, Known, formula_at, own, ask_formula, ask_cell, cell_needed, value_given, formulas, finished, need, follow, is_at, period, shown, shown_from}
use Rattle.demand_spec.specs.Laws.{In, Unfinished, NeedChain, Distinct, HasPeriod, OnLoop, LoopsAreFound, CyclesShow, LoopShows, OthersLead, ValuesShow}
use Rattle.demand_spec.proofs.Rounds.{in_formulas, finished_again}
use Rattle.demand_spec.proofs.Loops.{follow_from, chain_follow}

-- distinct cells that all stand in a list are no more than the list

same_or_not : (a b : Addr) → (a ≡ b) ⊎ (a ≡ b → ⊥)
same_or_not a b = ⊎_elim (λ (e : same_addr a b ≡ true). inl (same_addr-true a b e)) (λ (e : same_addr a b ≡ false). inr (λ q. let r = subst (λ z. same_addr a z ≡ true) q (same_addr-refl a) in cc)) (cases_Bool (same_addr a b))

pub in_or_not : (a : Addr) (cs : List Addr) → In a cs ⊎ (In a cs → ⊥)
in_or_not a [] = inr (λ k. k)
in_or_not a (c ∷ cs) = ⊎_elim (λ e. inl (inl e)) (λ (n : a ≡ c → ⊥). ⊎_elim (λ k. inl (inr k)) (λ (m : In a cs → ⊥). inr (⊎_elim n m)) (in_or_not a cs)) (same_or_not a c)

-- a list in which x stands, without x there
record Without (x : Addr) (ys : List Addr) : Type 0 where
  left : List Addr
  shorter : length ys ≡ suc (length left)
  still : (c : Addr) → In c ys → (c ≡ x → ⊥) → In c left

without : (x : Addr) (ys : List Addr) → In x ys → Without x ys
without x [] k = absurd k
without x (y ∷ ys) (inl e) = record { left = ys; shorter = refl; still = λ c k n. ⊎_elim (λ (d : c ≡ y). absurd (n (d ∙ sym e))) (λ m. m) k }
without x (y ∷ ys) (inr k) =
    let w = without x ys k in
    record { left = y ∷ w.left; shorter = ap suc w.shorter; still = λ c m n. ⊎_elim (λ d. inl d) (λ q. inr (w.still c q n)) m }

-- distinct addresses, each one of another list, are no more than that list has
pub no_more : (xs ys : List Addr) → Distinct xs → ((c : Addr) → In c xs → In c ys) → length xs ≤ length ys
no_more [] ys d h = omega arith
no_more (x ∷ xs) ys d h =
    let w = without x ys (h x (inl refl)) in
    let rest : length xs ≤ length w.left = no_more xs w.left d.1 (λ c k. w.still c (h c (inr k)) (λ e. d.0 (subst (λ z. In z xs) e k))) in
    omega (arith, w.shorter, rest)

-- a way along `need` without a cell twice

record SimpleWay (b : Book) (s y : Addr) : Type 0 where
  rest : List Addr
  steps : NeedChain b (s ∷ rest) y
  apart : Distinct (s ∷ rest)

from_at : (b : Book) (s : Addr) (ds : List Addr) (y : Addr) → In s ds → NeedChain b ds y → Distinct ds → SimpleWay b s y
from_at b s [] y k h d = absurd k
from_at b s (x ∷ ds) y (inl e) h d = record { rest = ds; steps = subst (λ z. NeedChain b (z ∷ ds) y) (sym e) h; apart = subst (λ z. Distinct (z ∷ ds)) (sym e) d }
from_at b s (x ∷ ds) y (inr k) h d = from_at b s ds y k h.1 d.1

simple_way : (b : Book) (s : Addr) (rest : List Addr) (y : Addr) → NeedChain b (s ∷ rest) y → SimpleWay b s y
simple_way b s [] y h = record { rest = []; steps = h; apart = ((λ k. k), tt) }
simple_way b s (t ∷ rest) y h =
    let w = simple_way b t rest y h.1 in
    ⊎_elim (λ k. from_at b s (t ∷ w.rest) y k w.steps w.apart)
    (λ (n : In s (t ∷ w.rest) → ⊥). record { rest = t ∷ w.rest; steps = (h.0, w.steps); apart = (n, w.apart) })
    (in_or_not s (t ∷ w.rest))

follow_none : (b : Book) (c : Addr) → need b c ≡ None → (j : ℕ) → follow b (suc j) c ≡ None
follow_none b c e zero = e
follow_none b c e (suc j) = ap (λ o. option_and_then (need b) o) (follow_none b c e j)

way_to : (b : Book) (j : ℕ) (c y : Addr) → follow b (suc j) c ≡ Some y → (rest : List Addr) × NeedChain b (c ∷ rest) y
way_to b zero c y h = ([], (h, tt))
way_to b (suc j) c y h = by_need (λ x. way_to b j x y) (need b c) refl
  where
    by_need : ((x : Addr) → follow b (suc j) x ≡ Some y → (rest : List Addr) × NeedChain b (x ∷ rest) y) → (o : Option Addr) → need b c ≡ o → (rest : List Addr) × NeedChain b (c ∷ rest) y
    by_need later None q = (let n = follow_none b c q (suc j) in cc)
    by_need later (Some x) q =
        let w = later x (sym (follow_from b c x q (suc j)) ∙ h) in
        (x ∷ w.0, (q, w.1))

pub needs_formula : (b : Book) (c x : Addr) → need b c ≡ Some x → (t : Expr) × (formula_at b c ≡ Some t)
unfolding need ask_cell
needs_formula b c x h = go (formula_at b c) refl h
  where
    go : (o : Option Expr) → formula_at b c ≡ o → cell_needed (ask_formula b (finished b) c o) ≡ Some x → (t : Expr) × (formula_at b c ≡ Some t)
    go (Some t) q p = (t, q)
    go None q p = cc

all_formulas : (b : Book) (cs : List Addr) (y : Addr) → NeedChain b cs y → (c : Addr) → In c cs → In c (formulas b)
all_formulas b [] y h c k = absurd k
all_formulas b (s ∷ rest) y h c (inl e) = (let f = needs_formula b s (get_or rest 0 y) h.0 in subst (λ z. In z (formulas b)) (sym e) (in_formulas b s f.0 f.1))
all_formulas b (s ∷ rest) y h c (inr k) = all_formulas b rest y h.1 c k

-- the way back is no longer than the formula cells are many
record Back (b : Book) (c : Addr) (n : ℕ) : Type 0 where
  steps : ℕ
  some : 0 < steps
  within : steps ≤ n
  back : follow b steps c ≡ Some c

back_within : (b : Book) (c : Addr) (j : ℕ) → 0 < j → follow b j c ≡ Some c → Back b c (length (formulas b))
back_within b c zero l h = absurd (omega arith)
back_within b c (suc j) l h =
    let w = way_to b j c c h in
    let s = simple_way b c w.0 c w.1 in
    record {
      steps = length (c ∷ s.rest);
      some = omega arith;
      within = no_more (c ∷ s.rest) (formulas b) s.apart (all_formulas b (c ∷ s.rest) c s.steps);
      back = chain_follow b (c ∷ s.rest) c s.steps (length (c ∷ s.rest)) (omega arith) ∙ ap Some (get_or_past (c ∷ s.rest) (length (c ∷ s.rest)) c (omega arith));
    }

-- the least number of steps back

at_same : (c : Addr) (o : Option Addr) → is_at c o ≡ true → o ≡ Some c
at_same c (Some x) h = ap Some (sym (same_addr-true c x h))
at_same c None h = cc

-- where none of 1 to `n` steps is found, none comes back
pub period_none : (b : Book) (n : ℕ) (c : Addr) → period b n c ≡ None → (j : ℕ) → 0 < j → j ≤ n → follow b j c ≡ Some c → ⊥
period_none b zero c e j p l f = absurd (omega arith)
period_none b (suc n) c e j p l f = go (λ q k. period_none b n c q j p k f) (period b n c) refl (is_at c (follow b (suc n) c)) refl e
  where
    go : (period b n c ≡ None → j ≤ n → ⊥) → (o : Option ℕ) → period b n c ≡ o → (t : Bool) → is_at c (follow b (suc n) c) ≡ t → option_or o (cond t (Some (suc n)) None) ≡ None → ⊥
    go later (Some m) q t s d = cc
    go later None q true s d = cc
    go later None q false s d = ⊎_elim
        (λ (h : j ≡ suc n).
        let back : follow b (suc n) c ≡ Some c = subst (λ z. follow b z c ≡ Some c) h f in
        let a : is_at c (follow b (suc n) c) ≡ true = ap (is_at c) back ∙ same_addr-refl c in
        let clash : true ≡ false = sym a ∙ s in
        cc)
        (λ (h : j ≢ suc n). later q (omega arith))
        (cases_eq j (suc n))

-- what is found is the least
pub period_is : (b : Book) (n : ℕ) (c : Addr) (m : ℕ) → period b n c ≡ Some m → HasPeriod b c m
period_is b zero c m e = cc
period_is b (suc n) c m e = go (period_is b n c m) (period b n c) refl (is_at c (follow b (suc n) c)) refl e
  where
    go : (period b n c ≡ Some m → HasPeriod b c m) → (o : Option ℕ) → period b n c ≡ o → (t : Bool) → is_at c (follow b (suc n) c) ≡ t → option_or o (cond t (Some (suc n)) None) ≡ Some m → HasPeriod b c m
    go later (Some x) q t s d = later (q ∙ d)
    go later None q false s d = cc
    go later None q true s d =
        let same : suc n ≡ m = cc in
        subst (HasPeriod b c) same (record { some = omega arith; back = at_same c (follow b (suc n) c) s; first = λ j p l f. period_none b n c q j p (omega arith) f })

-- a cell has one period at most
pub one_period : (b : Book) (c : Addr) (n m : ℕ) → HasPeriod b c n → HasPeriod b c m → n ≡ m
one_period b c n m h k =
    let below : n < m → ⊥ = λ l. k.first n h.some l h.back in
    let above : m < n → ⊥ = λ l. h.first m k.some l k.back in
    omega arith

-- a search that goes far enough finds a cell on a loop
found_within : (b : Book) (c : Addr) (m : ℕ) → length (formulas b) ≤ m → OnLoop b c → period b m c ≡ None → ⊥
found_within b c m l o e = (let w = back_within b c o.0 o.1 o.2 in period_none b m c e w.steps w.some (omega (arith, w.within)) w.back)

on_loop : (b : Book) (c : Addr) (n : ℕ) → HasPeriod b c n → OnLoop b c
on_loop b c n h = (n, h.some, h.back)

pub loops_are_found : LoopsAreFound
loops_are_found b c n = (period_is b (length (formulas b)) c n, λ h. go h (period b (length (formulas b)) c) refl)
  where
    go : HasPeriod b c n → (o : Option ℕ) → period b (length (formulas b)) c ≡ o → period b (length (formulas b)) c ≡ Some n
    go h (Some m) q = q ∙ ap Some (one_period b c m n (period_is b (length (formulas b)) c m q) h)
    go h None q = absurd (found_within b c (length (formulas b)) (omega arith) (on_loop b c n h) q)

-- a cell on a loop has a period
pub loop_period : (b : Book) (c : Addr) → OnLoop b c → (n : ℕ) × HasPeriod b c n
loop_period b c l = go (period b (length (formulas b)) c) refl
  where
    go : (o : Option ℕ) → period b (length (formulas b)) c ≡ o → (n : ℕ) × HasPeriod b c n
    go (Some n) q = (n, period_is b (length (formulas b)) c n q)
    go None q = absurd (found_within b c (length (formulas b)) (omega arith) l q)

-- a longer search finds no more
pub period_enough : (b : Book) (c : Addr) (m : ℕ) → length (formulas b) ≤ m → period b m c ≡ period b (length (formulas b)) c
period_enough b c m l = go (period b m c) refl (period b (length (formulas b)) c) refl
  where
    go : (o : Option ℕ) → period b m c ≡ o → (p : Option ℕ) → period b (length (formulas b)) c ≡ p → period b m c ≡ period b (length (formulas b)) c
    go (Some n) e p f = e ∙ sym ((loops_are_found b c n).1 (period_is b m c n e))
    go None e None f = e ∙ sym f
    go None e (Some n) f = absurd (found_within b c m l (on_loop b c n (period_is b (length (formulas b)) c n f)) e)

-- what an unfinished cell shows

pub shown_cycle : (b : Book) (c : Addr) (n : ℕ) → Unfinished b c → HasPeriod b c n → shown b c ≡ Shown.Cycle n
unfolding shown
shown_cycle b c n u h = rw (u.is_formula, u.outside, (loops_are_found b c n).1 h) refl

no_period : (b : Book) (c : Addr) → (OnLoop b c → ⊥) → period b (length (formulas b)) c ≡ None
no_period b c h = go (period b (length (formulas b)) c) refl
  where
    go : (o : Option ℕ) → period b (length (formulas b)) c ≡ o → period b (length (formulas b)) c ≡ None
    go (Some n) q = absurd (h (on_loop b c n (period_is b (length (formulas b)) c n q)))
    go None q = q

pub shown_to_cycle : (b : Book) (c : Addr) → Unfinished b c → (OnLoop b c → ⊥) → shown b c ≡ Shown.ToCycle
unfolding shown
shown_to_cycle b c u l = rw (u.is_formula, u.outside, no_period b c l) refl

-- a cell that needs another one is an unfinished formula cell
pub needs_unfinished : (b : Book) (c x : Addr) → need b c ≡ Some x → Unfinished b c
unfolding need
needs_unfinished b c x h =
    let f = needs_formula b c x h in
    record { tree = f.0; is_formula = f.1; outside = sym (ap (λ (e : Known). e c) (finished_again b)) ∙ none (ask_cell b (finished b) c) h }
  where
    none : (o : Option Asked) → cell_needed o ≡ Some x → value_given o ≡ None
    none (Some (Val v)) k = cc
    none (Some (Needs y)) k = refl
    none None k = refl

period_unfinished : (b : Book) (c : Addr) (n : ℕ) → HasPeriod b c n → Unfinished b c
period_unfinished b c zero h = absurd (omega (arith, h.some))
period_unfinished b c (suc n) h = go (need b c) refl
  where
    go : (o : Option Addr) → need b c ≡ o → Unfinished b c
    go (Some x) q = needs_unfinished b c x q
    go None q = (let e : None ≡ Some c = sym (follow_none b c q n) ∙ h.back in cc)

-- the laws on what cells show

pub cycles_show : CyclesShow
unfolding shown
cycles_show b c n = (λ e. (loops_are_found b c n).0 (go (formula_at b c) (finished b c) (period b (length (formulas b)) c) e), λ h. shown_cycle b c n (period_unfinished b c n h) h)
  where
    go : (t : Option Expr) (f : Option Value) (p : Option ℕ) → shown_from t (own b c) f p ≡ Shown.Cycle n → p ≡ Some n
    go None f p e = cc
    go (Some t) (Some v) p e = cc
    go (Some t) None None e = cc
    go (Some t) None (Some m) e = (let same : m ≡ n = cc in ap Some same)

pub loop_shows : LoopShows
loop_shows b s rest h c k = shown_cycle b c (length (s ∷ rest)) (h.unfinished c k) (h.period c k)

pub others_lead : OthersLead
unfolding shown
others_lead b c = (λ e. go (formula_at b c) refl (finished b c) refl (period b (length (formulas b)) c) refl e, λ u. shown_to_cycle b c u.0 u.1)
  where
    go : (t : Option Expr) → formula_at b c ≡ t → (f : Option Value) → finished b c ≡ f → (p : Option ℕ) → period b (length (formulas b)) c ≡ p → shown_from t (own b c) f p ≡ Shown.ToCycle → Unfinished b c × (OnLoop b c → ⊥)
    go None x f y p z e = cc
    go (Some t) x (Some v) y p z e = cc
    go (Some t) x None y (Some m) z e = cc
    go (Some t) x None y None z e = (record { tree = t; is_formula = x; outside = y }, λ l. found_within b c (length (formulas b)) (omega arith) l z)

pub values_show : ValuesShow
unfolding shown
values_show b c t v h = (λ e. go (finished b c) (period b (length (formulas b)) c) (subst (λ o. shown_from o (own b c) (finished b c) (period b (length (formulas b)) c) ≡ Shown.Val v) h e), λ e. rw (h, e) refl)
  where
    go : (f : Option Value) (p : Option ℕ) → shown_from (Some t) (own b c) f p ≡ Shown.Val v → f ≡ Some v
    go (Some w) p e = (let same : w ≡ v = cc in ap Some same)
    go None (Some m) e = cc
    go None None e = cc
