-- What rounds over a listed book know, and what its cells show.
use Rattle.std.proofs.Common.{◌≡◌, ℕ, zero, suc, ◌+◌, ◌-◌, ◌<◌, ◌≤◌, Bool, true, false, cond, ◌||◌, ◌⊎◌, inl, inr, List, [], ◌∷◌, length, get_or, refl, sym, ap, ◌∙◌, subst, Option, Some, None, IsSome, option_and_then, Result, Ok, Err, IfOk, arith}
use Rattle.std.proofs.lemmas.Bool.{cond-true, cond-false, false_from_ne_true}
use Rattle.std.specs.Option.{option_or}
use Rattle.std.specs.declared.alloc.AllocError.{AllocError}
use Rattle.cell_values.specs.declared.address.Addr.{Addr}
use Rattle.cell_values.specs.declared.values.Shown.{Shown}
use Rattle.cell_values.specs.declared.values.Value.{Value}
use Rattle.cell_values.specs.Addresses.{same_addr}
use Rattle.cell_values.specs.Texts.{Texts}
use Rattle.formula_trees.specs.Expr.{Expr}
use Rattle.formula_trees.specs.declared.tree.Tree.{Tree}
use Rattle.demand_spec.specs.declared.Cell.{Cell}
use Rattle.demand_spec.specs.Book.{Book, Content, Known, formula_of, formula_at, ask_formula, value_given, ask_cell, round, rounds, with_formula, formulas_in, formulas, finished, need, follow, is_at, period, mark_from, shown}
use Rattle.cell_values.specs.Order.{entry_at, InOrder, addresses}
use Rattle.demand_spec.specs.Laws.{In, Distinct}
use Rattle.demand_spec.specs.Listed.{content_of, contents}
use Rattle.demand_spec.specs.Rounds.{put, put_given, given_at, round_from, is_new, adds}
use Rattle.demand_spec.proofs.Rounds.{Ended, SameOn, ended_from, rounds_grow, rounds_stay}
use Rattle.cell_values.proofs.Order.{same_addr-true, same_addr-refl, same_addr-sym}
use Rattle.demand_spec.proofs.Cycles.{period_enough}
use Rattle.demand_spec.specs.Stage.{Sight, book_of, book_with, known_of}
use Rattle.demand_spec.proofs.Ordered.{IsBook, distinct_from_order}

-- the value of a round where it gives one, else what was there
first_of : Option Value → Option Value → Option Value
first_of (Some v) other = Some v
first_of None other = other

not_there : (cs : List (Addr × Content)) (a : Addr) → (In a (addresses cs) → ⊥) → entry_at cs a ≡ None
not_there [] a n = refl
not_there (c ∷ cs) a n = go (same_addr a c.0) refl (not_there cs a (λ k. n (inr k)))
  where
    go : (q : Bool) → same_addr a c.0 ≡ q → entry_at cs a ≡ None → cond q (Some c.1) (entry_at cs a) ≡ None
    go true p k = absurd (n (inl (same_addr-true a c.0 p)))
    go false p k = k

round_listed : (b : Book) (e : Known) (cs : List (Addr × Content)) → Distinct (addresses cs) → (f : Known) (a : Addr) → round_from b e f cs a ≡ first_of (value_given (ask_formula b e a (formula_of (entry_at cs a)))) (f a)
unfolding first_of
round_listed b e [] d f a = refl
round_listed b e (c ∷ cs) d f a = go (given_at b e c.0 c.1) refl (same_addr a c.0) refl (λ g. round_listed b e cs d.1 g a)
  where
    put_same : (v : Value) → same_addr a c.0 ≡ true → put c.0 v f a ≡ Some v
    put_same v p = cond-true (same_addr c.0 a) (Some v) (f a) (same_addr-sym c.0 a ∙ p)

    put_other : (v : Value) → same_addr a c.0 ≡ false → put c.0 v f a ≡ f a
    put_other v p = cond-false (same_addr c.0 a) (Some v) (f a) (same_addr-sym c.0 a ∙ p)

    -- the cell itself gives `o`
    here : (o : Option Value) → given_at b e c.0 c.1 ≡ o → same_addr a c.0 ≡ true → value_given (ask_formula b e a (formula_of (Some c.1))) ≡ o
    here o r p = subst (λ z. given_at b e z c.1 ≡ o) (sym (same_addr-true a c.0 p)) r

    -- no later cell is the cell itself
    later : same_addr a c.0 ≡ true → entry_at cs a ≡ None
    later p = not_there cs a (λ m. d.0 (subst (λ z. In z (addresses cs)) (same_addr-true a c.0 p) m))

    go : (o : Option Value) → given_at b e c.0 c.1 ≡ o → (q : Bool) → same_addr a c.0 ≡ q
        → ((g : Known) → round_from b e g cs a ≡ first_of (value_given (ask_formula b e a (formula_of (entry_at cs a)))) (g a))
        → round_from b e (put_given c.0 o f) cs a ≡ first_of (value_given (ask_formula b e a (formula_of (cond q (Some c.1) (entry_at cs a))))) (f a)
    go (Some v) r true p k = k (put c.0 v f) ∙ ap (λ z. first_of (value_given (ask_formula b e a (formula_of z))) (put c.0 v f a)) (later p) ∙ put_same v p ∙ sym (ap (λ z. first_of z (f a)) (here (Some v) r p))
    go None r true p k = k f ∙ ap (λ z. first_of (value_given (ask_formula b e a (formula_of z))) (f a)) (later p) ∙ sym (ap (λ z. first_of z (f a)) (here None r p))
    go (Some v) r false p k = k (put c.0 v f) ∙ ap (first_of (value_given (ask_formula b e a (formula_of (entry_at cs a))))) (put_other v p)
    go None r false p k = k f

first_alone : (o : Option Value) → first_of o None ≡ o
unfolding first_of
first_alone (Some v) = refl
first_alone None = refl

-- one round over all cells
pub round_is : (b : Book) (e : Known) → IsBook b.cells → round_from b e (λ a. None) b.cells ≡ round b e
unfolding ask_cell formula_at
round_is b e d = λ i a. (round_listed b e b.cells d (λ a. None) a ∙ first_alone (value_given (ask_formula b e a (formula_of (entry_at b.cells a))))) i

-- a round that adds nothing is the last one

or_first : (x y : Bool) → (x || y) ≡ false → x ≡ false
or_first true y e = e
or_first false y e = refl

or_second : (x y : Bool) → (x || y) ≡ false → y ≡ false
or_second true y e = cc
or_second false y e = e

nothing_new : (b : Book) (e : Known) (cs : List (Addr × Content)) (a : Addr) (x : Content) → adds b e cs ≡ false → entry_at cs a ≡ Some x → is_new (given_at b e a x) (e a) ≡ false
nothing_new b e [] a x n h = cc
nothing_new b e (c ∷ cs) a x n h = go (same_addr a c.0) refl h (nothing_new b e cs a x (or_second (is_new (given_at b e c.0 c.1) (e c.0)) (adds b e cs) n))
  where
    go : (q : Bool) → same_addr a c.0 ≡ q → cond q (Some c.1) (entry_at cs a) ≡ Some x → (entry_at cs a ≡ Some x → is_new (given_at b e a x) (e a) ≡ false) → is_new (given_at b e a x) (e a) ≡ false
    go false p h k = k h
    go true p h k =
        let same : c.1 ≡ x = cc in
        let here : a ≡ c.0 = same_addr-true a c.0 p in
        subst (λ z. is_new (given_at b e z x) (e z) ≡ false) (sym here) (subst (λ z. is_new (given_at b e c.0 z) (e c.0) ≡ false) same (or_first (is_new (given_at b e c.0 c.1) (e c.0)) (adds b e cs) n))

-- where nothing is new, the larger part has nothing more
same_there : (x y : Option Value) → ((v : Value) → x ≡ Some v → y ≡ Some v) → is_new y x ≡ false → x ≡ y
same_there (Some v) y h n = sym (h v refl)
same_there None None h n = refl
same_there None (Some w) h n = cc

pub last_round : (b : Book) (k : ℕ) → adds b (rounds b k) b.cells ≡ false → Ended b k
unfolding ask_cell formula_at
last_round b k n = ended_from b k all
  where
    at_cell : (a : Addr) (o : Option Content) → entry_at b.cells a ≡ o → is_new (value_given (ask_formula b (rounds b k) a (formula_of o))) (rounds b k a) ≡ false
    at_cell a None p = refl
    at_cell a (Some x) p = nothing_new b (rounds b k) b.cells a x n p

    at_round : (a : Addr) → is_new (rounds b (suc k) a) (rounds b k a) ≡ false
    at_round a = at_cell a (entry_at b.cells a) refl

    all : SameOn (rounds b k) (rounds b (suc k)) (formulas b)
    all a m = same_there (rounds b k a) (rounds b (suc k) a) (rounds_grow b k a) (at_round a)

ended_on : (b : Book) (k n : ℕ) → Ended b k → rounds b (n + k) ≡ rounds b k
ended_on b k zero e = (let same : 0 + k ≡ k = omega arith in ap (rounds b) same)
ended_on b k (suc n) e = (let same : suc n + k ≡ suc (n + k) = omega arith in ap (rounds b) same ∙ ap (round b) (ended_on b k n e) ∙ e)

-- what is known after a round that adds nothing is what is finished
pub last_is_finished : (b : Book) (k : ℕ) (e : Known) → e ≡ rounds b k → adds b e b.cells ≡ false → e ≡ finished b
last_is_finished b k e h n =
    let ended : Ended b k = last_round b k (subst (λ z. adds b z b.cells ≡ false) h n) in
    let more : length (formulas b) + k ≡ k + length (formulas b) = omega arith in
    h ∙ sym (ended_on b k (length (formulas b)) ended) ∙ rounds_stay b k (length (formulas b) + k) more

length-formulas : (cs : List (Addr × Content)) → length (formulas_in cs) ≤ length cs
length-formulas [] = omega arith
length-formulas (c ∷ cs) = go (c.1) (length-formulas cs)
  where
    go : (d : Content) → length (formulas_in cs) ≤ length cs → length (with_formula c.0 d (formulas_in cs)) ≤ suc (length cs)
    go (Content.Formula t) h = omega arith
    go (Content.Number n) h = omega arith
    go (Content.Text n) h = omega arith
    go (Content.Truth n) h = omega arith

pub enough : (b : Book) → length (formulas b) ≤ length b.cells
unfolding formulas
enough b = length-formulas b.cells

-- as many rounds as there are cells finish the book
pub all_rounds_finish : (b : Book) (k : ℕ) (e : Known) → length b.cells ≤ k → e ≡ rounds b k → e ≡ finished b
all_rounds_finish b k e l h = h ∙ rounds_stay b (k - length (formulas b)) k (omega (arith, enough b))

-- what a formula cell shows

formula_there : (b : Book) (a : Addr) → IsSome (formula_at b a) → (t : Expr) × (formula_at b a ≡ Some t)
formula_there b a h = go (formula_at b a) h
  where
    go : (o : Option Expr) → IsSome o → (t : Expr) × (o ≡ Some t)
    go (Some t) k = (t, refl)
    go None k = cc

pub shown_value : (b : Book) (known : Known) (a : Addr) (v : Value) → IsSome (formula_at b a) → known ≡ finished b → known a ≡ Some v → shown b a ≡ Shown.Val v
unfolding shown
shown_value b known a v f k e =
    let t = formula_there b a f in
    let here : finished b a ≡ Some v = ap (λ (g : Known). g a) (sym k) ∙ e in
    rw (t.1, here) refl

pub shown_mark : (b : Book) (known : Known) (a : Addr) (p : Option ℕ) → IsSome (formula_at b a) → known ≡ finished b → known a ≡ None → period b (length b.cells) a ≡ p → shown b a ≡ mark_from p
unfolding shown
shown_mark b known a p f k e q =
    let t = formula_there b a f in
    let here : finished b a ≡ None = ap (λ (g : Known). g a) (sym k) ∙ e in
    let loop : period b (length (formulas b)) a ≡ p = sym (period_enough b a (length b.cells) (enough b)) ∙ q in
    rw (t.1, here, loop) refl

-- a way back that is found early stays found
period_on : (b : Book) (a : Addr) (k n m : ℕ) → period b n a ≡ Some k → n ≤ m → period b m a ≡ Some k
period_on b a k n zero e l = (let same : n ≡ 0 = omega arith in subst (λ z. period b z a ≡ Some k) same e)
period_on b a k n (suc m) e l = elim (at_end n m l) [ inl same ↦ subst (λ z. period b z a ≡ Some k) same e | inr less ↦ ap (λ o. option_or o (cond (is_at a (follow b (suc m) a)) (Some (suc m)) None)) (period_on b a k n m e less) ]
  where
    at_end : (n m : ℕ) → n ≤ suc m → (n ≡ suc m) ⊎ (n ≤ m)
    at_end n m l = grind arith

-- the cell at a place of the list is what its address finds
pub found_element : (cs : List (Addr × Cell)) (i : ℕ) (d : Addr × Cell) → IsBook (contents cs) → i < length cs → entry_at (contents cs) (get_or cs i d).0 ≡ Some (content_of (get_or cs i d).1)
found_element [] i d h l = absurd (omega arith)
found_element (c ∷ cs) zero d h l = cond-true (same_addr c.0 c.0) (Some (content_of c.1)) (entry_at (contents cs) c.0) (same_addr-refl c.0)
found_element (c ∷ cs) (suc i) d h l =
    let later = found_element cs i d h.1 (omega arith) in
    let apart : same_addr (get_or cs i d).0 c.0 ≡ false = false_from_ne_true (same_addr (get_or cs i d).0 c.0) (λ e. h.0 (subst (λ z. In z (addresses (contents cs))) (same_addr-true (get_or cs i d).0 c.0 e) (place_in cs i d (omega arith)))) in
    cond-false (same_addr (get_or cs i d).0 c.0) (Some (content_of c.1)) (entry_at (contents cs) (get_or cs i d).0) apart ∙ later
  where
    place_in : (cs : List (Addr × Cell)) (i : ℕ) (d : Addr × Cell) → i < length cs → In (get_or cs i d).0 (addresses (contents cs))
    place_in [] i d l = absurd (omega arith)
    place_in (c ∷ cs) zero d l = inl refl
    place_in (c ∷ cs) (suc i) d l = inr (place_in cs i d (omega arith))

-- whether something is new is gathered from the left
pub or_moves : (x y z : Bool) → ((x || y) || z) ≡ (x || (y || z))
or_moves true y z = refl
or_moves false y z = refl

-- a way back that is found at the next step
pub found_back : (b : Book) (a : Addr) (n m : ℕ) (x y : Option Addr) → n < m → x ≡ follow b n a → period b n a ≡ None → y ≡ option_and_then (need b) x → true ≡ is_at a y → Some (n + 1) ≡ period b m a
found_back b a n m x y l h none k e =
    let next : y ≡ follow b (suc n) a = k ∙ ap (option_and_then (need b)) h in
    let one : suc n ≡ n + 1 = omega arith in
    let here : is_at a (follow b (suc n) a) ≡ true = ap (is_at a) (sym next) ∙ sym e in
    let found : period b (suc n) a ≡ Some (n + 1) = (λ i. option_or (none i) (cond (here i) (Some (suc n)) None)) ∙ ap Some one in
    sym (period_on b a (n + 1) (suc n) m found (omega arith))

-- none at the next step
pub not_back : (b : Book) (a : Addr) (n : ℕ) (x y : Option Addr) → x ≡ follow b n a → period b n a ≡ None → y ≡ option_and_then (need b) x → false ≡ is_at a y → period b (n + 1) a ≡ None
not_back b a n x y h none k e =
    let next : y ≡ follow b (suc n) a = k ∙ ap (option_and_then (need b)) h in
    let one : suc n ≡ n + 1 = omega arith in
    let here : is_at a (follow b (suc n) a) ≡ false = ap (is_at a) (sym next) ∙ sym e in
    ap (λ z. period b z a) (sym one) ∙ (λ i. option_or (none i) (cond (here i) (Some (suc n)) None))

-- one round more
pub next_round_is : (b : Book) (k n : ℕ) (e f : Known) → n ≡ k + 1 → e ≡ rounds b k → f ≡ round b e → f ≡ rounds b n
next_round_is b k n e f h p q = (let same : suc k ≡ n = omega arith in q ∙ ap (round b) p ∙ ap (rounds b) same)

-- the cell at a place of the list holds a formula
pub formula_element : (b : Book) (cs : List (Addr × Cell)) (i : ℕ) (x : Addr × Cell) (t : Tree) → contents cs ≡ b.cells → IsBook (contents cs) → i < length cs → x ≡ get_or cs i x → x.1 ≡ Cell.Formula t → IsSome (formula_at b x.0)
unfolding formula_at
formula_element b cs i x t m h l e f =
    let p : entry_at (contents cs) x.0 ≡ Some (content_of x.1) = subst (λ (z : Addr × Cell). entry_at (contents cs) z.0 ≡ Some (content_of z.1)) (sym e) (found_element cs i x h l) in
    let q : entry_at (contents cs) x.0 ≡ Some (content_of (Cell.Formula t)) = p ∙ ap (λ z. Some (content_of z)) f in
    let r : entry_at b.cells x.0 ≡ Some (content_of (Cell.Formula t)) = subst (λ z. entry_at z x.0 ≡ Some (content_of (Cell.Formula t))) m q in
    subst (λ o. IsSome (formula_of o)) (sym r) refl

-- one round over the cells of a book
pub next_of : (cells : List (Addr × Content)) (ts : Texts) (ks : List (Addr × Value)) (s : Sight) (cs : List (Addr × Cell)) (f : Known) → InOrder (addresses cells) → s ≡ record { cells = cells; texts = ts; known = ks } → contents cs ≡ cells → f ≡ round_from (book_of s) (known_of s) (λ a. None) (contents cs) → f ≡ round (book_with cells ts) (entry_at ks)
next_of cells ts ks s cs f o q m e = e ∙ (λ i. round_from (book_of (q i)) (known_of (q i)) (λ a. None) (m i)) ∙ round_is (book_with cells ts) (entry_at ks) (distinct_from_order cells o)

pub on_ok : {T : Type 0} → (r : Result T AllocError) (P Q : T → Type 0) → ((x : T) → P x → Q x) → IfOk r P → IfOk r Q
on_ok (Ok x) P Q h k = h x k
on_ok (Err e) P Q h k = k
