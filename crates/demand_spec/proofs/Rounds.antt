-- Rounds grow, and end after as many rounds as there are formula cells.
use Rattle.cell_values.proofs.Order.{same_addr-true}
use Rattle.std.proofs.Common.{◌≡◌, ℕ, zero, suc, ◌+◌, ◌<◌, ◌≤◌, Bool, true, false, cond, ◌⊎◌, inl, inr, ⊎_elim, List, [], ◌∷◌, length, refl, sym, ap, ◌∙◌, subst, Option, Some, None, arith}
use Rattle.cell_values.specs.declared.address.Addr.{Addr}
use Rattle.cell_values.specs.declared.values.Value.{Value}
use Rattle.demand_spec.specs.declared.Asked.{Asked}
use Rattle.demand_spec.specs.declared.Asked.TheVariants.{Val, Needs}
use Rattle.formula_trees.specs.Expr.{Expr}
use Rattle.cell_values.specs.Addresses.{same_addr}
use Rattle.demand_spec.specs.Formula.{plan}
use Rattle.demand_spec.specs.Book.{Book, Content, Number, Text, Truth, Formula, Known, formula_of, formula_at, own, look_at, look, ask, ask_formula, ask_cell, value_given, round, rounds, with_formula, formulas_in, formulas, finished}
use Rattle.cell_values.specs.Order.{entry_at}
use Rattle.demand_spec.specs.Laws.{PartOf, AskGrows, In, RoundsEnd}
use Rattle.demand_spec.proofs.Plans.{KeepsValues, run_value, run_needs}

-- looks

look_at_value : (t : Option Expr) (v : Value) (e f : Option Value) (a : Addr) → ((w : Value) → e ≡ Some w → f ≡ Some w) → (w : Value) → look_at t v e a ≡ Val w → look_at t v f a ≡ Val w
look_at_value None v e f a h w p = p
look_at_value (Some t) v (Some u) f a h w p = subst (λ z. look_at (Some t) v z a ≡ Val w) (sym (h u refl)) p
look_at_value (Some t) v None f a h w p = cc

pub look_values : (b : Book) (e f : Known) → PartOf e f → KeepsValues (look b e) (look b f)
look_values b e f h a w = look_at_value (formula_at b a) (own b a) (e a) (f a) a (h a) w

-- a look needs nothing but its own cell, a formula cell that is not known
pub record Lacks (b : Book) (e : Known) (a x : Addr) : Type 0 where
  pub same : a ≡ x
  pub tree : Expr
  pub is_formula : formula_at b a ≡ Some tree
  pub unknown : e a ≡ None

look_at_lacks : (b : Book) (e : Known) (a x : Addr) (t : Option Expr) (v : Value) (w : Option Value) → formula_at b a ≡ t → e a ≡ w → look_at t v w a ≡ Needs x → Lacks b e a x
look_at_lacks b e a x None v w p q h = cc
look_at_lacks b e a x (Some t) v (Some u) p q h = cc
look_at_lacks b e a x (Some t) v None p q h = record { same = cc; tree = t; is_formula = p; unknown = q }

pub look_lacks : (b : Book) (e : Known) (a x : Addr) → look b e a ≡ Needs x → Lacks b e a x
look_lacks b e a x h = look_at_lacks b e a x (formula_at b a) (own b a) (e a) refl refl h

pub look_needs : (b : Book) (e : Known) (a : Addr) (t : Expr) → formula_at b a ≡ Some t → e a ≡ None → look b e a ≡ Needs a
look_needs b e a t p q = rw (p, q) refl

-- what is asked for more

pub ask_value : (b : Book) (e f : Known) (at : Addr) (t : Expr) → PartOf e f → (v : Value) → ask b e at t ≡ Val v → ask b f at t ≡ Val v
ask_value b e f at t h v p = run_value (look b e) (look b f) (look_values b e f h) (plan b.texts at t) v p

needs_kept : (b : Book) (e f : Known) (x : Addr) → f x ≡ None → (a : Addr) → look b e a ≡ Needs x → look b f a ≡ Needs x
needs_kept b e f x n a h =
    let l = look_lacks b e a x h in
    let fa : f a ≡ None = subst (λ z. f z ≡ None) (sym l.same) n in
    subst (λ z. look b f a ≡ Needs z) l.same (look_needs b f a l.tree l.is_formula fa)

pub ask_needs : (b : Book) (e f : Known) (at : Addr) (t : Expr) → PartOf e f → (x : Addr) → ask b e at t ≡ Needs x → f x ≡ None → ask b f at t ≡ Needs x
ask_needs b e f at t h x p n = run_needs (look b e) (look b f) x (look_values b e f h) (needs_kept b e f x n) (plan b.texts at t) p

pub ask_grows : AskGrows
ask_grows b e f at t h = (ask_value b e f at t h, ask_needs b e f at t h)

-- rounds

given_formula : (b : Book) (e f : Known) (c : Addr) (t : Option Expr) (v : Value) → PartOf e f → value_given (ask_formula b e c t) ≡ Some v → value_given (ask_formula b f c t) ≡ Some v
given_formula b e f c None v h p = p
given_formula b e f c (Some t) v h p = go (ask b e c t) refl p
  where
    go : (r : Asked) → ask b e c t ≡ r → value_given (Some r) ≡ Some v → value_given (Some (ask b f c t)) ≡ Some v
    go (Val w) q d = subst (λ z. value_given (Some z) ≡ Some v) (sym (ask_value b e f c t h w q)) d
    go (Needs x) q d = cc

pub round_grows : (b : Book) (e f : Known) → PartOf e f → PartOf (round b e) (round b f)
unfolding ask_cell
round_grows b e f h c v p = given_formula b e f c (formula_at b c) v h p

pub rounds_grow : (b : Book) (k : ℕ) → PartOf (rounds b k) (rounds b (suc k))
rounds_grow b zero = λ a v p. cc
rounds_grow b (suc k) = round_grows b (rounds b k) (rounds b (suc k)) (rounds_grow b k)

-- how many of the cells are known
abbrev one_more : Option Value → ℕ → ℕ
one_more (Some v) n = suc n
one_more None n = n

abbrev known_in : Known → List Addr → ℕ
known_in e [] = 0
known_in e (c ∷ cs) = one_more (e c) (known_in e cs)

one_more_le : (o : Option Value) (n m : ℕ) → n ≤ m → one_more o n ≤ suc m
one_more_le (Some v) n m h = omega arith
one_more_le None n m h = omega arith

known_in_le : (e : Known) (cs : List Addr) → known_in e cs ≤ length cs
known_in_le e [] = omega arith
known_in_le e (c ∷ cs) = one_more_le (e c) (known_in e cs) (length cs) (known_in_le e cs)

abbrev pub SameOn : Known → Known → List Addr → Type 0
SameOn e f cs = (c : Addr) → In c cs → e c ≡ f c

-- either nothing is new, or there are more
one_step : (e f : Known) (c : Addr) (cs : List Addr) (x y : Option Value) → e c ≡ x → f c ≡ y → ((v : Value) → x ≡ Some v → y ≡ Some v) → SameOn e f cs ⊎ (known_in e cs < known_in f cs) → (known_in e cs ≤ known_in f cs) → SameOn e f (c ∷ cs) ⊎ (one_more x (known_in e cs) < one_more y (known_in f cs))
one_step e f c cs (Some v) None p q h d l = (let w = h v refl in cc)
one_step e f c cs None (Some v) p q h d l = inr (omega arith)
one_step e f c cs (Some v) (Some w) p q h (inl s) l = inl (λ a. ⊎_elim (λ (r : a ≡ c). (let k = h v refl in cc)) (s a))
one_step e f c cs (Some v) (Some w) p q h (inr m) l = inr (omega arith)
one_step e f c cs None None p q h (inl s) l = inl (λ a. ⊎_elim (λ (r : a ≡ c). cc) (s a))
one_step e f c cs None None p q h (inr m) l = inr m

one_less : (o p : Option Value) (n m : ℕ) → ((v : Value) → o ≡ Some v → p ≡ Some v) → n ≤ m → one_more o n ≤ one_more p m
one_less (Some v) (Some w) n m h l = omega arith
one_less (Some v) None n m h l = (let w = h v refl in cc)
one_less None (Some w) n m h l = omega arith
one_less None None n m h l = l

known_in_grows : (e f : Known) → PartOf e f → (cs : List Addr) → known_in e cs ≤ known_in f cs
known_in_grows e f h [] = omega arith
known_in_grows e f h (c ∷ cs) = one_less (e c) (f c) (known_in e cs) (known_in f cs) (h c) (known_in_grows e f h cs)

same_or_more : (e f : Known) → PartOf e f → (cs : List Addr) → SameOn e f cs ⊎ (known_in e cs < known_in f cs)
same_or_more e f h [] = inl (λ c k. absurd k)
same_or_more e f h (c ∷ cs) = one_step e f c cs (e c) (f c) refl refl (h c) (same_or_more e f h cs) (known_in_grows e f h cs)

-- each formula cell is in the list

in_formulas_of : (cs : List (Addr × Content)) (a : Addr) (t : Expr) → formula_of (entry_at cs a) ≡ Some t → In a (formulas_in cs)
in_formulas_of [] a t h = cc
in_formulas_of (c ∷ cs) a t h = by_test (same_addr a c.0) refl h (c.1) refl (in_formulas_of cs a t)
  where
    by_content : (d : Content) → formula_of (Some d) ≡ Some t → a ≡ c.0 → In a (with_formula c.0 d (formulas_in cs))
    by_content (Formula u) p e = inl e
    by_content (Number n) p e = cc
    by_content (Text n) p e = cc
    by_content (Truth n) p e = cc

    later : (d : Content) → In a (formulas_in cs) → In a (with_formula c.0 d (formulas_in cs))
    later (Formula u) k = inr k
    later (Number n) k = k
    later (Text n) k = k
    later (Truth n) k = k

    by_test : (b : Bool) → same_addr a c.0 ≡ b → formula_of (cond b (Some c.1) (entry_at cs a)) ≡ Some t → (d : Content) → c.1 ≡ d → (formula_of (entry_at cs a) ≡ Some t → In a (formulas_in cs)) → In a (with_formula c.0 d (formulas_in cs))
    by_test true q p d r k = by_content d (subst (λ z. formula_of (Some z) ≡ Some t) r p) (same_addr-true a c.0 q)
    by_test false q p d r k = later d (k p)

pub in_formulas : (b : Book) (a : Addr) (t : Expr) → formula_at b a ≡ Some t → In a (formulas b)
unfolding formula_at formulas
in_formulas b a t h = in_formulas_of b.cells a t h

round_nothing : (b : Book) (e : Known) (a : Addr) → formula_at b a ≡ None → round b e a ≡ None
unfolding ask_cell
round_nothing b e a h = rw h refl

rounds_nothing : (b : Book) (k : ℕ) (a : Addr) → formula_at b a ≡ None → rounds b k a ≡ None
rounds_nothing b zero a h = refl
rounds_nothing b (suc k) a h = round_nothing b (rounds b k) a h

abbrev pub Ended : Book → ℕ → Type 0
Ended b k = rounds b (suc k) ≡ rounds b k

pub ended_from : (b : Book) (k : ℕ) → SameOn (rounds b k) (rounds b (suc k)) (formulas b) → Ended b k
ended_from b k s = λ i a. all a i
  where
    at_cell : (a : Addr) (o : Option Expr) → formula_at b a ≡ o → rounds b (suc k) a ≡ rounds b k a
    at_cell a (Some t) h = sym (s a (in_formulas b a t h))
    at_cell a None h = rounds_nothing b (suc k) a h ∙ sym (rounds_nothing b k a h)

    all : (a : Addr) → rounds b (suc k) a ≡ rounds b k a
    all a = at_cell a (formula_at b a) refl

ended_or_more : (b : Book) (k : ℕ) → Ended b k ⊎ (suc k ≤ known_in (rounds b (suc k)) (formulas b))
ended_or_more b zero = ⊎_elim (λ s. inl (ended_from b zero s)) (λ (l : known_in (rounds b zero) (formulas b) < known_in (rounds b 1) (formulas b)). inr (omega arith)) (same_or_more (rounds b zero) (rounds b 1) (rounds_grow b zero) (formulas b))
ended_or_more b (suc k) =
    ⊎_elim (λ (d : Ended b k). inl (ap (round b) d))
    (λ (m : suc k ≤ known_in (rounds b (suc k)) (formulas b)).
    ⊎_elim (λ s. inl (ended_from b (suc k) s)) (λ (l : known_in (rounds b (suc k)) (formulas b) < known_in (rounds b (suc (suc k))) (formulas b)). inr (omega arith)) (same_or_more (rounds b (suc k)) (rounds b (suc (suc k))) (rounds_grow b (suc k)) (formulas b)))
    (ended_or_more b k)

-- one round more gives nothing new
pub finished_again : (b : Book) → round b (finished b) ≡ finished b
unfolding finished
finished_again b = ⊎_elim (λ (d : Ended b (length (formulas b))). d)
    (λ (m : suc (length (formulas b)) ≤ known_in (rounds b (suc (length (formulas b)))) (formulas b)). absurd (omega (arith, known_in_le (rounds b (suc (length (formulas b)))) (formulas b))))
    (ended_or_more b (length (formulas b)))

pub rounds_end : RoundsEnd
unfolding finished
rounds_end b = (rounds_grow b, finished_again b)

-- every round is a part of what is finished
pub part_of_finished : (b : Book) (k : ℕ) → PartOf (rounds b k) (finished b)
part_of_finished b zero = λ a v p. cc
part_of_finished b (suc k) = subst (λ f. PartOf (rounds b (suc k)) f) (finished_again b) (round_grows b (rounds b k) (finished b) (part_of_finished b k))

-- every later round is what is finished
pub rounds_stay : (b : Book) (n k : ℕ) → k ≡ n + length (formulas b) → rounds b k ≡ finished b
unfolding finished
rounds_stay b zero k e = (let same : k ≡ length (formulas b) = omega arith in ap (rounds b) same)
rounds_stay b (suc n) zero e = absurd (omega arith)
rounds_stay b (suc n) (suc k) e = ap (round b) (rounds_stay b n k (omega arith)) ∙ finished_again b
