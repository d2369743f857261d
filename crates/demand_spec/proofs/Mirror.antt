-- Cells that correspond show what corresponds.
use Rattle.std.proofs.Common.{◌≡◌, ℕ, zero, suc, ◌+◌, length, refl, sym, ap, ◌∙◌, subst, Option, Some, None, option_and_then, arith}
use Rattle.cell_values.specs.declared.address.Addr.{Addr}
use Rattle.cell_values.specs.declared.values.Value.{Value}
use Rattle.formula_trees.specs.Expr.{Expr}
use Rattle.demand_spec.specs.declared.Asked.{Asked}
use Rattle.demand_spec.specs.declared.Asked.TheVariants.{Val, Needs}
use Rattle.demand_spec.specs.Plan.{Plan, Give, Demand, after, run}
use Rattle.demand_spec.specs.Formula.{plan}
use Rattle.demand_spec.specs.Book.{Book, Known, formula_at, own, look_at, look, ask_formula, ask_cell, value_given, cell_needed, rounds, formulas, finished, need, follow, period, shown, shown_from}
use Rattle.demand_spec.specs.Laws.{HasPeriod}
use Rattle.demand_spec.specs.Like.{OnCells, OnValues, LikeOption, LikeCells, Mirrors, LikeShown, MirroredBy}
use Rattle.demand_spec.proofs.Rounds.{rounds_stay}
use Rattle.demand_spec.proofs.Cycles.{loops_are_found}
use Rattle.demand_spec.proofs.Like.{Like, plan_like}

-- answers that correspond: related values, or needs that are
abbrev pub LikeAsked : OnCells → OnValues → Asked → Asked → Type 0
LikeAsked N V (Val v) (Val w) = V v w
LikeAsked N V (Needs x) (Needs y) = N x y
LikeAsked N V r s = ⊥

after_like : (N : OnCells) (V : OnValues) (f g : Value → Asked) → ((v w : Value) → V v w → LikeAsked N V (f v) (g w)) → (r s : Asked) → LikeAsked N V r s → LikeAsked N V (after r f) (after s g)
after_like N V f g h (Val v) (Val w) e = h v w e
after_like N V f g h (Needs x) (Needs y) e = e
after_like N V f g h r s e = absurd e

pub run_like : (R N : OnCells) (V : OnValues) (l m : Addr → Asked) → ((a b : Addr) → R a b → LikeAsked N V (l a) (m b)) → (p q : Plan) → Like R V p q → LikeAsked N V (run l p) (run m q)
run_like R N V l m h (Give v) (Give w) e = e
run_like R N V l m h (Give v) (Demand b r) e = absurd e
run_like R N V l m h (Demand a k) (Give w) e = absurd e
run_like R N V l m h (Demand a k) (Demand b r) e = after_like N V (λ v. run l (k v)) (λ v. run m (r v)) (λ v w t. run_like R N V l m h (k v) (r w) (e.1 v w t)) (l a) (m b) (h a b e.0)

value_like : (N : OnCells) (V : OnValues) (o p : Option Asked) → LikeOption (LikeAsked N V) o p → LikeOption V (value_given o) (value_given p)
value_like N V (Some (Val v)) (Some (Val w)) h = h
value_like N V (Some (Needs x)) (Some (Needs y)) h = tt
value_like N V None None h = tt
value_like N V o p h = absurd h

needed_like : (N : OnCells) (V : OnValues) (o p : Option Asked) → LikeOption (LikeAsked N V) o p → LikeOption N (cell_needed o) (cell_needed p)
needed_like N V (Some (Val v)) (Some (Val w)) h = tt
needed_like N V (Some (Needs x)) (Some (Needs y)) h = h
needed_like N V None None h = tt
needed_like N V o p h = absurd h

look_at_like : (R : OnCells) (V : OnValues) (a x : Addr) → R a x → (t u : Option Expr) (v w : Value) (o p : Option Value) → LikeCells R V a t v x u w → LikeOption V o p → LikeAsked R V (look_at t v o a) (look_at u w p x)
look_at_like R V a x k None None v w o p c h = c
look_at_like R V a x k None (Some u) v w o p c h = absurd c
look_at_like R V a x k (Some t) None v w o p c h = absurd c
look_at_like R V a x k (Some t) (Some u) v w (Some y) (Some z) c h = h
look_at_like R V a x k (Some t) (Some u) v w None None c h = k
look_at_like R V a x k (Some t) (Some u) v w o p c h = absurd h

shown_from_like : (R : OnCells) (V : OnValues) (a x : Addr) (t u : Option Expr) (v w : Value) (o p : Option Value) → LikeCells R V a t v x u w → LikeOption V o p → (r : Option ℕ) → LikeShown V (shown_from t v o r) (shown_from u w p r)
shown_from_like R V a x None None v w o p c h r = c
shown_from_like R V a x None (Some u) v w o p c h r = absurd c
shown_from_like R V a x (Some t) None v w o p c h r = absurd c
shown_from_like R V a x (Some t) (Some u) v w (Some y) (Some z) c h r = h
shown_from_like R V a x (Some t) (Some u) v w None None c h (Some n) = refl
shown_from_like R V a x (Some t) (Some u) v w None None c h None = tt
shown_from_like R V a x (Some t) (Some u) v w (Some y) None c h r = absurd h
shown_from_like R V a x (Some t) (Some u) v w None (Some z) c h r = absurd h

module _ (R : OnCells) (V : OnValues) (b b' : Book) (m : Mirrors R V b b') where
  abbrev LikeKnown : Known → Known → Type 0
  LikeKnown e f = (a x : Addr) → R a x → LikeOption V (e a) (f x)

  look_like : (e f : Known) → LikeKnown e f → (a x : Addr) → R a x → LikeAsked R V (look b e a) (look b' f x)
  look_like e f h a x k = look_at_like R V a x k (formula_at b a) (formula_at b' x) (own b a) (own b' x) (e a) (f x) (m.cells a x k) (h a x k)

  ask_cell_like : (e f : Known) → LikeKnown e f → (a x : Addr) → R a x → LikeOption (LikeAsked R V) (ask_cell b e a) (ask_cell b' f x)
  unfolding ask_cell
  ask_cell_like e f h a x k = go (formula_at b a) (formula_at b' x) (m.cells a x k)
    where
      go : (o p : Option Expr) → LikeCells R V a o (own b a) x p (own b' x) → LikeOption (LikeAsked R V) (ask_formula b e a o) (ask_formula b' f x p)
      go (Some t) (Some u) c = run_like R R V (look b e) (look b' f) (look_like e f h) (plan b.texts a t) (plan b'.texts x u) (plan_like R V b.texts b'.texts m.respects a x t u c)
      go None None c = tt
      go None (Some u) c = absurd c
      go (Some t) None c = absurd c

  pub rounds_like : (k : ℕ) → LikeKnown (rounds b k) (rounds b' k)
  rounds_like zero = λ a x h. tt
  rounds_like (suc k) = λ a x h. value_like R V (ask_cell b (rounds b k) a) (ask_cell b' (rounds b' k) x) (ask_cell_like (rounds b k) (rounds b' k) (rounds_like k) a x h)

  pub finished_like : LikeKnown (finished b) (finished b')
  finished_like a x h =
      let n = length (formulas b) in
      let m = length (formulas b') in
      let p = rounds_stay b m (n + m) (omega arith) in
      let q = rounds_stay b' n (n + m) (omega arith) in
      subst (λ (f : Known). LikeOption V (f a) (finished b' x)) p (subst (λ (f : Known). LikeOption V (rounds b (n + m) a) (f x)) q (rounds_like (n + m) a x h))

  pub need_like : (a x : Addr) → R a x → LikeOption R (need b a) (need b' x)
  unfolding need
  need_like a x h = needed_like R V (ask_cell b (finished b) a) (ask_cell b' (finished b') x) (ask_cell_like (finished b) (finished b') finished_like a x h)

  pub follow_like : (j : ℕ) (a x : Addr) → R a x → LikeOption R (follow b j a) (follow b' j x)
  follow_like zero a x h = h
  follow_like (suc j) a x h = step (follow b j a) (follow b' j x) (follow_like j a x h)
    where
      step : (o p : Option Addr) → LikeOption R o p → LikeOption R (option_and_then (need b) o) (option_and_then (need b') p)
      step (Some c) (Some y) k = need_like c y k
      step None None k = tt
      step o p k = absurd k

  -- the way comes back in the one book where it does in the other
  there : (j : ℕ) (a x : Addr) → R a x → follow b j a ≡ Some a → follow b' j x ≡ Some x
  there j a x h = go (follow b j a) (follow b' j x) (follow_like j a x h)
    where
      go : (o p : Option Addr) → LikeOption R o p → o ≡ Some a → p ≡ Some x
      go (Some c) (Some y) k e = (let same : c ≡ a = cc in ap Some (m.one a y x (subst (λ z. R z y) same k) h))
      go None None k e = cc
      go o p k e = absurd k

  here : (j : ℕ) (a x : Addr) → R a x → follow b' j x ≡ Some x → follow b j a ≡ Some a
  here j a x h = go (follow b j a) (follow b' j x) (follow_like j a x h)
    where
      go : (o p : Option Addr) → LikeOption R o p → p ≡ Some x → o ≡ Some a
      go (Some c) (Some y) k e = (let same : y ≡ x = cc in ap Some (m.back c a x (subst (R c) same k) h))
      go None None k e = cc
      go o p k e = absurd k

  pub period_there : (a x : Addr) → R a x → (n : ℕ) → HasPeriod b a n → HasPeriod b' x n
  period_there a x h n p = record { some = p.some; back = there n a x h p.back; first = λ j l i e. p.first j l i (here j a x h e) }

  pub period_here : (a x : Addr) → R a x → (n : ℕ) → HasPeriod b' x n → HasPeriod b a n
  period_here a x h n p = record { some = p.some; back = here n a x h p.back; first = λ j l i e. p.first j l i (there j a x h e) }

  pub period_like : (a x : Addr) → R a x → period b (length (formulas b)) a ≡ period b' (length (formulas b')) x
  period_like a x h = go (period b (length (formulas b)) a) refl (period b' (length (formulas b')) x) refl
    where
      go : (o : Option ℕ) → period b (length (formulas b)) a ≡ o → (p : Option ℕ) → period b' (length (formulas b')) x ≡ p → period b (length (formulas b)) a ≡ period b' (length (formulas b')) x
      go (Some n) e p f = e ∙ sym ((loops_are_found b' x n).1 (period_there a x h n ((loops_are_found b a n).0 e)))
      go None e (Some n) f = (loops_are_found b a n).1 (period_here a x h n ((loops_are_found b' x n).0 f)) ∙ sym f
      go None e None f = e ∙ sym f

  pub shown_like : (a x : Addr) → R a x → LikeShown V (shown b a) (shown b' x)
  unfolding shown
  shown_like a x h =
      subst (λ r. LikeShown V (shown_from (formula_at b a) (own b a) (finished b a) (period b (length (formulas b)) a)) (shown_from (formula_at b' x) (own b' x) (finished b' x) r)) (period_like a x h)
      (shown_from_like R V a x (formula_at b a) (formula_at b' x) (own b a) (own b' x) (finished b a) (finished b' x) (m.cells a x h) (finished_like a x h) (period b (length (formulas b)) a))

pub mirrored : (R : OnCells) (V : OnValues) → MirroredBy R V
mirrored R V b b' m a x h = (shown_like R V b b' m a x h, λ n. (period_there R V b b' m a x h n, period_here R V b b' m a x h n))
