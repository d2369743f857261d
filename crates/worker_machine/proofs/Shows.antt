-- What known values and marks say of what the book shows.
use Rattle.std.proofs.Common.{◌≡◌, ℕ, zero, suc, ◌<◌, length, refl, sym, ap, ◌∙◌, subst, Option, Some, None, get_or, arith}
use Rattle.cell_values.specs.declared.address.Addr.{Addr}
use Rattle.cell_values.specs.declared.values.Value.{Value}
use Rattle.demand_spec.specs.declared.Asked.{Asked}
use Rattle.demand_spec.specs.declared.Asked.TheVariants.{Val, Needs}
use Rattle.cell_values.specs.declared.values.Shown.{Shown}
use Rattle.formula_trees.specs.Expr.{Expr}
use Rattle.demand_spec.specs.Book.{Book, Known, formula_at, ask, ask_formula, ask_cell, value_given, finished, need, follow, shown}
use Rattle.demand_spec.specs.Laws.{PartOf, Unfinished, Demands, OnLoop, IsClosed}
use Rattle.demand_spec.proofs.Rounds.{ask_value, finished_again}
use Rattle.demand_spec.proofs.Loops.{follow_then}
use Rattle.demand_spec.proofs.Local.{ask_in, closed_back}
use Rattle.demand_spec.proofs.Cycles.{shown_cycle, shown_to_cycle, loop_period, needs_unfinished, values_show}
use Rattle.worker_machine.proofs.Places.{number_some, formula_there}
use Rattle.worker_machine.proofs.Numbers.{KnownList}
use Rattle.claim_core.specs.Pending.{IsPending}
use Rattle.worker_machine.specs.Jobs.{Pending, cell_at, cell_number}
use Rattle.worker_machine.specs.Evaluation.{AllRight, known_value, stored_value, value_from, value_in, values}

-- a formula cell shows its value exactly where it is finished

pub shown_val : (b : Book) (a : Addr) (t : Expr) (v : Value) → formula_at b a ≡ Some t → shown b a ≡ Shown.Val v → finished b a ≡ Some v
shown_val b a t v f = (values_show b a t v f).0

pub val_shown : (b : Book) (a : Addr) (t : Expr) (v : Value) → formula_at b a ≡ Some t → finished b a ≡ Some v → shown b a ≡ Shown.Val v
val_shown b a t v f = (values_show b a t v f).1

value_in_some : (r : Shown) (v : Value) → value_in r ≡ Some v → r ≡ Shown.Val v
value_in_some (Shown.Val w) v e = (let same : w ≡ v = cc in ap Shown.Val same)
value_in_some (Shown.Cycle n) v e = cc
value_in_some Shown.ToCycle v e = cc

-- a formula cell that shows a mark is not finished
pub mark_unfinished : (b : Book) (a : Addr) (t : Expr) → formula_at b a ≡ Some t → value_in (shown b a) ≡ None → finished b a ≡ None
mark_unfinished b a t f e = go (finished b a) refl
  where
    go : (o : Option Value) → finished b a ≡ o → finished b a ≡ None
    go None q = q
    go (Some v) q = (let s = val_shown b a t v f q in let d = subst (λ z. value_in z ≡ None) s e in cc)

-- what is known is a part of what is finished
pub values_part : (ps : Pending) (k : KnownList) → IsPending ps.book ps.cells → AllRight ps k → PartOf (values ps k) (finished ps.book)
values_part ps k pending right a v e = go (cell_number ps a) refl e
  where
    by_known : (i : ℕ) → (i < length ps.cells) × (cell_at ps i ≡ a) → (o : Option Shown) → get_or k i None ≡ o → known_value o ≡ Some v → finished ps.book a ≡ Some v
    by_known i p None q d = cc
    by_known i p (Some r) q d =
        let f = formula_there ps pending i p.0 in
        let shows : shown ps.book (cell_at ps i) ≡ Shown.Val v = sym (right i r q) ∙ value_in_some r v d in
        subst (λ z. finished ps.book z ≡ Some v) p.1 (shown_val ps.book (cell_at ps i) f.0 v f.1 shows)

    by_stored : (o : Option Expr) → formula_at ps.book a ≡ o → stored_value o (shown ps.book a) ≡ Some v → finished ps.book a ≡ Some v
    by_stored (Some t) f d = shown_val ps.book a t v f (value_in_some (shown ps.book a) v d)
    by_stored None f d = cc

    go : (o : Option ℕ) → cell_number ps a ≡ o → value_from ps k a o ≡ Some v → finished ps.book a ≡ Some v
    go (Some i) p d = by_known i (number_some ps a i p) (get_or k i None) refl d
    go None p d = by_stored (formula_at ps.book a) refl d

-- what an asked cell's answer is about
pub record AskedFor (b : Book) (e : Known) (c : Addr) (r : Asked) : Type 0 where
  pub tree : Expr
  pub is_formula : formula_at b c ≡ Some tree
  pub gives : ask b e c tree ≡ r

pub asked_for : (b : Book) (e : Known) (c : Addr) (r : Asked) → ask_cell b e c ≡ Some r → AskedFor b e c r
unfolding ask_cell
asked_for b e c r h = go (formula_at b c) refl h
  where
    go : (o : Option Expr) → formula_at b c ≡ o → ask_formula b e c o ≡ Some r → AskedFor b e c r
    go (Some t) q d = record { tree = t; is_formula = q; gives = cc }
    go None q d = cc

pub asked_none : (b : Book) (e : Known) (c : Addr) (t : Expr) → formula_at b c ≡ Some t → ask_cell b e c ≡ None → ⊥
unfolding ask_cell
asked_none b e c t f h = (let d = subst (λ o. ask_formula b e c o ≡ None) f h in cc)

-- rule 6
pub gives_shown : (b : Book) (e : Known) (c : Addr) (v : Value) → PartOf e (finished b) → ask_cell b e c ≡ Some (Val v) → shown b c ≡ Shown.Val v
unfolding ask_cell
gives_shown b e c v part h =
    let a = asked_for b e c (Val v) h in
    let all : ask b (finished b) c a.tree ≡ Val v = ask_value b e (finished b) c a.tree part v a.gives in
    let again : value_given (ask_formula b (finished b) c (Some a.tree)) ≡ Some v = ap (λ r. value_given (Some r)) all in
    let round_has : value_given (ask_formula b (finished b) c (formula_at b c)) ≡ Some v = subst (λ o. value_given (ask_formula b (finished b) c o) ≡ Some v) (sym a.is_formula) again in
    val_shown b c a.tree v a.is_formula (sym (ap (λ (f : Known). f c) (finished_again b)) ∙ round_has)

pub demands : (b : Book) (e : Known) (c x : Addr) → PartOf e (finished b) → ask_cell b e c ≡ Some (Needs x) → Demands b c x
demands b e c x part h = (let a = asked_for b e c (Needs x) h in record { tree = a.tree; is_formula = a.is_formula; over = e; part = part; needs = a.gives })

-- the needed cell is a formula cell without a known value
pub needed_lacks : (b : Book) (e : Known) (c x : Addr) → ask_cell b e c ≡ Some (Needs x) → (t : Expr) × (formula_at b x ≡ Some t) × (e x ≡ None)
needed_lacks b e c x h =
    let a = asked_for b e c (Needs x) h in
    let l = (ask_in b e c a.tree x a.gives).1 in
    (l.tree, l.is_formula, l.unknown)

-- a mark that is carried
pub carries : (b : Book) (c x : Addr) → need b c ≡ Some x → (OnLoop b c → ⊥) → shown b c ≡ Shown.ToCycle
carries b c x e n = shown_to_cycle b c (needs_unfinished b c x e) n

-- a cell that shows ToCycle is on no loop
pub to_cycle_off : (b : Book) (x : Addr) → Unfinished b x → shown b x ≡ Shown.ToCycle → OnLoop b x → ⊥
to_cycle_off b x u e l = (let n = loop_period b x l in let c = shown_cycle b x n.0 u n.1 in cc)

-- from a cell on a loop its need leads back to it
pub back_from : (b : Book) (c x : Addr) → need b c ≡ Some x → OnLoop b c → (n : ℕ) × (follow b n x ≡ Some c)
back_from b c x e l = go l.0 l.1 l.2
  where
    go : (n : ℕ) → 0 < n → follow b n c ≡ Some c → (m : ℕ) × (follow b m x ≡ Some c)
    go zero p q = absurd (omega arith)
    go (suc n) p q = (n, sym (follow_then b 1 c x e n (suc n) (omega arith)) ∙ q)

-- no loop goes out of a closed set
pub off_closed : (b : Book) (P : Addr → Type 0) → IsClosed b P → (c x : Addr) → need b c ≡ Some x → P c → (P x → ⊥) → OnLoop b c → ⊥
off_closed b P closed c x e p n l = (let w = back_from b c x e l in n (closed_back b P closed w.0 x c w.1 p))
