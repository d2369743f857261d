-- Each rule adds only what the book shows.
use Rattle.std.proofs.Common.{◌≡◌, ℕ, zero, suc, ◌<◌, inr, ⊎_elim, List, [], ◌∷◌, length, map, get_or, set, refl, sym, ap, ◌∙◌, subst, Option, Some, None, option_and_then, arith}
use Rattle.std.proofs.lemmas.List.{length-set}
use Rattle.cell_values.specs.declared.address.Addr.{Addr}
use Rattle.cell_values.specs.declared.values.Value.{Value}
use Rattle.cell_values.specs.declared.values.Shown.{Shown}
use Rattle.formula_trees.specs.Expr.{Expr}
use Rattle.demand_spec.specs.declared.Asked.TheVariants.{Val, Needs}
use Rattle.demand_spec.specs.Book.{formula_at, finished, need, follow, shown, ask_cell}
use Rattle.demand_spec.specs.Laws.{PartOf, In, Unfinished, OnLoop}
use Rattle.demand_spec.proofs.Loops.{carried, need_from_demand}
use Rattle.demand_spec.proofs.Cycles.{shown_cycle}
use Rattle.claim_core.specs.Pending.{IsPending}
use Rattle.worker_machine.specs.Jobs.{Pending, cell_at, cell_number, shows}
use Rattle.worker_machine.specs.Evaluation.{Among, Below, Knows, known_value, mark_cycle, stored_value, value_from, value_in, values}
use Rattle.worker_machine.proofs.Places.{number_some, number_none, cell_one, cell_in_cells, closed_cells}
use Rattle.worker_machine.proofs.Numbers.{KnownList, known_below, length-marks, in_cells, cells_in, set_from, set_keeps, marks_from, marks_keep, marks_at}
use Rattle.worker_machine.proofs.Closing.{Closes, closes_period, next_in_loop}
use Rattle.worker_machine.proofs.Shows.{values_part, mark_unfinished, gives_shown, demands, needed_lacks, carries, to_cycle_off, back_from, off_closed}

-- a result that is no mark of a cycle, of whatever length
pub knows_more : (ps : Pending) (k : KnownList) (i : ℕ) (r : Shown) → Knows ps k → i < length ps.cells → r ≡ shows ps i → ((n : ℕ) → r ≡ Shown.Cycle n → ⊥) → Knows ps (set k i (Some r))
knows_more ps k i r h l e alone =
    let within : i < length k = (let z = h.sized in omega arith) in
    record {
      sized = length-set k i (Some r) ∙ h.sized;
      right = λ m q d. ⊎_elim (λ (p : (m ≡ i) × (q ≡ r)). p.1 ∙ e ∙ ap (λ z. shows ps z) (sym p.0)) (λ p. h.right m q p) (set_from k i m r q within d);
      whole = λ m n y d p. ⊎_elim (λ (c : (m ≡ i) × (Shown.Cycle n ≡ r)). absurd (alone n (sym c.1)))
          (λ c. let w = h.whole m n y c p in
          (w.0, w.1, w.2, set_keeps k i w.0 r (Shown.Cycle w.1) within w.3 (λ s. h.right w.0 (Shown.Cycle w.1) w.3 ∙ ap (λ z. shows ps z) s ∙ sym e)))
          (set_from k i m r (Shown.Cycle n) within d);
    }

-- the marks of a cycle that was closed: as many cells as were marked
pub knows_loop : (ps : Pending) (k : KnownList) (i : ℕ) (part : List ℕ) → Knows ps k → Closes ps i [] part → Below (length ps.cells) part → Knows ps (mark_cycle part k)
knows_loop ps k i part h c b =
    let within : Below (length k) part = subst (λ z. Below z part) (sym h.sized) b in
    let at : (n : ℕ) → Among n part → In (cell_at ps n) (map (cell_at ps) (i ∷ c.rest)) = λ n m. cells_in ps n (i ∷ c.rest) (c.into n (inr m)) in
    let new : (n : ℕ) → Among n part → shows ps n ≡ Shown.Cycle (length part) = λ n m. shown_cycle ps.book (cell_at ps n) (length part) (c.loop.unfinished (cell_at ps n) (at n m)) (closes_period ps i part c n m) in
    record {
      sized = length-marks (length part) part k ∙ h.sized;
      right = λ n q d. ⊎_elim
          (λ (p : Among n part × (q ≡ Shown.Cycle (length part))). p.1 ∙ sym (new n p.0))
          (λ p. h.right n q p)
          (marks_from (length part) part k n q within d);
      whole = λ n x y d p. ⊎_elim
          (λ (m : Among n part × (Shown.Cycle x ≡ Shown.Cycle (length part))).
          let next = next_in_loop ps.book (cell_at ps i) (map (cell_at ps) c.rest) (cell_at ps n) y c.loop (at n m.0) p in
          let r = in_cells ps y (i ∷ c.rest) next in
          (r.0, length part, sym r.2, marks_at (length part) part k r.0 within (⊎_elim (λ (z : ⊥). absurd z) (λ z. z) (c.from r.0 r.1))))
          (λ m. let w = h.whole n x y m p in (w.0, w.1, w.2, marks_keep (length part) part k w.0 (Shown.Cycle w.1) within w.3 (λ a. h.right w.0 (Shown.Cycle w.1) w.3 ∙ new w.0 a)))
          (marks_from (length part) part k n (Shown.Cycle x) within d);
    }

-- from a known cell of a cycle `need` leads only to known cells of cycles
follow_known : (ps : Pending) (k : KnownList) → Knows ps k → (n i x : ℕ) → get_or k i None ≡ Some (Shown.Cycle x) → (y : Addr) → follow ps.book n (cell_at ps i) ≡ Some y → (m : ℕ) × (z : ℕ) × (cell_at ps m ≡ y) × (get_or k m None ≡ Some (Shown.Cycle z))
follow_known ps k h zero i x e y p = (i, x, cc, e)
follow_known ps k h (suc n) i x e y p = go (λ z. follow_known ps k h n i x e z) (follow ps.book n (cell_at ps i)) refl p
  where
    go : ((z : Addr) → follow ps.book n (cell_at ps i) ≡ Some z → (m : ℕ) × (w : ℕ) × (cell_at ps m ≡ z) × (get_or k m None ≡ Some (Shown.Cycle w))) → (o : Option Addr) → follow ps.book n (cell_at ps i) ≡ o → option_and_then (need ps.book) o ≡ Some y → (m : ℕ) × (w : ℕ) × (cell_at ps m ≡ y) × (get_or k m None ≡ Some (Shown.Cycle w))
    go before None q d = cc
    go before (Some z) q d = (let w = before z q in h.whole w.0 w.1 y w.3 (ap (need ps.book) w.2 ∙ d))

-- a cell that is not known and needs a known cell of a cycle is on no loop
off_known : (ps : Pending) (k : KnownList) → IsPending ps.book ps.cells → Knows ps k → (c i x : ℕ) → c < length ps.cells → get_or k c None ≡ None → get_or k i None ≡ Some (Shown.Cycle x) → need ps.book (cell_at ps c) ≡ Some (cell_at ps i) → OnLoop ps.book (cell_at ps c) → ⊥
off_known ps k pending h c i x l n e d on =
    let b = back_from ps.book (cell_at ps c) (cell_at ps i) d on in
    let f = follow_known ps k h b.0 i x e (cell_at ps c) b.1 in
    let m : f.0 < length ps.cells = (let g = known_below k f.0 (Shown.Cycle f.1) f.3 in let z = h.sized in omega arith) in
    let same : f.0 ≡ c = cell_one ps pending f.0 c m l f.2 in
    let clash : get_or k c None ≡ Some (Shown.Cycle f.1) = subst (λ z. get_or k z None ≡ Some (Shown.Cycle f.1)) same f.3 in
    cc

-- what the top cell needs shows a mark
module _ (ps : Pending) (k : KnownList) (pending : IsPending ps.book ps.cells) (h : Knows ps k) where
  part : PartOf (values ps k) (finished ps.book)
  part = values_part ps k pending h.right

  needs_mark : (c x : Addr) (t : Expr) → ask_cell ps.book (values ps k) c ≡ Some (Needs x) → formula_at ps.book x ≡ Some t → value_in (shown ps.book x) ≡ None → (need ps.book c ≡ Some x) × Unfinished ps.book x
  needs_mark c x t a f m =
      let u = mark_unfinished ps.book x t f m in
      (need_from_demand ps.book c x (demands ps.book (values ps k) c x part a) u, record { tree = t; is_formula = f; outside = u })

  stored_none : (x : Addr) (t : Expr) → formula_at ps.book x ≡ Some t → cell_number ps x ≡ None → values ps k x ≡ None → value_in (shown ps.book x) ≡ None
  stored_none x t f p e =
      let one : value_from ps k x None ≡ None = subst (λ o. value_from ps k x o ≡ None) p e in
      subst (λ o. stored_value o (shown ps.book x) ≡ None) f one

  pub needs_other : (c : ℕ) (x : Addr) → c < length ps.cells → ask_cell ps.book (values ps k) (cell_at ps c) ≡ Some (Needs x) → cell_number ps x ≡ None → shows ps c ≡ Shown.ToCycle
  needs_other c x l a p =
      let f = needed_lacks ps.book (values ps k) (cell_at ps c) x a in
      let n = needs_mark (cell_at ps c) x f.0 a f.1 (stored_none x f.0 f.1 p f.2) in
      carries ps.book (cell_at ps c) x n.0 (off_closed ps.book (λ a. In a ps.cells) (closed_cells ps pending) (cell_at ps c) x n.0 (cell_in_cells ps c l) (number_none ps x p))

  off_mark : (c i : ℕ) (x : Addr) → c < length ps.cells → get_or k c None ≡ None → cell_at ps i ≡ x → need ps.book (cell_at ps c) ≡ Some x → Unfinished ps.book x → (r : Shown) → get_or k i None ≡ Some r → r ≡ shown ps.book x → value_in r ≡ None → OnLoop ps.book (cell_at ps c) → ⊥
  off_mark c i x l u same n un (Shown.Val v) e q m on = cc
  off_mark c i x l u same n un Shown.ToCycle e q m on = to_cycle_off ps.book x un (sym q) (carried ps.book (cell_at ps c) x n on)
  off_mark c i x l u same n un (Shown.Cycle z) e q m on = off_known ps k pending h c i z l u e (n ∙ ap Some (sym same)) on

  pub needs_known : (c : ℕ) (x : Addr) → c < length ps.cells → get_or k c None ≡ None → ask_cell ps.book (values ps k) (cell_at ps c) ≡ Some (Needs x) → (i : ℕ) → cell_number ps x ≡ Some i → (r : Shown) → get_or k i None ≡ Some r → shows ps c ≡ Shown.ToCycle
  needs_known c x l u a i p r e =
      let at = number_some ps x i p in
      let f = needed_lacks ps.book (values ps k) (cell_at ps c) x a in
      let right : r ≡ shown ps.book x = h.right i r e ∙ ap (shown ps.book) at.1 in
      let one : value_from ps k x (Some i) ≡ None = subst (λ o. value_from ps k x o ≡ None) p f.2 in
      let none : value_in r ≡ None = subst (λ o. known_value o ≡ None) e one in
      let n = needs_mark (cell_at ps c) x f.0 a f.1 (subst (λ z. value_in z ≡ None) right none) in
      carries ps.book (cell_at ps c) x n.0 (off_mark c i x l u at.1 n.0 n.1 r e right none)

  pub gives_value : (c : ℕ) (v : Value) → ask_cell ps.book (values ps k) (cell_at ps c) ≡ Some (Val v) → shows ps c ≡ Shown.Val v
  gives_value c v a = gives_shown ps.book (values ps k) (cell_at ps c) v part a
