-- What is kept beside a workbook is right behind a change of rows.
use Rattle.std.proofs.Common.{◌≡◌, Bool, true, false, cond, ◌||◌, ◌⊎◌, inl, inr, ⊎_elim, List, ◌++◌, Option, Some, IsSome, refl, sym, ap, ◌∙◌, subst}
use Rattle.std.specs.Prelude.{filter_map}
use Rattle.cell_values.specs.declared.address.Addr.{Addr}
use Rattle.cell_values.specs.declared.values.Shown.{Shown}
use Rattle.cell_values.specs.Order.{InOrder, addresses, entry_at}
use Rattle.formula_trees.specs.Expr.{Expr}
use Rattle.demand_spec.specs.Book.{Book, formula_at, formulas, shown}
use Rattle.demand_spec.specs.Laws.{In, IsClosed, Mentions, Reached, start, step, OfSet}
use Rattle.demand_spec.proofs.Members.{member_found, found_member}
use Rattle.demand_spec.proofs.OneList.{one_list}
use Rattle.demand_spec.proofs.Rounds.{in_formulas}
use Rattle.demand_spec.proofs.Spread.{pending_listed, formulas_order, formulas_hold}
use Rattle.row_shift.specs.declared.change.RowChange.{RowChange}
use Rattle.row_shift.specs.Moves.{IsChange, move_cell, moved}
use Rattle.row_shift.specs.MovedBook.{moved_book, moved_cells, touched_places, pending_moved}
use Rattle.row_shift.proofs.Closed.{origin, to_places, from_places, formula_held, listed, moved_pending_closed}
use Rattle.row_shift.proofs.Order.{moved_order}
use Rattle.row_shift.proofs.Untouched.{formula_there, untouched_show_the_same}
use Rattle.support_graph.specs.Pending.{among}
use Rattle.support_graph.specs.Support.{IsSupportOf}
use Rattle.workbook_core.specs.Apart.{Apart, cells_of, with_cells}
use Rattle.workbook_core.specs.Books.{SharedBook}
use Rattle.workbook_core.proofs.Counting.{any_append}
use Rattle.recalculation.specs.declared.progress.Progress.{Progress}
use Rattle.recalculation.specs.Shifts.{AreCarried, AreReached}
use Rattle.recalculation.specs.Standing.{pending_in, IsProgress}
use Rattle.recalculation.proofs.Kept.{never_reached, never_false}
use Rattle.recalculation.proofs.Results.{result_formula, result_settled, result_there, some_tree}

some_of : {X : Type 0} (o : Option X) (x : X) → o ≡ Some x → IsSome o
some_of o x e = subst IsSome (sym e) refl

or_cases : (t u : Bool) → (t || u) ≡ true → (t ≡ true) ⊎ (u ≡ true)
or_cases true u e = inl refl
or_cases false u e = inr e

or_true : (t u : Bool) → u ≡ true → (t || u) ≡ true
or_true true u e = refl
or_true false u e = e

abbrev AreFormulas : Book → List Addr → Type 0
AreFormulas b P = (c : Addr) → In c P → (t : Expr) × (formula_at b c ≡ Some t)

module _ (change : RowChange) (b : Book) (P : List Addr) (ok : IsChange change) (order : InOrder (addresses b.cells)) where
  abbrev touched : List Addr
  touched = touched_places change b

  abbrev places : List Addr
  places = filter_map (move_cell change) P

  -- the place of a pending cell has a formula
  place_formula : AreFormulas b P → (x : Addr) → In x places → (t : Expr) × (formula_at (moved_book change b) x ≡ Some t)
  place_formula all x k =
      let p = from_places change P x k in
      let t = all p.0 p.1 in
      (moved change p.0 x t.0, formula_there change b p.0 x t.0 t.1 p.2)

  goes_on : AreFormulas b P → IsClosed (moved_book change b) (λ a. In a (pending_moved change b P)) → (a c : Addr) → Mentions (moved_book change b) c a → In a places ⊎ Reached (moved_book change b) (OfSet (among touched)) a → In c places ⊎ Reached (moved_book change b) (OfSet (among touched)) c
  goes_on all closed a c m (inl k) =
      let t = place_formula all a k in
      ((listed change b P order c).0 (closed c a ((listed change b P order a).1 ((t.0, t.1), inl k)) m)).1
  goes_on all closed a c m (inr r) = inr (step a c r m)

  -- what is reached from the touched cells and the pending ones is pending, or is reached from the touched ones
  reached_back : AreFormulas b P → IsClosed (moved_book change b) (λ a. In a (pending_moved change b P)) → (c : Addr) → Reached (moved_book change b) (OfSet (among (touched ++ places))) c → In c places ⊎ Reached (moved_book change b) (OfSet (among touched)) c
  reached_back all closed c (start d h) = ⊎_elim
      (λ (l : among touched c ≡ true). inr (start c l))
      (λ (r : among places c ≡ true). inl (found_member c places r))
      (or_cases (among touched c) (among places c) (sym (any_append c touched places) ∙ h))
  reached_back all closed c (step a d r m) = goes_on all closed a c m (reached_back all closed a r)

  reached_more : (c : Addr) → Reached (moved_book change b) (OfSet (among touched)) c → Reached (moved_book change b) (OfSet (among (touched ++ places))) c
  reached_more c (start d h) = start c (any_append c touched places ∙ ap (λ (t : Bool). t || among places c) h)
  reached_more c (step a d r m) = step a c (reached_more a r) m

  from_either : (c : Addr) → In c places ⊎ Reached (moved_book change b) (OfSet (among touched)) c → Reached (moved_book change b) (OfSet (among (touched ++ places))) c
  from_either c (inl k) = start c (any_append c touched places ∙ or_true (among touched c) (among places c) (member_found c places k))
  from_either c (inr r) = reached_more c r

  only_reached : {X : Type 0} → ⊥ ⊎ X → X
  only_reached (inl e) = absurd e
  only_reached (inr x) = x

  -- the search finds the list of the definition
  pub pending_shifted : AreFormulas b P → IsClosed b (λ a. In a P) → (new : List Addr) → AreReached (moved_book change b) (touched ++ places) new → new ≡ pending_moved change b P
  pending_shifted all closed new k = one_list new (pending_moved change b P) k.order (pending_listed (moved_book change b) places (among touched) (moved_order change b.cells order)).1 (λ c. (to c, back c))
    where
      stays : IsClosed (moved_book change b) (λ a. In a (pending_moved change b P))
      stays = moved_pending_closed change b P ok order closed

      to : (c : Addr) → In c new → In c (pending_moved change b P)
      to c m = (let q = (k.cells c).0 m in (listed change b P order c).1 (q.0, reached_back all stays c (only_reached q.1)))

      back : (c : Addr) → In c (pending_moved change b P) → In c new
      back c m = (let q = (listed change b P order c).0 m in (k.cells c).1 (q.0, inr (from_either c q.1)))

-- where all formula cells were pending, all are

pub all_shifted : (change : RowChange) (b : Book) → InOrder (addresses b.cells) → pending_moved change b (formulas b) ≡ formulas (moved_book change b)
all_shifted change b order = one_list (pending_moved change b (formulas b)) (formulas (moved_book change b))
    (pending_listed (moved_book change b) (filter_map (move_cell change) (formulas b)) (among (touched_places change b)) (moved_order change b.cells order)).1
    (formulas_order (moved_book change b) (moved_order change b.cells order)) (λ c. (to c, back c))
  where
    to : (c : Addr) → In c (pending_moved change b (formulas b)) → In c (formulas (moved_book change b))
    to c m = (let q = ((listed change b (formulas b) order c).0 m).0 in in_formulas (moved_book change b) c q.0 q.1)

    back : (c : Addr) → In c (formulas (moved_book change b)) → In c (pending_moved change b (formulas b))
    back c m =
        let t = formulas_hold (moved_book change b) (moved_order change b.cells order) c m in
        let o = origin change b c t.0 t.1 in
        (listed change b (formulas b) order c).1 ((t.0, t.1), inl (to_places change (formulas b) o.cell c (in_formulas b o.cell o.tree (formula_held b o.cell o.tree o.held)) o.place))

-- all is right for the moved book then

pub pending_formulas : (b : Book) (p : Progress) → IsProgress b p → AreFormulas b p.stale
pending_formulas b p k c m = some_tree (formula_at b c) (⊎_elim (λ (f : IsSome (formula_at b c)). f) (λ (f : false ≡ true). never_false f) (k.are_formulas c m))

pub pending_closed : (b : Book) (p : Progress) → IsProgress b p → IsClosed b (λ a. In a p.stale)
pending_closed b p k c a m d = ⊎_elim (λ (f : In c p.stale). f) (λ (f : false ≡ true). never_false f) (k.closed a c m d)

pub stale_shifted : (change : RowChange) (b : Book) (p : Progress) (new : List Addr) → IsChange change → InOrder (addresses b.cells) → IsProgress b p → AreReached (moved_book change b) (touched_places change b ++ filter_map (move_cell change) p.stale) new → new ≡ pending_moved change b p.stale
stale_shifted change b p new ok order k h = pending_shifted change b p.stale ok order (pending_formulas b p k) (pending_closed b p k) new h

pub progress_shifted : (change : RowChange) (b : Book) (p p' : Progress) → IsChange change → InOrder (addresses b.cells) → IsProgress b p → p.built ≡ true → p'.built ≡ true → IsSupportOf (moved_book change b) p'.support
    → AreReached (moved_book change b) (touched_places change b ++ filter_map (move_cell change) p.stale) p'.stale → AreCarried change b.cells p.stored.entries p'.stored.entries → IsProgress (moved_book change b) p'
progress_shifted change b p p' ok order k built built' support reached carried = record {
  unbuilt = λ q. absurd (let z : true ≡ false = sym built' ∙ q in cc);
  linked = λ q c n. support c;
  in_order = reached.order;
  are_formulas = λ c m. let t = ((reached.cells c).0 m).0 in inl (some_of (formula_at (moved_book change b) c) t.0 t.1);
  closed = λ a c m d. inl (subst (In c) (sym same) (moved_pending_closed change b p.stale ok order (pending_closed b p k) c a (subst (In a) same m) d));
  results = λ q c free r.
      let t = some_tree (formula_at (moved_book change b) c) (result_formula (moved_book change b) p'.stale c r) in
      let o = origin change b c t.0 t.1 in
      let formula : formula_at b o.cell ≡ Some o.tree = formula_held b o.cell o.tree o.held in
      let out : In c (pending_moved change b p.stale) → ⊥ = λ m. result_settled (moved_book change b) p'.stale c r (subst (In c) (sym same) m) in
      let apart : In o.cell p.stale → ⊥ = λ m. out ((listed change b p.stale order c).1 ((t.0, t.1), inl (to_places change p.stale o.cell c m o.place))) in
      let old : entry_at p.stored.entries o.cell ≡ Some (shown b o.cell) = k.results built o.cell (never_reached b o.cell) (result_there b p.stale o.cell (some_of (formula_at b o.cell) o.tree formula) apart) in
      carried o.cell c (shown b o.cell) (subst IsSome (sym o.held) refl) o.place old ∙ ap Some (sym (untouched_show_the_same change b p.stale o.cell c o.tree ok order formula o.place out));
}
  where
    same : p'.stale ≡ pending_moved change b p.stale
    same = stale_shifted change b p p'.stale ok order k reached

-- the same, where the book is the moved one by an equation

pub progress_at : (change : RowChange) (b b' : Book) (from : List Addr) (results : List (Addr × Shown)) (p p' : Progress) → IsChange change → InOrder (addresses b.cells) → IsProgress b p → p.built ≡ true → b' ≡ moved_book change b
    → from ≡ touched_places change b ++ filter_map (move_cell change) p.stale → AreCarried change b.cells p.stored.entries results → p'.built ≡ true → IsSupportOf b' p'.support → AreReached b' from p'.stale → p'.stored.entries ≡ results → IsProgress b' p'
progress_at change b b' from results p p' ok order k built is starts carried built' support reached stored =
    subst (λ (z : Book). IsProgress z p') (sym is)
    (progress_shifted change b p p' ok order k built built' (subst (λ (z : Book). IsSupportOf z p'.support) is support)
    (subst (λ (f : List Addr). AreReached (moved_book change b) f p'.stale) starts (subst (λ (z : Book). AreReached z from p'.stale) is reached))
    (subst (λ (es : List (Addr × Shown)). AreCarried change b.cells p.stored.entries es) (sym stored) carried))

pub stale_at : (change : RowChange) (b b' : Book) (from : List Addr) (p : Progress) (new : List Addr) → IsChange change → InOrder (addresses b.cells) → IsProgress b p → b' ≡ moved_book change b → from ≡ touched_places change b ++ filter_map (move_cell change) p.stale → AreReached b' from new → new ≡ pending_moved change b p.stale
stale_at change b b' from p new ok order k is starts reached = stale_shifted change b p new ok order k
    (subst (λ (f : List Addr). AreReached (moved_book change b) f new) starts (subst (λ (z : Book). AreReached z from new) is reached))

pub swapped_book : (change : RowChange) (w v : SharedBook) (a : Apart) → v ≡ with_cells w a → a.cells ≡ moved_cells change w.book.cells → v.book ≡ moved_book change w.book
swapped_book change w v a e f = ap (λ (u : SharedBook). u.book) e ∙ (λ i. record { cells = f i; texts = w.book.texts })

-- a second exchange undoes the first
pub swapped_back : (w v : SharedBook) (a d : Apart) → v ≡ with_cells w a → d ≡ cells_of w → with_cells v d ≡ w
swapped_back w v a d e f = λ i. with_cells (e i) (f i)

-- where nothing is built, all formula cells are pending before and after
pub unbuilt_shifted : (change : RowChange) (b b' : Book) (p : Progress) → InOrder (addresses b.cells) → p.built ≡ false → b' ≡ moved_book change b → pending_in b' p ≡ pending_moved change b (pending_in b p)
unbuilt_shifted change b b' p order none is =
    ap (λ (q : Bool). cond q p.stale (formulas b')) none
    ∙ ap formulas is
    ∙ sym (all_shifted change b order)
    ∙ ap (λ (q : Bool). pending_moved change b (cond q p.stale (formulas b))) (sym none)
