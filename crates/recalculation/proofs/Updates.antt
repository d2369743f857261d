-- What is kept beside a workbook once support and pending cells are brought up to date.
use Rattle.std.proofs.Common.{◌≡◌, true, false, ◌⊎◌, inl, inr, ⊎_elim, List, [], Option, Some, IsSome, refl, sym, ap, ◌∙◌, subst}
use Rattle.std.specs.Prelude.{◌↔◌}
use Rattle.cell_values.specs.declared.address.Addr.{Addr}
use Rattle.cell_values.specs.Order.{InOrder, addresses, entry_at}
use Rattle.demand_spec.specs.Book.{Book, formula_at, formulas}
use Rattle.demand_spec.specs.Edits.{pending_after}
use Rattle.demand_spec.specs.Laws.{In, Mentions, Reached, start, step, Set, OfSet, Pending}
use Rattle.demand_spec.proofs.OneList.{one_list}
use Rattle.demand_spec.proofs.Rounds.{in_formulas}
use Rattle.demand_spec.proofs.Spread.{pending_listed, formulas_order, formulas_hold}
use Rattle.support_graph.specs.Pending.{IsClosedBut}
use Rattle.support_graph.specs.Support.{CellAreas, IsSupportOf}
use Rattle.support_graph.proofs.Books.{reads_mentions, cell_formula, formula_cell}
use Rattle.support_graph.proofs.Reach.{cell_in, cell_listed}
use Rattle.recalculation.specs.declared.progress.Progress.{Progress}
use Rattle.recalculation.specs.Calculations.{has_result}
use Rattle.recalculation.specs.Standing.{IsProgressBut, IsProgress}
use Rattle.recalculation.proofs.Results.{result_formula, result_settled, result_there, some_tree, none_settled}

some_of : {X : Type 0} (o : Option X) (x : X) → o ≡ Some x → IsSome o
some_of o x e = subst IsSome (sym e) refl

-- what the search for pending cells asks
pub closed_but : (b : Book) (A : Set) (p : Progress) (s : CellAreas) → IsSupportOf b s → IsProgressBut b A p → IsClosedBut s p.stale A
closed_but b A p s l k = record {
  cells = λ a m. ⊎_elim (λ (f : IsSome (formula_at b a)). inr (let t = some_tree (formula_at b a) f in formula_cell b s l a t.0 t.1)) (λ (f : A a ≡ true). inl f) (k.are_formulas a m);
  readers = λ a c m r. k.closed a c m (reads_mentions b s l c a r);
}

-- what it finds is the list of the definition
pub pending_is : (b : Book) (A : Set) (old new : List Addr) → InOrder (addresses b.cells) → InOrder new → ((c : Addr) → In c new ↔ Pending b (λ a. In a old) (OfSet A) c) → new ≡ pending_after b old A
pending_is b A old new o q h =
    let l = pending_listed b old A o in
    one_list new (pending_after b old A) q l.1 (λ c. (λ (m : In c new). (l.0 c).1 ((h c).0 m), λ (m : In c (pending_after b old A)). (h c).1 ((l.0 c).0 m)))

-- all is right for the book then
pub progress_updated : (b : Book) (A : Set) (p p' : Progress) → InOrder (addresses b.cells) → p.built ≡ true → p'.built ≡ true → IsSupportOf b p'.support → p'.stored.entries ≡ p.stored.entries → p'.stale ≡ pending_after b p.stale A → IsProgressBut b A p → IsProgress b p'
progress_updated b A p p' o h h' l e f k = record {
  unbuilt = λ q. absurd (let z : true ≡ false = sym h' ∙ q in cc);
  linked = λ q c n. l c;
  in_order = subst InOrder (sym f) (pending_listed b p.stale A o).1;
  are_formulas = λ c m. let t = (to c m).0 in inl (some_of (formula_at b c) t.0 t.1);
  closed = λ a c m d. inl (from c (goes_on a c d (to a m).1));
  results = λ q c free r.
      let settled = result_settled b p'.stale c r in
      let t = some_tree (formula_at b c) (result_formula b p'.stale c r) in
      let away : Reached b (OfSet A) c → ⊥ = λ n. settled (from c ((t.0, t.1), inr n)) in
      let apart : In c p.stale → ⊥ = λ n. settled (from c ((t.0, t.1), inl n)) in
      ap (λ es. entry_at es c) e ∙ k.results h c away (result_there b p.stale c (result_formula b p'.stale c r) apart);
}
  where
    to : (c : Addr) → In c p'.stale → Pending b (λ a. In a p.stale) (OfSet A) c
    to c m = ((pending_listed b p.stale A o).0 c).0 (subst (In c) f m)

    from : (c : Addr) → Pending b (λ a. In a p.stale) (OfSet A) c → In c p'.stale
    from c m = subst (In c) (sym f) (((pending_listed b p.stale A o).0 c).1 m)

    goes_on : (a c : Addr) → Mentions b c a → In a p.stale ⊎ Reached b (OfSet A) a → Pending b (λ x. In x p.stale) (OfSet A) c
    goes_on a c d (inl m) = ((d.tree, d.is_formula), ⊎_elim (λ (n : In c p.stale). inl n) (λ (n : A c ≡ true). inr (start c n)) (k.closed a c m d))
    goes_on a c d (inr r) = ((d.tree, d.is_formula), inr (step a c r d))

-- where no support is built nothing has to be right
pub progress_unbuilt : (b : Book) (p : Progress) → p.built ≡ false → p.support ≡ [] → p.stale ≡ [] → IsProgress b p
progress_unbuilt b p h e f = record {
  unbuilt = λ _. (e, f);
  linked = λ q. absurd (let z : false ≡ true = sym h ∙ q in cc);
  in_order = subst InOrder (sym f) tt;
  are_formulas = λ c m. absurd (subst (In c) f m);
  closed = λ a c m d. absurd (subst (In a) f m);
  results = λ q. absurd (let z : false ≡ true = sym h ∙ q in cc);
}

-- the cells of a support are the formula cells
support_lists : (b : Book) (s : CellAreas) → InOrder (addresses b.cells) → InOrder (addresses s) → IsSupportOf b s → addresses s ≡ formulas b
support_lists b s o q l = one_list (addresses s) (formulas b) q (formulas_order b o) (λ c. (to c, from c))
  where
    to : (c : Addr) → In c (addresses s) → In c (formulas b)
    to c m = (let f = cell_formula b s l c (cell_listed c s m) in in_formulas b c f.0 f.1)

    from : (c : Addr) → In c (formulas b) → In c (addresses s)
    from c m = (let f = formulas_hold b o c m in cell_in c s (formula_cell b s l c f.0 f.1))

-- a list that was filled from a support has all formula cells
pub filled : (b : Book) (s : CellAreas) (new : List Addr) → InOrder (addresses b.cells) → InOrder new → IsSupportOf b s → new ≡ addresses s → new ≡ formulas b
filled b s new o q l e = e ∙ support_lists b s o (subst InOrder e q) l

-- a support that was built for a book whose formula cells are all pending
pub progress_built : (b : Book) (p : Progress) → InOrder (addresses b.cells) → p.built ≡ true → IsSupportOf b p.support → p.stale ≡ formulas b → IsProgress b p
progress_built b p o h l f = record {
  unbuilt = λ q. absurd (let z : true ≡ false = sym h ∙ q in cc);
  linked = λ q c n. l c;
  in_order = subst InOrder (sym f) (formulas_order b o);
  are_formulas = λ c m. let t = formulas_hold b o c (subst (In c) f m) in inl (some_of (formula_at b c) t.0 t.1);
  closed = λ a c m d. inl (subst (In c) (sym f) (in_formulas b c d.tree d.is_formula));
  results = λ q c free r. absurd (let z : true ≡ false = sym r ∙ ap (λ xs. has_result b xs c) f ∙ none_settled b c in cc);
}
