-- What a search from some cells finds is what the book reaches from them.
use Rattle.std.proofs.Common.{◌≡◌, ◌⊎◌, inl, inr, ⊎_elim, List, [], subst}
use Rattle.std.specs.Prelude.{◌↔◌}
use Rattle.cell_values.specs.declared.address.Addr.{Addr}
use Rattle.cell_values.specs.Order.{InOrder}
use Rattle.demand_spec.specs.Book.{Book}
use Rattle.demand_spec.specs.Laws as laws
use Rattle.demand_spec.specs.Laws.{In, Set, OfSet, Pending}
use Rattle.support_graph.specs.Pending.{Reached, start, step, among, IsPendingFrom}
use Rattle.support_graph.specs.Support.{CellAreas, IsSupportOf}
use Rattle.support_graph.proofs.Books.{reads_mentions, mentions_reads, cell_formula, formula_cell}
use Rattle.recalculation.specs.Shifts.{AreReached}

in_book : (b : Book) (s : CellAreas) (A : Set) → IsSupportOf b s → (c : Addr) → Reached s A c → laws.Reached b (OfSet A) c
in_book b s A h c (start d k) = laws.start c k
in_book b s A h c (step a d r k) = laws.step a c (in_book b s A h a r) (reads_mentions b s h c a k)

in_support : (b : Book) (s : CellAreas) (A : Set) → IsSupportOf b s → (c : Addr) → laws.Reached b (OfSet A) c → Reached s A c
in_support b s A h c (laws.start d k) = start c k
in_support b s A h c (laws.step a d r k) = step a c (in_support b s A h a r) (mentions_reads b s h c a k)

only_right : {X : Type 0} → ⊥ ⊎ X → X
only_right (inl e) = absurd e
only_right (inr x) = x

pub reached_listed : (b : Book) (s : CellAreas) (from old new : List Addr) → IsSupportOf b s → old ≡ [] → InOrder new → ((c : Addr) → In c new ↔ IsPendingFrom s old (among from) c) → AreReached b from new
reached_listed b s from old new h none o k = record { order = o; cells = λ c. (to c, back c) }
  where
    to : (c : Addr) → In c new → Pending b (λ a. ⊥) (OfSet (among from)) c
    to c m =
        let q = (k c).0 m in
        (cell_formula b s h c q.0, ⊎_elim (λ (n : In c old). inl (subst (In c) none n)) (λ (r : Reached s (among from) c). inr (in_book b s (among from) h c r)) q.1)

    back : (c : Addr) → Pending b (λ a. ⊥) (OfSet (among from)) c → In c new
    back c m = (k c).1 (formula_cell b s h c m.0.0 m.0.1, inr (in_support b s (among from) h c (only_right m.1)))
