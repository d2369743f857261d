use Rattle.std.proofs.Common.{◌≡◌, Bool, true, false, cond, ◌⊎◌, inl, inr, ⊎_elim, List, Option, Some, None, IsSome, IsSomeAnd, refl, sym, ◌∙◌, subst, arith}
use Rattle.cell_values.specs.declared.address.Addr.{Addr}
use Rattle.cell_values.specs.declared.address.Area.{Area}
use Rattle.cell_values.specs.Addresses.{same_addr}
use Rattle.cell_values.specs.Areas.{is_inside, one_cell}
use Rattle.cell_values.specs.Order.{entry_at}
use Rattle.cell_values.proofs.Order.{same_addr-true}
use Rattle.demand_spec.specs.Laws.{In}
use Rattle.support_graph.specs.Pending.{IsClosedBut}
use Rattle.support_graph.specs.Support.{CellAreas, hold, IsCell, Reads}
use Rattle.support_graph.proofs.Readers.{from_inside}
use Rattle.support_graph.proofs.tests.clear.Goals as goal

own_cell : (at a : Addr) → same_addr at a ≡ true → is_inside (one_cell at) a ≡ true
own_cell at a e = subst (λ x. is_inside (one_cell at) x ≡ true) (same_addr-true at a e) (from_inside (one_cell at) at (record { sheet = grind arith; top = omega arith; bottom = omega arith; left = omega arith; right = omega arith }))

-- a cell was taken out
still_closed : (s t : CellAreas) (at : Addr) (old : List Addr) → IsClosedBut s old (λ _. false) → ((c : Addr) → entry_at t c ≡ cond (same_addr at c) None (entry_at s c)) → IsClosedBut t old (is_inside (one_cell at))
still_closed s t at old closed h = record {
  cells = λ a m. cell a (same_addr at a) refl (closed.cells a m);
  readers = λ a c m k. reader a c (same_addr at c) refl m (subst (λ o. IsSomeAnd o (λ areas. hold areas a ≡ true)) (h c) k);
}
  where
    cell : (a : Addr) (q : Bool) → same_addr at a ≡ q → (false ≡ true) ⊎ IsCell s a → (is_inside (one_cell at) a ≡ true) ⊎ IsCell t a
    cell a true e m = inl (own_cell at a e)
    cell a false e (inl f) = absurd cc
    cell a false e (inr m) = inr (subst IsSome (sym (h a ∙ (λ i. cond (e i) None (entry_at s a)))) m)

    reader : (a c : Addr) (q : Bool) → same_addr at c ≡ q → In a old → IsSomeAnd (cond {A = Option (List Area)} (same_addr at c) None (entry_at s c)) (λ areas. hold areas a ≡ true) → In c old ⊎ (is_inside (one_cell at) c ≡ true)
    reader a c true e m k = inr (own_cell at c e)
    reader a c false e m k = ⊎_elim (λ (n : In c old). inl n) (λ (f : false ≡ true). absurd cc) (closed.readers a c m (subst (λ q. IsSomeAnd (cond {A = Option (List Area)} q None (entry_at s c)) (λ areas. hold areas a ≡ true)) e k))

pub edited-requires-clause-closed : goal.edited-requires-clause-closed
edited-requires-clause-closed c = subst (λ (r : Area). IsClosedBut c.drop_cell.new.self c.args.stale.now (is_inside r)) (sym c.of.ensures.same) (still_closed c.args.support.now c.drop_cell.new.self c.args.at c.args.stale.now c.requires.closed c.drop_cell.ensures)
