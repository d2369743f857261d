use Rattle.std.proofs.Common.{◌≡◌, ◌≤◌, ℕ, zero, suc, eqb, false, sym, ◌∙◌, subst, arith}
use Rattle.cell_values.specs.Order.{addresses}
use Rattle.demand_spec.specs.Laws.{In}
use Rattle.demand_stack.proofs.Driving.{all_pending, none_stored}
use Rattle.demand_stack.proofs.tests.shows_all.Goals as goal

some : (n : ℕ) → eqb n 0 ≡ false → 1 ≤ n
some zero e = cc
some (suc n) e = omega arith

pub new-requires-2-clause-pending : goal.new-requires-2-clause-pending
new-requires-2-clause-pending g c =
    let all : c.deref-2.result.now ≡ addresses c.args.book.now.book.cells = c.deref-2.ensures.value ∙ c.in_ok-cells.ensures.cells in
    rw c.new.ensures (all_pending c.args.book.now c.deref-2.result.now c.in_ok-cells.ensures.workbook all (subst (λ z. 1 ≤ z) (sym c.deref-2.ensures.len) (some _ (sym c.is_empty.ensures ∙ c.if-is_empty.false))) (λ a m. c.are_formulas.ensures c.if-not-are_formulas.false a (subst (In a) (c.deref-2.ensures.value ∙ sym c.deref.ensures.value) m)))

pub new-requires-2-clause-stored : goal.new-requires-2-clause-stored
new-requires-2-clause-stored g c =
    let all : c.deref-2.result.now ≡ addresses c.args.book.now.book.cells = c.deref-2.ensures.value ∙ c.in_ok-cells.ensures.cells in
    rw c.new.ensures (none_stored c.args.book.now c.deref-2.result.now c.in_ok-cells.ensures.workbook all c.new-stored.result.entries)
