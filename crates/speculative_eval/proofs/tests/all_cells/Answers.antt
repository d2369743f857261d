use Rattle.std.proofs.Common.{◌≡◌, ◌≤◌, ℕ, zero, suc, length, eqb, false, sym, ◌∙◌, subst, arith}
use Rattle.cell_values.specs.Order.{addresses}
use Rattle.demand_spec.specs.Laws.{In}
use Rattle.demand_stack.proofs.Driving.{all_pending, none_stored}
use Rattle.speculative_eval.proofs.tests.all_cells.Goals as goal

some : (n : ℕ) → eqb n 0 ≡ false → 1 ≤ n
some zero e = cc
some (suc n) e = omega arith

pub returns : goal.returns
returns g c =
    let all : c.in_ok-cells.cells.items ≡ addresses c.args.book.now.book.cells = c.in_ok-cells.ensures.cells in
    let one : 1 ≤ length c.deref.result.now = subst (λ z. 1 ≤ z) (sym c.deref.ensures.len) (some _ (sym c.is_empty.ensures ∙ c.if-is_empty.false)) in record {
      pending = all_pending c.args.book.now c.in_ok-cells.cells.items c.in_ok-cells.ensures.workbook all (subst (λ z. 1 ≤ length z) c.deref.ensures.value one) (λ a m. c.are_formulas.ensures c.if-not-are_formulas.false a (subst (In a) (sym c.deref.ensures.value) m));
      others = none_stored c.args.book.now c.in_ok-cells.cells.items c.in_ok-cells.ensures.workbook all;
    }
