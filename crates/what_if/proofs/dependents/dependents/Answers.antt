use Rattle.std.proofs.Common.{[], ◌∷◌, sym, subst}
use Rattle.std.specs.Prelude.{◌↔◌}
use Rattle.std.proofs.lemmas.Result.{IfOk-weaker}
use Rattle.cell_values.specs.declared.address.Addr.{Addr}
use Rattle.cell_values.specs.Order.{InOrder}
use Rattle.demand_spec.specs.Laws.{In}
use Rattle.workbook_core.specs.Books.{IsWorkbook}
use Rattle.support_graph.specs.Pending.{IsPendingFrom, among}
use Rattle.what_if.specs.Tables.{AreDependents}
use Rattle.what_if.proofs.Depending.{found_dependents}
use Rattle.what_if.proofs.dependents.dependents.Goals as goal

pub spread-requires-clause-cells : goal.spread-requires-clause-cells
spread-requires-clause-cells c = λ a k. absurd (subst (In a) c.new-reached.ensures k)

pub spread-requires-clause-readers : goal.spread-requires-clause-readers
spread-requires-clause-readers c = λ a b k. absurd (subst (In a) c.new-reached.ensures k)

pub returns : goal.returns
returns c =
    let reached : (a : Addr) → In a c.spread.new.self ↔ IsPendingFrom c.support.result.now [] (among (c.args.at ∷ [])) a = λ a. subst (λ old. In a c.spread.new.self ↔ IsPendingFrom c.support.result.now old (among (c.args.at ∷ [])) a) c.new-reached.ensures (c.in_ok-spread.ensures.cells a) in
    IfOk-weaker c.without.result _ (λ cells. AreDependents c.args.calc.now.shared.book c.args.at cells.items)
    (λ cells e. subst (AreDependents c.args.calc.now.shared.book c.args.at) (sym e)
    (found_dependents c.args.calc.now.shared c.args.at (subst IsWorkbook c.book.ensures c.tell_cells.ensures) c.support.result.now c.support.ensures c.cells-cells.result.now (subst InOrder (sym c.cells-cells.ensures.same) c.cells-cells.ensures.in_order)
    (λ a. subst (λ xs. In a xs ↔ IsPendingFrom c.support.result.now [] (among (c.args.at ∷ [])) a) (sym c.cells-cells.ensures.same) (reached a))))
    c.without.ensures
