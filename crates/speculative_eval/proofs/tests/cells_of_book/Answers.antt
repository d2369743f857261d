use Rattle.std.proofs.Common.{◌≡◌, ◌∷◌, ◌++◌, [], length, sym, ap, subst, arith}
use Rattle.std.proofs.lemmas.List.{length_push}
use Rattle.demand_stack.proofs.Driving.{IsWalked, walk_starts, walked_low, walked_more, walk_ends}
use Rattle.speculative_eval.proofs.tests.cells_of_book.Goals as goal

pub loop-next-init : goal.loop-next-init
loop-next-init c = walk_starts c.args.book.now.book.cells c.new-cells.result.items c.next_cell-next.result c.new-cells.ensures.items c.next_cell-next.ensures

pub loop-next-preserved : goal.loop-next-preserved
loop-next-preserved c =
    let items : c.push.new.self.items ≡ c.loop-next.cells.items ++ c.in-Some.at ∷ [] = c.in_ok-push.ensures.items in
    subst (λ z. IsWalked c.args.book.now.book.cells z c.next_cell-next-in-Some.result) (sym items)
    (walked_more c.args.book.now.book.cells c.loop-next.cells.items c.loop-next.next c.in-Some.at c.next_cell-next-in-Some.result c.content-content.ensures.workbook.order c.loop-next.invariant c.in-Some.is c.next_cell-next-in-Some.ensures)

pub loop-next-smaller : goal.loop-next-smaller
loop-next-smaller c =
    let items : c.push.new.self.items ≡ c.loop-next.cells.items ++ c.in-Some.at ∷ [] = c.in_ok-push.ensures.items in
    let long = ap length items in
    let one = length_push c.loop-next.cells.items c.in-Some.at in
    let low = walked_low c.args.book.now.book.cells c.loop-next.cells.items c.loop-next.next c.in-Some.at c.loop-next.invariant c.in-Some.is in
    omega arith

pub returns-clause-cells : goal.returns-clause-cells
returns-clause-cells c = walk_ends c.args.book.now.book.cells c.loop-next.cells.items c.loop-next.next c.loop-next.invariant c.in_default.is
