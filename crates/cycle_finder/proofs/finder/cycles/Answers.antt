use Rattle.std.proofs.Common.{◌≡◌, ◌∷◌, Some, length, sym, ap, subst, arith}
use Rattle.cell_values.specs.Order.{InOrder, addresses}
use Rattle.demand_spec.specs.Book.{Book}
use Rattle.cycle_finder.specs.Search.{cells_behind}
use Rattle.cycle_finder.proofs.Found.{next_cells, all_found}
use Rattle.cycle_finder.proofs.finder.cycles.Goals as goal

pub loop-cell-init : goal.loop-cell-init
loop-cell-init c = record { book = c.in_ok-walker.ensures; found = c.new-found.ensures c.args.book.now.book }

pub loop-cell-smaller : goal.loop-cell-smaller
loop-cell-smaller c =
    let b = c.args.book.now.book in
    let order : InOrder (addresses b.cells) = subst (λ (z : Book). InOrder (addresses z.cells)) c.loop-cell.invariant.book c.in_ok-visit.ensures.order in
    let next : cells_behind b c.loop-cell.last ≡ c.in-Some.cell ∷ cells_behind b (Some c.in-Some.cell) = next_cells b order c.loop-cell.last c.in-Some.cell (sym c.in-Some.ensures) in
    omega (arith, ap length next)

pub returns : goal.returns
returns c = all_found c.args.book.now.book c.loop-cell.last c.loop-cell.found.loops.items c.loop-cell.found.seen.keys (sym c.in_default.ensures) c.loop-cell.invariant.found
