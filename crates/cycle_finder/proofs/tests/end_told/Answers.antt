use Rattle.std.proofs.Common.{◌≡◌, ◌∷◌, Some, length, sym, ap, arith}
use Rattle.cycle_finder.specs.Search.{cells_behind}
use Rattle.cycle_finder.proofs.Found.{next_cells}
use Rattle.cycle_finder.proofs.Told.{told_on, all_told}
use Rattle.cycle_finder.proofs.tests.end_told.Goals as goal

pub loop-cell-smaller : goal.loop-cell-smaller
loop-cell-smaller g c =
    let b = c.args.book.now.book in
    let next : cells_behind b c.loop-cell.last ≡ c.in-Some.cell ∷ cells_behind b (Some c.in-Some.cell) = next_cells b c.check_told.ensures.order c.loop-cell.last c.in-Some.cell (sym c.in-Some.ensures) in
    omega (arith, ap length next)

pub loop-cell-preserved : goal.loop-cell-preserved
loop-cell-preserved g c = told_on c.args.book.now.book c.check_told.ensures.order c.loop-cell.last c.in-Some.cell c.args.told.now.entries (sym c.in-Some.ensures) c.loop-cell.invariant c.check_told.ensures.told

pub returns : goal.returns
returns g c = all_told c.args.book.now.book c.loop-cell.last c.args.told.now.entries (sym c.in_default.ensures) c.requires c.loop-cell.invariant
