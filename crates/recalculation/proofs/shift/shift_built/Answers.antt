use Rattle.std.proofs.Common.{sym, subst, ◌∙◌}
use Rattle.workbook_core.specs.Books.{SharedBook, IsWorkbook}
use Rattle.recalculation.specs.Standing.{IsProgress}
use Rattle.recalculation.proofs.Shifted.{progress_at, stale_at, swapped_book, swapped_back}
use Rattle.recalculation.proofs.shift.shift_built.Goals as goal

pub returns-in-Ok-clause-progress : goal.returns-in-Ok-clause-progress
returns-in-Ok-clause-progress c =
    let is = swapped_book c.args.change c.args.book.now c.swap_cells.new.self c.in_ok-cells.cells c.swap_cells.ensures.workbook c.in_ok-cells.ensures.cells in
    progress_at c.args.change c.args.book.now.book c.swap_cells.new.self.book c.deref.result.now c.in_ok-results.results.entries c.args.progress.now c.in-Ok.moved c.requires.change c.known.ensures.order c.requires.progress c.requires.built is
    (c.deref.ensures.value ∙ c.in_ok-from.ensures) c.in_ok-results.ensures c.in-Ok.ensures.built c.in-Ok.ensures.support c.in-Ok.ensures.stale c.in-Ok.ensures.stored

pub returns-in-Ok-clause-pending : goal.returns-in-Ok-clause-pending
returns-in-Ok-clause-pending c =
    let is = swapped_book c.args.change c.args.book.now c.swap_cells.new.self c.in_ok-cells.cells c.swap_cells.ensures.workbook c.in_ok-cells.ensures.cells in
    stale_at c.args.change c.args.book.now.book c.swap_cells.new.self.book c.deref.result.now c.args.progress.now c.in-Ok.moved.stale c.requires.change c.known.ensures.order c.requires.progress is
    (c.deref.ensures.value ∙ c.in_ok-from.ensures) c.in-Ok.ensures.stale

pub swap_cells-requires-in-Err : goal.swap_cells-requires-in-Err
swap_cells-requires-in-Err c = subst IsWorkbook (sym (swapped_back c.args.book.now c.swap_cells.new.self c.in_ok-cells.cells c.swap_cells.new.apart c.swap_cells.ensures.workbook c.swap_cells.ensures.apart)) c.known.ensures

pub returns-clause-progress : goal.returns-clause-progress
returns-clause-progress c =
    let back = swapped_back c.args.book.now c.swap_cells.new.self c.in_ok-cells.cells c.swap_cells.new.apart c.swap_cells.ensures.workbook c.swap_cells.ensures.apart in
    subst (λ (w : SharedBook). IsProgress w.book c.args.progress.now) (sym (c.swap_cells-in-Err.ensures.workbook ∙ back)) c.requires.progress
