use Rattle.std.proofs.Common.{ap, sym, ◌∙◌}
use Rattle.workbook_core.specs.Apart.{Apart}
use Rattle.moved_books.proofs.Fitting.{moved_fit}
use Rattle.moved_books.proofs.Moving.{none_moved, more_moved, all_moved}
use Rattle.moved_books.proofs.Walk.{fewer_behind}
use Rattle.moved_books.proofs.moved.moved_cells.Goals as goal

pub loop-at-init : goal.loop-at-init
loop-at-init c = none_moved c.args.change c.args.book.now.book.cells c.new-apart.result.cells (ap (λ (a : Apart). a.cells) c.new-apart.ensures)

pub loop-at-smaller : goal.loop-at-smaller
loop-at-smaller c = fewer_behind c.args.book.now.book.cells c.count-count.ensures.workbook.order c.loop-at.after c.in-Some.at (sym c.next_cell.ensures ∙ c.in-Some.is)

pub loop-at-preserved : goal.loop-at-preserved
loop-at-preserved c = more_moved c.args.change c.args.book.now.book.cells c.loop-at.after c.in-Some.at c.loop-at.apart.cells c.put_moved.new.apart.cells c.count-count.ensures.workbook.order (sym c.next_cell.ensures ∙ c.in-Some.is) c.loop-at.invariant c.in_ok-put_moved.ensures

pub returns-clause-cells : goal.returns-clause-cells
returns-clause-cells c = all_moved c.args.change c.args.book.now.book.cells c.loop-at.after c.loop-at.apart.cells (sym c.next_cell.ensures ∙ c.in_default.is) c.loop-at.invariant

pub returns-clause-fit : goal.returns-clause-fit
returns-clause-fit c = moved_fit c.args.change c.args.book.now c.loop-at.apart c.requires c.count-count.ensures.workbook
    (all_moved c.args.change c.args.book.now.book.cells c.loop-at.after c.loop-at.apart.cells (sym c.next_cell.ensures ∙ c.in_default.is) c.loop-at.invariant)
