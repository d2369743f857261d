use Rattle.std.proofs.Common.{sym, ◌∙◌}
use Rattle.moved_books.proofs.Moving.{none_touched, more_touched, all_touched}
use Rattle.moved_books.proofs.Walk.{fewer_behind}
use Rattle.moved_books.proofs.touched.touched_cells.Goals as goal

pub loop-at-init : goal.loop-at-init
loop-at-init c = none_touched c.args.change c.args.book.now.book c.new-touched.result.items c.new-touched.ensures.items

pub loop-at-smaller : goal.loop-at-smaller
loop-at-smaller c = fewer_behind c.args.book.now.book.cells c.count-count.ensures.workbook.order c.loop-at.after c.in-Some.at (sym c.next_cell.ensures ∙ c.in-Some.is)

pub loop-at-preserved : goal.loop-at-preserved
loop-at-preserved c = more_touched c.args.change c.args.book.now.book c.loop-at.after c.in-Some.at c.loop-at.touched.items c.push_touched.new.touched.items c.count-count.ensures.workbook.order (sym c.next_cell.ensures ∙ c.in-Some.is) c.loop-at.invariant c.in_ok-push_touched.ensures

pub returns : goal.returns
returns c = all_touched c.args.change c.args.book.now.book c.loop-at.after c.loop-at.touched.items (sym c.next_cell.ensures ∙ c.in_default.is) c.loop-at.invariant
