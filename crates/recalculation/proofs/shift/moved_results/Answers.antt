use Rattle.std.proofs.Common.{sym, ◌∙◌}
use Rattle.recalculation.proofs.Carried.{none_carried, more_carried, all_carried}
use Rattle.recalculation.proofs.Walked.{fewer_behind}
use Rattle.recalculation.proofs.shift.moved_results.Goals as goal

pub loop-at-init : goal.loop-at-init
loop-at-init c = none_carried c.args.change c.args.book.now.book.cells c.args.stored.now.entries c.new-moved.result.entries

pub loop-at-smaller : goal.loop-at-smaller
loop-at-smaller c = fewer_behind c.args.book.now.book.cells c.loop-at.after c.in-Some.at (sym c.next_cell.ensures ∙ c.in-Some.is)

pub loop-at-preserved : goal.loop-at-preserved
loop-at-preserved c = more_carried c.args.change c.args.book.now.book.cells c.args.stored.now.entries c.loop-at.moved.entries c.carry.new.moved.entries c.loop-at.after c.in-Some.at c.known.ensures.order (sym c.next_cell.ensures ∙ c.in-Some.is) c.in_ok-carry.ensures c.loop-at.invariant

pub returns : goal.returns
returns c = all_carried c.args.change c.args.book.now.book.cells c.args.stored.now.entries c.loop-at.moved.entries c.loop-at.after (sym c.next_cell.ensures ∙ c.in_default.is) c.loop-at.invariant
