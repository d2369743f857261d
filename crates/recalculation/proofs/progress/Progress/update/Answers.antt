use Rattle.std.proofs.Common.{refl}
use Rattle.cell_values.specs.Areas.{is_inside}
use Rattle.recalculation.proofs.Updates.{closed_but, pending_is, progress_updated}
use Rattle.recalculation.proofs.progress.Progress.update.Goals as goal

pub edited-requires-clause-closed : goal.edited-requires-clause-closed
edited-requires-clause-closed c = closed_but c.args.book.now.book (is_inside c.args.changed) c.args.self.now c.link_area.new.support c.in_ok-link_area.ensures c.requires.progress

pub returns-clause-pending : goal.returns-clause-pending
returns-clause-pending c = pending_is c.args.book.now.book (is_inside c.args.changed) c.args.self.now.stale c.edited.new.self c.known.ensures.order c.ordered.ensures
    (c.in_ok-edited.ensures.pending c.args.book.now.book c.in_ok-link_area.ensures)

pub returns-clause-progress : goal.returns-clause-progress
returns-clause-progress c = progress_updated c.args.book.now.book (is_inside c.args.changed) c.args.self.now _ c.known.ensures.order c.requires.built c.requires.built c.in_ok-link_area.ensures refl
    (returns-clause-pending c) c.requires.progress
