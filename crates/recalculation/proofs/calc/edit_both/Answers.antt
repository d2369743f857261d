use Rattle.std.proofs.Common.{◌≡◌, true, sym, subst}
use Rattle.cell_values.specs.Areas.{is_inside}
use Rattle.demand_spec.specs.Edits.{pending_after}
use Rattle.recalculation.specs.Standing.{IsProgressBut}
use Rattle.recalculation.proofs.Followed.{after_edit, pending_followed, refused_progress, refused_left}
use Rattle.recalculation.proofs.calc.edit_both.Goals as goal

pub follow-requires-clause-progress : goal.follow-requires-clause-progress
follow-requires-clause-progress c = subst (λ r. IsProgressBut c.change.new.book.book (is_inside r) c.args.progress.now) (sym c.area-written.ensures.same)
    (after_edit c.args.book.now c.change.new.book c.args.edit.now c.args.progress.now c.known.ensures c.in-Ok.ensures.ok c.change.ensures.kept_texts c.requires.progress)

pub returns-in_ok-follow-in-Ok-clause-pending : goal.returns-in_ok-follow-in-Ok-clause-pending
returns-in_ok-follow-in-Ok-clause-pending c = pending_followed c.args.book.now c.change.new.book c.args.edit.now c.args.progress.now c.follow.new.self c.known.ensures c.in-Ok.ensures.ok c.in_ok-follow-in-Ok.ensures.built
    (subst (λ r. c.args.progress.now.built ≡ true → c.follow.new.self.stale ≡ pending_after c.change.new.book.book c.args.progress.now.stale (is_inside r)) c.area-written.ensures.same c.in_ok-follow-in-Ok.ensures.pending)

pub returns-in-Err-clause-progress : goal.returns-in-Err-clause-progress
returns-in-Err-clause-progress c = refused_progress c.args.book.now c.change.new.book c.args.progress.now c.fail.new.self c.in-Err.ensures.err c.in-Err.fault c.known.ensures c.change.ensures.kept_texts c.requires.progress
    c.fail.ensures.unbuilt c.fail.ensures.support c.fail.ensures.stale c.fail.ensures.other

pub returns-in-Err-clause-left : goal.returns-in-Err-clause-left
returns-in-Err-clause-left c = refused_left c.args.book.now c.change.new.book c.args.progress.now c.fail.new.self c.in-Err.ensures.err c.args.edit.now c.in-Err.fault c.fail.ensures.unbuilt c.fail.ensures.other
