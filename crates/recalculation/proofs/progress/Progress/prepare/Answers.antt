use Rattle.std.proofs.Common.{subst}
use Rattle.recalculation.specs.Written.{HasRoomFor, OthersStay}
use Rattle.recalculation.proofs.Ready.{pending_ready, stored_ready, progress_reserved}
use Rattle.recalculation.proofs.progress.Progress.prepare.Goals as goal

pub returns-clause-progress : goal.returns-clause-progress
returns-clause-progress c = progress_reserved c.args.book.now.book c.build.new.self c.reserve.new.stored
    (subst (λ cells. OthersStay cells c.build.new.self.stored.entries c.reserve.new.stored.entries) c.cells.ensures.same c.in_ok-reserve.ensures.others)
    c.in_ok-build.ensures.progress

pub returns-clause-ready : goal.returns-clause-ready
returns-clause-ready c = record {
  built = c.in_ok-build.ensures.built;
  pending = pending_ready c.args.book.now.book c.build.new.self c.known.ensures.few c.in_ok-build.ensures.progress;
  stored = stored_ready c.args.book.now.book _ c.in_ok-build.ensures.built (returns-clause-progress c);
  room = subst (λ cells. HasRoomFor cells c.reserve.new.stored.entries) c.cells.ensures.same c.in_ok-reserve.ensures.room;
}

pub returns-in_err-reserve-clause-progress : goal.returns-in_err-reserve-clause-progress
returns-in_err-reserve-clause-progress c = progress_reserved c.args.book.now.book c.build.new.self c.reserve.new.stored
    (subst (λ cells. OthersStay cells c.build.new.self.stored.entries c.reserve.new.stored.entries) c.cells.ensures.same c.in_err-reserve.ensures.others)
    c.in_ok-build.ensures.progress
