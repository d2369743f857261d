use Rattle.std.proofs.Common.{cond, ◌∙◌, ap, refl, sym}
use Rattle.demand_spec.specs.Book.{formulas}
use Rattle.recalculation.proofs.Updates.{filled, progress_built}
use Rattle.recalculation.proofs.progress.Progress.build.Goals as goal

pub returns-clause-progress : goal.returns-clause-progress
returns-clause-progress c = progress_built c.args.book.now.book _ c.known.ensures.order refl c.in_ok-support.ensures
    (filled c.args.book.now.book c.in_ok-support.support c.fill.new.self c.known.ensures.order c.ordered.ensures c.in_ok-support.ensures c.in_ok-fill.ensures.ok)

pub returns-clause-same : goal.returns-clause-same
returns-clause-same c =
    filled c.args.book.now.book c.in_ok-support.support c.fill.new.self c.known.ensures.order c.ordered.ensures c.in_ok-support.ensures c.in_ok-fill.ensures.ok
    ∙ sym (ap (λ q. cond q c.args.self.now.stale (formulas c.args.book.now.book)) c.if-self.false)
