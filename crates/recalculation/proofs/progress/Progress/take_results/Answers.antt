use Rattle.std.proofs.Common.{sym, subst}
use Rattle.recalculation.specs.Standing.{IsProgress}
use Rattle.recalculation.specs.Written.{HasResultsOf, OthersStay}
use Rattle.recalculation.proofs.Ready.{progress_done}
use Rattle.recalculation.proofs.progress.Progress.take_results.Goals as goal

pub returns-clause-progress : goal.returns-clause-progress
returns-clause-progress c = subst (λ s. IsProgress c.args.book.now.book (record c.args.self.now { stored = c.store_all.new.stored; stale = s })) (sym c.empty.ensures)
    (progress_done c.args.book.now.book c.args.self.now c.store_all.new.stored c.requires.ready.built
    (subst (λ cells. HasResultsOf c.args.book.now.book cells c.store_all.new.stored.entries) c.cells.ensures.same c.store_all.ensures.results)
    (subst (λ cells. OthersStay cells c.args.self.now.stored.entries c.store_all.new.stored.entries) c.cells.ensures.same c.store_all.ensures.others)
    c.requires.progress)
