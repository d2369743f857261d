use Rattle.std.proofs.Common.{◌∙◌}
use Rattle.speculative_eval.proofs.Keeping.{begun_kept, same_jobs}
use Rattle.speculative_eval.proofs.worker.Worker.new.Goals as goal

pub with_parts-requires-after_bounds : goal.with_parts-requires-after_bounds
with_parts-requires-after_bounds g c κs out =
    let same = same_jobs c.args.book.now.book c.args.round.now.setup.book c.args.cells.now c.args.round.now.setup.cells c.worker.result c.args.pass.worker c.workers-workers.result c.args.round.now.setup.workers c.requires.book.0 c.requires.book.1 c.worker.ensures c.workers-workers.ensures.number in
    begun_kept c.args.round.now c.args.pass c.in-Ok.machine c.requires.pass c.workers-workers.ensures.pending (c.in-Ok.ensures.job ∙ same) c.in-Ok.ensures.state c.in-Ok.ensures.first
