use Rattle.std.proofs.Common.{length, ap, ◌∙◌}
use Rattle.speculative_eval.specs.Workers.{WorkerSeen}
use Rattle.speculative_eval.proofs.worker.Worker.into_parts.Goals as goal

pub returns-clause-count : goal.returns-clause-count
returns-clause-count g c =
    ap length c.into_results.ensures ∙ (c.self.invariant.works.state.evaluation.knows.sized ∙ ap (λ (w : WorkerSeen). length w.job.pending.cells) c.self.view_is)
