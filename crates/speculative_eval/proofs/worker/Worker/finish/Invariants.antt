use Rattle.std.proofs.Common.{◌≡◌, ◌+◌, ◌-◌, ◌*◌, length}
use Rattle.speculative_eval.specs.Workers.{IsWorkerOf}
use Rattle.speculative_eval.proofs.worker.Worker.finish.Given as goal

abbrev pub invariant-loop : goal.invariant-loop
invariant-loop g l = record {
  worker : IsWorkerOf l.round l.self;
  same : l.self.job ≡ l.fn.self.job;
}

abbrev pub decreases-loop : goal.decreases-loop
decreases-loop g l = 16 * length l.self.job.pending.cells + 16 - length l.self.pass.view.events
