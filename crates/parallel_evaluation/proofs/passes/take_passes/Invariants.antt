use Rattle.std.proofs.Common.{◌≡◌, ◌≤◌, ◌+◌, vec_len, vec_capacity}
use Rattle.std.specs.List.{All}
use Rattle.claim_core.specs.Passes.{Belongs}
use Rattle.speculative_eval.specs.Workers.{BelongsTo}
use Rattle.parallel_evaluation.specs.Workers.{BeginsWith}
use Rattle.parallel_evaluation.proofs.passes.take_passes.Given as goal

abbrev pub invariant-loop-worker : goal.invariant-loop-worker
invariant-loop-worker g l = record {
  workers : All (BelongsTo l.round) l.workers.items;
  passes : All (Belongs l.round) l.passes.items;
  count : vec_len l.passes + vec_len l.workers ≡ vec_len l.fn.passes + vec_len l.fn.workers;
  room : vec_len l.passes + vec_len l.workers ≤ vec_capacity l.passes;
  first : BeginsWith l.passes.items l.fn.passes.items;
}

abbrev pub decreases-loop-worker : goal.decreases-loop-worker
decreases-loop-worker g l = vec_len l.workers
