use Rattle.std.proofs.Common.{◌≡◌, ◌≤◌, ◌+◌, ◌++◌, map, reverse, vec_len, vec_capacity}
use Rattle.std.specs.List.{All, zip}
use Rattle.claim_core.specs.Passes.{IsIdle}
use Rattle.speculative_eval.specs.Hinted.{hints_with}
use Rattle.speculative_eval.specs.Workers.{begun}
use Rattle.parallel_evaluation.proofs.hiring.hire.Given as goal

abbrev pub invariant-loop-pass : goal.invariant-loop-pass
invariant-loop-pass g l = record {
  passes : All (IsIdle l.round) l.passes.items;
  workers : l.workers.items ++ map (λ p. begun l.round p.0 (hints_with (g.H.Hints.left p.1) (g.H.Hints.last p.1) (g.H.Hints.over p.1))) (zip (reverse l.passes.items) (reverse l.hints.items))
      ≡ map (λ p. begun l.round p.0 (hints_with (g.H.Hints.left p.1) (g.H.Hints.last p.1) (g.H.Hints.over p.1))) (zip l.fn.passes.items l.fn.hints.items);
  count : vec_len l.workers + vec_len l.passes ≡ vec_len l.fn.passes;
  hints : vec_len l.hints ≡ vec_len l.passes;
  room : vec_len l.workers + vec_len l.passes ≤ vec_capacity l.workers;
}

abbrev pub decreases-loop-pass : goal.decreases-loop-pass
decreases-loop-pass g l = vec_len l.passes
