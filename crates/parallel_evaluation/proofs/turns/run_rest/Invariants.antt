use Rattle.std.proofs.Common.{◌≡◌, ◌-◌, length}
use Rattle.claim_core.specs.Passes.{IsTurnOf}
use Rattle.parallel_evaluation.specs.Order.{all_ended}
use Rattle.parallel_evaluation.specs.Turns.{AreWorkers, board, HaveEnded}
use Rattle.parallel_evaluation.proofs.turns.run_rest.Given as goal

abbrev pub invariant-loop-by : goal.invariant-loop-by
invariant-loop-by l = record {
  turn : IsTurnOf l.round l.turn;
  workers : AreWorkers l.round l.workers;
  size : length l.workers ≡ length l.fn.workers;
  count : l.count ≡ length l.fn.workers;
  whole : all_ended l.round.setup l.stopped (l.count - l.by) l.by (board l.events.items l.turn.words l.workers) ≡ all_ended l.round.setup l.stopped l.count 0 (board l.fn.events.items l.fn.turn.words l.fn.workers);
  ended : HaveEnded l.stopped l.workers l.by;
}
