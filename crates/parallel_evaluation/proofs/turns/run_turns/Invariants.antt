use Rattle.std.proofs.Common.{◌≡◌, drop, length}
use Rattle.claim_core.specs.Passes.{IsTurnOf}
use Rattle.parallel_evaluation.specs.Order.{run}
use Rattle.parallel_evaluation.specs.Turns.{AreWorkers, board}
use Rattle.parallel_evaluation.proofs.turns.run_turns.Given as goal

abbrev pub invariant-loop-i : goal.invariant-loop-i
invariant-loop-i l = record {
  turn : IsTurnOf l.round l.turn;
  workers : AreWorkers l.round l.workers;
  count : length l.workers ≡ length l.fn.workers;
  whole : run l.round.setup (drop l.i l.order) (board l.events.items l.turn.words l.workers) ≡ run l.round.setup l.order (board l.fn.events.items l.fn.turn.words l.fn.workers);
}
