use Rattle.std.proofs.Common.{◌≡◌, ◌+◌, ◌*◌, ◌-◌, ◌≤◌, length}
use Rattle.claim_core.specs.Passes.{IsTurnOf}
use Rattle.parallel_evaluation.specs.Order.{to_end, most_turns}
use Rattle.parallel_evaluation.specs.Turns.{AreWorkers, board, steps_at, OthersStay}
use Rattle.parallel_evaluation.proofs.turns.run_to_end.Given as goal

abbrev pub invariant-loop-event : goal.invariant-loop-event
invariant-loop-event l = record {
  turn : IsTurnOf l.round l.turn;
  workers : AreWorkers l.round l.workers;
  count : length l.workers ≡ length l.fn.workers;
  others : OthersStay l.by l.fn.workers l.workers;
  grown : steps_at l.fn.workers l.by ≤ steps_at l.workers l.by;
  few : steps_at l.workers l.by ≤ 16 * length l.round.setup.cells + 16;
  whole : to_end l.round.setup l.by (most_turns (length l.round.setup.cells) - (steps_at l.workers l.by - steps_at l.fn.workers l.by)) (board l.events.items l.turn.words l.workers)
      ≡ to_end l.round.setup l.by (most_turns (length l.round.setup.cells)) (board l.fn.events.items l.fn.turn.words l.fn.workers);
}

abbrev pub decreases-loop-event : goal.decreases-loop-event
decreases-loop-event l = (16 * length l.round.setup.cells + 16) - steps_at l.workers l.by
