use Rattle.std.proofs.Common.{◌≡◌, ℕ, ◌<◌, true}
use Rattle.parallel_evaluation.specs.Order.{is_stopped}
use Rattle.parallel_evaluation.proofs.ordered.first_running.Given as goal

abbrev pub invariant-loop-by : goal.invariant-loop-by
invariant-loop-by l = (k : ℕ) → k < l.by-counter → is_stopped l.stopped k ≡ true
