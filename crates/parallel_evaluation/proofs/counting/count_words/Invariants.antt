use Rattle.claim_core.specs.Rule.{claimer_is, publisher_is}
use Rattle.parallel_evaluation.proofs.Tallies.{Counted}
use Rattle.parallel_evaluation.proofs.counting.count_words.Given as goal

abbrev pub invariant-loop-i : goal.invariant-loop-i
invariant-loop-i l = record {
  claimed : Counted claimer_is l.outcome.setup.workers l.outcome.words l.i l.claimed;
  published : Counted publisher_is l.outcome.setup.workers l.outcome.words l.i l.published;
}
