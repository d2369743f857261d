use Rattle.claim_core.specs.Passes.{IsTurnOf}
use Rattle.speculative_eval.specs.Workers.{BelongsTo}
use Rattle.speculative_eval.proofs.tests.run_to_end.Given as goal

abbrev pub invariant-loop : goal.invariant-loop
invariant-loop g l = record { zero : BelongsTo l.round l.two.zero; one : BelongsTo l.round l.two.one; turn : IsTurnOf l.round l.turn }
