use Rattle.claim_core.specs.Passes.{IsTurnOf}
use Rattle.speculative_eval.specs.Workers.{BelongsTo}
use Rattle.speculative_eval.proofs.tests.run.Given as goal

abbrev pub invariant-loop-i : goal.invariant-loop-i
invariant-loop-i g l = record { zero : BelongsTo l.round l.two.zero; one : BelongsTo l.round l.two.one; turn : IsTurnOf l.round l.turn }
