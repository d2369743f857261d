use Rattle.speculative_eval.specs.Workers.{IsWorkerOf}
use Rattle.speculative_eval.proofs.tests.make_steps.Given as goal

abbrev pub invariant-loop : goal.invariant-loop
invariant-loop g l = IsWorkerOf l.round l.worker
