use Rattle.std.proofs.Common.{◌≡◌}
use Rattle.worker_machine.specs.Machine.{settle, changes_left}
use Rattle.speculative_eval.specs.Machines.{job_of, state_of, SameTask, IsWorking}
use Rattle.speculative_eval.proofs.machine.Machine.settle.Given as goal

abbrev pub invariant-loop-change : goal.invariant-loop-change
invariant-loop-change l = record {
  working : IsWorking l.self;
  task : SameTask l.fn.self l.self;
  settles : settle (job_of l.self) (state_of l.self) ≡ settle (job_of l.fn.self) (state_of l.fn.self);
}

abbrev pub decreases-loop-change : goal.decreases-loop-change
decreases-loop-change l = changes_left (state_of l.self)
