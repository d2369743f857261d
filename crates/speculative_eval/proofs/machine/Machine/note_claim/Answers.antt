use Rattle.std.proofs.Common.{subst, Some}
use Rattle.worker_machine.specs.Machine.{after_claim}
use Rattle.speculative_eval.specs.Machines.{CanBecome, job_of, state_of}
use Rattle.speculative_eval.proofs.Becoming.{pushes}
use Rattle.speculative_eval.proofs.machine.Machine.note_claim.Goals as goal

pub push-requires : goal.push-requires
push-requires c = pushes c.args.self.now c.args.cell (Some c.args.self.now.number) (subst (λ a. CanBecome c.args.self.now (after_claim (job_of c.args.self.now) (state_of c.args.self.now) c.args.cell a)) c.in-Won.is c.requires)
