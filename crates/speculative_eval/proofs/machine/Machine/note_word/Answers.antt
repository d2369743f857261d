use Rattle.std.proofs.Common.{subst, Some}
use Rattle.worker_machine.specs.Machine.{after_word}
use Rattle.speculative_eval.specs.Machines.{CanBecome, state_of}
use Rattle.speculative_eval.proofs.Becoming.{pushes}
use Rattle.speculative_eval.proofs.machine.Machine.note_word.Goals as goal

pub push-requires : goal.push-requires
push-requires c = pushes c.args.self.now c.args.cell (Some c.in-Claimed.claimer) (subst (λ w. CanBecome c.args.self.now (after_word (state_of c.args.self.now) c.args.cell w)) c.in-Claimed.is c.requires)
