use Rattle.std.proofs.Common.{◌+◌, ◌<◌, length, subst}
use Rattle.claim_core.specs.Rule.{Setup}
use Rattle.claim_core.proofs.ClientSteps.{done_by_look}
use Rattle.claim_core.proofs.tests.reads.Goals as goal

pub decodes-requires-after_bounds : goal.decodes-requires-after_bounds
decodes-requires-after_bounds g c κs within = (
  c.in-Done.ensures.pass.0,
  subst (λ (s : Setup). c.in-Done.rec < length s.cells + s.workers) c.requires.0.0.1 c.in-Done.ensures.numbers.2,
  done_by_look c.args.i c.args.pass.now.view c.look.new.pass.view _ _ _ c.in-Done.ensures.step,
)
