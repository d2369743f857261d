use Rattle.std.proofs.Common.{arith}
use Rattle.computed_text.proofs.Cuts.{behind_more}
use Rattle.computed_text.proofs.parts.behind.Goals as goal

pub loop-left-preserved : goal.loop-left-preserved
loop-left-preserved c = behind_more _ _ _ _ _ _ c.loop-left.invariant (omega arith) c.in-Some.ensures.steps.0
