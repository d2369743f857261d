use Rattle.std.proofs.Common.{arith}
use Rattle.computed_text.proofs.Cuts.{cut_more, cut_long, cut_few, cut_end}
use Rattle.computed_text.proofs.parts.front_len.Goals as goal

pub returns-then-end-gt-MAX_SHORT_BYTES-clause-none : goal.returns-then-end-gt-MAX_SHORT_BYTES-clause-none
returns-then-end-gt-MAX_SHORT_BYTES-clause-none c = cut_long _ _ _ _ _ (cut_more _ _ _ _ _ _ _ c.loop-left.invariant.cut (omega arith) c.in-Some.ensures.steps.0) (omega arith)

pub loop-left-preserved : goal.loop-left-preserved
loop-left-preserved c = record { cut = rw c.len_utf8-end.ensures.value (cut_more _ _ _ _ _ _ _ c.loop-left.invariant.cut (omega arith) c.in-Some.ensures.steps.0); few = omega arith }

pub returns-in-None-clause-some : goal.returns-in-None-clause-some
returns-in-None-clause-some c = (cut_few _ _ _ _ _ c.loop-left.invariant.cut, cut_end _ _ _ _ _ c.loop-left.invariant.cut c.in-None.ensures.steps.0.0)
