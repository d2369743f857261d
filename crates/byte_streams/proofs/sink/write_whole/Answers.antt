use Rattle.std.proofs.Common.{rules, arith}
use Rattle.std.proofs.lemmas.Grind.{common_steps}
use Rattle.byte_streams.proofs.Written.{appended-again}
use Rattle.byte_streams.proofs.sink.write_whole.Goals as goal

pub loop-at-preserved : goal.loop-at-preserved
loop-at-preserved g c = record {
  within = grind (arith, common_steps);
  written = appended-again _ _ _ _ _ _ _ c.loop-at.invariant.written c.in_ok-at.ensures.appended (grind (arith, common_steps));
  steady = search rules;
  few = grind (arith, common_steps);
}
