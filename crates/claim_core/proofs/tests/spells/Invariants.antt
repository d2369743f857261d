use Rattle.std.proofs.Common.{IsSome}
use Rattle.claim_core.specs.Passes.{Stays}
use Rattle.claim_core.specs.TestClient.{SeesMore}
use Rattle.claim_core.proofs.ClientSteps.{StoresFirst}
use Rattle.claim_core.proofs.tests.spells.Given as goal

abbrev pub invariant-loop-k : goal.invariant-loop-k
invariant-loop-k g l = record {
  pass : Stays l.round l.fn.pass l.pass × IsSome l.pass.taken;
  more : SeesMore l.fn.pass.view l.pass.view;
  stored : StoresFirst l.shown l.k l.pass.view;
}
