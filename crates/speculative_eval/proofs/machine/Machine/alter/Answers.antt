use Rattle.std.proofs.Common.{subst}
use Rattle.speculative_eval.specs.Machines.{IsCalled}
use Rattle.speculative_eval.proofs.Calling.{takes_known, learns_found, closes_demanded, closes_there}
use Rattle.speculative_eval.proofs.machine.Machine.alter.Goals as goal

pub pop-requires : goal.pop-requires
pop-requires c = takes_known c.args.self.now (subst (IsCalled c.args.self.now) c.in-Take.is c.requires)

pub learn_top-requires : goal.learn_top-requires
learn_top-requires c = learns_found c.args.self.now c.in-Learn.shown (subst (IsCalled c.args.self.now) c.in-Learn.is c.requires)

pub close-requires-clause-demands : goal.close-requires-clause-demands
close-requires-clause-demands c = closes_demanded c.args.self.now c.in-Close.cell (subst (IsCalled c.args.self.now) c.in-Close.is c.requires)

pub close-requires-clause-there : goal.close-requires-clause-there
close-requires-clause-there c = closes_there c.args.self.now c.in-Close.cell (subst (IsCalled c.args.self.now) c.in-Close.is c.requires)
