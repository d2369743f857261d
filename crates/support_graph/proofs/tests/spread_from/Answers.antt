use Rattle.std.proofs.Common.{subst}
use Rattle.demand_spec.specs.Laws.{In}
use Rattle.support_graph.proofs.tests.spread_from.Goals as goal

pub spread-requires-clause-cells : goal.spread-requires-clause-cells
spread-requires-clause-cells c a m = absurd (subst (In a) c.requires m)

pub spread-requires-clause-readers : goal.spread-requires-clause-readers
spread-requires-clause-readers c a d m k = absurd (subst (In a) c.requires m)
