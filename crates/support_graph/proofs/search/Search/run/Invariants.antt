use Rattle.std.proofs.Common.{◌≡◌, Bool}
use Rattle.cell_values.specs.declared.address.Addr.{Addr}
use Rattle.cell_values.specs.Order.{addresses}
use Rattle.support_graph.specs.Steps.{AreRead, IsSearch, unseen}
use Rattle.support_graph.proofs.search.Search.run.Given as goal

abbrev pub invariant-loop-cell : goal.invariant-loop-cell
invariant-loop-cell l = record {
  pending : l.self.pending.now ≡ l.initial.self.pending.now;
  search : (from : Addr → Bool) → IsSearch l.support from l.initial.self → IsSearch l.support from l.self;
  done : AreRead l.support l.done.keys l.self;
}

abbrev pub decreases-loop-cell : goal.decreases-loop-cell
decreases-loop-cell l = unseen (addresses l.support) l.self
