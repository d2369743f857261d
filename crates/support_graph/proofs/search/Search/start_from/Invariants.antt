use Rattle.std.proofs.Common.{◌≡◌, take}
use Rattle.support_graph.specs.Pending.{among}
use Rattle.support_graph.specs.Steps.{AreRead, IsSearch}
use Rattle.support_graph.proofs.search.Search.start_from.Given as goal

abbrev pub invariant-loop-cell : goal.invariant-loop-cell
invariant-loop-cell l = record {
  pending : l.self.pending.now ≡ l.initial.self.pending.now;
  search : IsSearch l.support (among (take l.cell-index l.cells)) l.self;
  done : AreRead l.support l.done.keys l.self;
}
