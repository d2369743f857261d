use Rattle.std.proofs.Common.{drop}
use Rattle.demand_spec.specs.Listed.{contents}
use Rattle.cell_values.specs.Order.{IsAfterAll, addresses}
use Rattle.demand_spec.proofs.tests.is_last.Given as goal

abbrev pub invariant-loop-address : goal.invariant-loop-address
invariant-loop-address l = IsAfterAll l.at (addresses (contents (drop l.address-index l.cells))) → IsAfterAll l.at (addresses (contents l.cells))
