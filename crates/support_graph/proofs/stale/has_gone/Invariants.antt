use Rattle.std.proofs.Common.{◌≡◌, true, take}
use Rattle.cell_values.specs.declared.address.Addr.{Addr}
use Rattle.cell_values.specs.Areas.{is_inside}
use Rattle.demand_spec.specs.Laws.{In}
use Rattle.support_graph.specs.Support.{IsCell}
use Rattle.support_graph.proofs.stale.has_gone.Given as goal

abbrev pub invariant-loop-cell : goal.invariant-loop-cell
invariant-loop-cell l = (c : Addr) → In c (take l.cell-index l.cell-items) → is_inside l.changed c ≡ true → IsCell l.support c
