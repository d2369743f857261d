use Rattle.std.specs.Prelude.{◌↔◌}
use Rattle.cell_values.specs.declared.address.Addr.{Addr}
use Rattle.demand_spec.specs.Laws.{In}
use Rattle.support_graph.specs.Support.{IsCell}
use Rattle.support_graph.proofs.tests.edit_rows.Given as goal

abbrev pub invariant-loop-above : goal.invariant-loop-above
invariant-loop-above l = (c : Addr) → In c l.stale ↔ IsCell l.support c
