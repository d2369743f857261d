use Rattle.std.proofs.Common.{◌≡◌, true}
use Rattle.cell_values.specs.Areas.{is_inside}
use Rattle.demand_spec.specs.Laws.{In}
use Rattle.support_graph.specs.Steps.{Visits}
use Rattle.support_graph.proofs.Spans.{yielded_addresses}
use Rattle.support_graph.proofs.support.Support.visit_cells.Given as goal

abbrev pub invariant-loop-cell : goal.invariant-loop-cell
invariant-loop-cell l = Visits (λ c. In c (yielded_addresses l.yielded) × (is_inside l.changed c ≡ true)) l.initial.search l.search
