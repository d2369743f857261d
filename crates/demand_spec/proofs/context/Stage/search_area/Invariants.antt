use Rattle.std.proofs.Common.{◌≡◌, ◌*◌, ◌≤◌, ◌-◌, flat_map}
use Rattle.cell_values.specs.declared.TheConstants.{LAST_COLUMN}
use Rattle.cell_values.specs.Areas.{numbers_from, height, row_of, walk}
use Rattle.demand_spec.specs.Asks.{search_looks}
use Rattle.demand_spec.specs.Stage.{look_on}
use Rattle.demand_spec.proofs.context.Stage.search_area.Given as goal

abbrev pub invariant-loop-i : goal.invariant-loop-i
invariant-loop-i l = record {
  small : l.passed ≤ LAST_COLUMN * l.i;
  so_far : search_looks (look_on l.self) l.self.texts l.key l.passed (flat_map (row_of l.area) (numbers_from l.i (height l.area - l.i))) ≡ search_looks (look_on l.self) l.self.texts l.key 0 (walk l.area);
}
