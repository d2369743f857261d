use Rattle.std.proofs.Common.{◌≡◌, ◌-◌, map}
use Rattle.cell_values.specs.Areas.{numbers_from, height, cell_of, column_of}
use Rattle.demand_spec.specs.Asks.{search_looks}
use Rattle.demand_spec.specs.Stage.{look_on}
use Rattle.demand_spec.proofs.context.Stage.search_column.Given as goal

abbrev pub invariant-loop-i : goal.invariant-loop-i
invariant-loop-i l = search_looks (look_on l.self) l.self.texts l.key l.i (map (λ i. cell_of l.area i 0) (numbers_from l.i (height l.area - l.i))) ≡ search_looks (look_on l.self) l.self.texts l.key 0 (column_of l.area 0)
