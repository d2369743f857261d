use Rattle.std.proofs.Common.{◌≡◌, ◌-◌, flat_map}
use Rattle.cell_values.specs.Areas.{numbers_from, height, row_of, walk}
use Rattle.demand_spec.specs.Asks.{fold_looks}
use Rattle.demand_spec.specs.Stage.{look_on}
use Rattle.demand_spec.proofs.context.Stage.fold_area.Given as goal

abbrev pub invariant-loop-i : goal.invariant-loop-i
invariant-loop-i l = fold_looks (look_on l.self) l.kind l.total (flat_map (row_of l.area) (numbers_from l.i (height l.area - l.i))) ≡ fold_looks (look_on l.self) l.kind l.fn.total (walk l.area)
