use Rattle.std.proofs.Common.{◌≡◌, ◌+◌, ◌-◌, map}
use Rattle.cell_values.specs.Areas.{numbers_from, width, cell_of, row_of}
use Rattle.demand_spec.specs.Asks.{search_looks}
use Rattle.demand_spec.specs.Stage.{look_on}
use Rattle.demand_spec.proofs.context.Stage.search_row.Given as goal

abbrev pub invariant-loop-j : goal.invariant-loop-j
invariant-loop-j l = search_looks (look_on l.self) l.self.texts l.key (l.first + l.j) (map (cell_of l.area l.i) (numbers_from l.j (width l.area - l.j))) ≡ search_looks (look_on l.self) l.self.texts l.key l.first (row_of l.area l.i)
