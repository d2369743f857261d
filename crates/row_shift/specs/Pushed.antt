-- Cells that an insertion pushes past the last row.
use Rattle.std.specs.Prelude.{Bool, false, is_none}
use Rattle.std.specs.List.{list_any}
use Rattle.demand_spec.specs.Edits.{Cells}
use Rattle.row_shift.specs.declared.change.RowChange.{RowChange}
use Rattle.row_shift.specs.Moves.{move_cell}

-- an insertion leaves a cell that is not empty without a place
abbrev pub pushes_out : RowChange → Cells → Bool
pushes_out (RowChange.Insert sheet row count) cells = list_any (λ c. is_none (move_cell (RowChange.Insert sheet row count) c.0)) cells
pushes_out (RowChange.Delete sheet row count) cells = false
