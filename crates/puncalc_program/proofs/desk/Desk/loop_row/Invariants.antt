use Rattle.std.proofs.Common.{◌≡◌, map, take, string_bytes, vec_len}
use Rattle.puncalc_program.specs.Cells.{cell_name}
use Rattle.puncalc_program.proofs.desk.Desk.loop_row.Given as goal

abbrev pub invariant-loop-at : goal.invariant-loop-at
invariant-loop-at l = (map string_bytes l.fields.items ≡ map (cell_name l.self.names) (take l.at-index l.cells)) × (vec_len l.fields ≡ l.at-index)
