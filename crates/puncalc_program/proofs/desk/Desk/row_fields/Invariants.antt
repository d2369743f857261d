use Rattle.std.proofs.Common.{◌≡◌, map, string_bytes, vec_len}
use Rattle.puncalc_program.specs.Sheets.{row_texts}
use Rattle.puncalc_program.proofs.desk.Desk.row_fields.Given as goal

abbrev pub invariant-loop-before : goal.invariant-loop-before
invariant-loop-before l = (map string_bytes l.fields.items ≡ row_texts l.self.standing.book l.sheet l.row l.before) × (vec_len l.fields ≡ l.before)
