-- What a line that saves a sheet comes to.
use Rattle.std.proofs.Common.{◌≡◌, ℕ, List, Option, Some, None, Ok, refl}
use Rattle.cell_values.specs.declared.address.Addr.{Addr}
use Rattle.puncalc_program.specs.Desks.{Makes}
use Rattle.puncalc_program.specs.Script.{Standing, saved_unless}
use Rattle.puncalc_program.specs.Writing.{Sunk, WritesAll}

-- no formula is too long, and all rows were written
pub rows_saved : (st : Standing) (rows : List (List ℕ)) (long : Option Addr) (before now : Sunk) → long ≡ None → WritesAll rows before now → Makes (saved_unless st rows long) st st before now (Ok None)
rows_saved st rows None before now e h = (h, refl)
rows_saved st rows (Some at) before now e h = absurd (cc)
