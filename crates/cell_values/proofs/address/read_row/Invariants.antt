use Rattle.std.proofs.Common.{◌≡◌, ◌≤◌, drop}
use Rattle.cell_values.specs.CellText.{named_row}
use Rattle.cell_values.proofs.CellTexts.{row_on}
use Rattle.cell_values.proofs.address.read_row.Given as goal

abbrev pub invariant-loop-digit : goal.invariant-loop-digit
invariant-loop-digit l = (l.row ≤ 65536) × (row_on l.row (drop l.digit-index l.digits) ≡ named_row l.digits)
