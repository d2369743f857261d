use Rattle.std.proofs.Common.{◌≡◌, ◌≤◌, drop}
use Rattle.cell_values.specs.CellText.{named_column}
use Rattle.cell_values.proofs.CellTexts.{column_on}
use Rattle.cell_values.proofs.address.read_column.Given as goal

abbrev pub invariant-loop-letter : goal.invariant-loop-letter
invariant-loop-letter l = (l.col ≤ 256) × (column_on l.col (drop l.letter-index l.letters) ≡ named_column l.letters)
