use Rattle.std.proofs.Common.{◌≡◌, ◌≤◌, drop}
use Rattle.cell_values.specs.CellText.{column_number}
use Rattle.formula_tokens.specs.Words.{clipped}
use Rattle.formula_tokens.proofs.Numbers.{column_on}
use Rattle.formula_tokens.proofs.words.column_number.Given as goal

abbrev pub invariant-loop-letter : goal.invariant-loop-letter
invariant-loop-letter l = (l.number ≤ 4294967295) × (column_on l.number (drop l.letter-index l.letters) ≡ clipped (column_number l.letters))
