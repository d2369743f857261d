use Rattle.std.proofs.Common.{◌≡◌, take}
use Rattle.workbook_core.specs.Copies.{empty_among}
use Rattle.workbook_core.proofs.cells.CellMap.empty_among.Given as goal

abbrev pub invariant-loop-at : goal.invariant-loop-at
invariant-loop-at l = l.empty.items ≡ empty_among l.self (take l.at-index l.addresses)
