use Rattle.std.proofs.Common.{◌≤◌, None, length, take}
use Rattle.workbook_core.specs.Copies.{SetsAll}
use Rattle.workbook_core.proofs.cells.CellMap.remove_all.Given as goal

abbrev pub invariant-loop-at : goal.invariant-loop-at
invariant-loop-at l = record {
  removed : SetsAll (take l.at-index l.addresses) None l.initial.self l.self;
  len : length l.self ≤ length l.initial.self;
}
