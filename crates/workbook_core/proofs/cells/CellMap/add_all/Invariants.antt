use Rattle.std.proofs.Common.{◌≤◌, ◌+◌, Some, length, take}
use Rattle.workbook_core.specs.Copies.{SetsAll}
use Rattle.workbook_core.proofs.cells.CellMap.add_all.Given as goal

abbrev pub invariant-loop-i : goal.invariant-loop-i
invariant-loop-i l = record {
  added : SetsAll (take l.i l.addresses) (Some l.content) l.initial.self l.self;
  len : length l.self ≤ length l.initial.self + l.i;
}
