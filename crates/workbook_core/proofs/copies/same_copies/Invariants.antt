use Rattle.std.proofs.Common.{◌≡◌, take}
use Rattle.std.specs.Map.{keys_of}
use Rattle.workbook_core.specs.Copies.{AreCopies}
use Rattle.workbook_core.specs.Held.{content_in}
use Rattle.workbook_core.proofs.copies.same_copies.Given as goal

abbrev pub invariant-loop-at : goal.invariant-loop-at
invariant-loop-at l = record {
  keys : keys_of l.copies.items ≡ take l.at-index l.addresses;
  copies : AreCopies l.pool (content_in l.pool l.content) l.copies.items;
}
