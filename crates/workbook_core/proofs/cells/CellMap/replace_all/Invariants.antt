use Rattle.std.proofs.Common.{◌≡◌, true, IsSome, length, drop}
use Rattle.std.specs.Map.{keys_of}
use Rattle.cell_values.specs.declared.address.Addr.{Addr}
use Rattle.cell_values.specs.Order.{InOrder, addresses, entry_at}
use Rattle.workbook_core.specs.Copies.{among, written}
use Rattle.workbook_core.proofs.cells.CellMap.replace_all.Given as goal

abbrev pub invariant-loop-at : goal.invariant-loop-at
invariant-loop-at l = record {
  order : InOrder (addresses l.self);
  there : (a : Addr) → among (keys_of l.contents) a ≡ true → IsSome (entry_at l.self a);
  rest : written (drop l.at-index l.contents) (entry_at l.self) ≡ written l.contents (entry_at l.initial.self);
  len : length l.self ≡ length l.initial.self;
}
