use Rattle.std.proofs.Common.{◌≡◌, ◌||◌, take}
use Rattle.cell_values.specs.declared.address.Addr.{Addr}
use Rattle.cycle_finder.specs.Search.{has}
use Rattle.cycle_finder.proofs.finder.Found.add.Given as goal

abbrev pub invariant-loop-cell : goal.invariant-loop-cell
invariant-loop-cell l = record {
  loops : l.self.loops.items ≡ l.fn.self.loops.items;
  seen : (c : Addr) → has c l.self.seen.keys ≡ (has c (take l.cell-index l.cell-items) || has c l.fn.self.seen.keys);
}
