use Rattle.std.proofs.Common.{ℕ, ◌<◌, get_or, IsSome}
use Rattle.cell_values.specs.declared.address.Addr.{Addr}
use Rattle.cell_values.specs.Order.{entry_at}
use Rattle.recalculation.specs.Written.{OthersStay}
use Rattle.recalculation.proofs.store.mark_each.Given as goal

abbrev pub invariant-loop-i : goal.invariant-loop-i
invariant-loop-i l = record {
  room : (k : ℕ) (d : Addr) → k < l.i → IsSome (entry_at l.stored.entries (get_or l.cells k d));
  others : OthersStay l.cells l.fn.stored.entries l.stored.entries;
}
