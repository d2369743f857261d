use Rattle.std.proofs.Common.{◌≡◌, ℕ, ◌<◌, get_or, Some}
use Rattle.cell_values.specs.declared.address.Addr.{Addr}
use Rattle.cell_values.specs.Order.{entry_at}
use Rattle.demand_spec.specs.Book.{shown}
use Rattle.recalculation.specs.Written.{HasRoomFor, OthersStay}
use Rattle.recalculation.proofs.store.store_all.Given as goal

abbrev pub invariant-loop-i : goal.invariant-loop-i
invariant-loop-i l = record {
  room : HasRoomFor l.cells l.stored.entries;
  written : (k : ℕ) (d : Addr) → k < l.i → entry_at l.stored.entries (get_or l.cells k d) ≡ Some (shown l.book.book (get_or l.cells k d));
  others : OthersStay l.cells l.fn.stored.entries l.stored.entries;
}
