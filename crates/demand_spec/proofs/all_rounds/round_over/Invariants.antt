use Rattle.std.proofs.Common.{◌≡◌, ◌||◌, drop, None}
use Rattle.demand_spec.specs.Listed.{contents, AreCellsOf}
use Rattle.cell_values.specs.Order.{entry_at}
use Rattle.demand_spec.specs.Rounds.{round_from, adds}
use Rattle.demand_spec.specs.Stage.{book_of, known_of}
use Rattle.demand_spec.proofs.all_rounds.round_over.Given as goal

abbrev pub invariant-loop-address : goal.invariant-loop-address
invariant-loop-address l = record {
  cells : AreCellsOf l.stage.texts (contents (drop l.address-index l.cells));
  known : round_from (book_of l.stage) (known_of l.stage) (entry_at l.next.known.entries) (contents (drop l.address-index l.cells)) ≡ round_from (book_of l.stage) (known_of l.stage) (λ a. None) (contents l.cells);
  grew : (l.next.grew || adds (book_of l.stage) (known_of l.stage) (contents (drop l.address-index l.cells))) ≡ adds (book_of l.stage) (known_of l.stage) (contents l.cells);
}
