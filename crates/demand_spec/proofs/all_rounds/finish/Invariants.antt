use Rattle.std.proofs.Common.{◌≡◌}
use Rattle.demand_spec.specs.Book.{rounds}
use Rattle.cell_values.specs.Order.{entry_at}
use Rattle.demand_spec.specs.Stage.{book_with}
use Rattle.demand_spec.proofs.all_rounds.finish.Given as goal

abbrev pub invariant-loop-round : goal.invariant-loop-round
invariant-loop-round l = entry_at l.known.entries ≡ rounds (book_with l.book l.texts) l.round
