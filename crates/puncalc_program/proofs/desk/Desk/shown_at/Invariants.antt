use Rattle.std.proofs.Common.{◌≡◌, map, take}
use Rattle.demand_spec.specs.Book.{shown}
use Rattle.puncalc_program.proofs.desk.Desk.shown_at.Given as goal

abbrev pub invariant-loop-at : goal.invariant-loop-at
invariant-loop-at l = l.shows.items ≡ map (shown l.self.standing.book) (take l.at-index l.cells)
