use Rattle.std.proofs.Common.{take, get_or}
use Rattle.demand_spec.specs.Laws.{Chain}
use Rattle.cycle_finder.proofs.tests.ask_ring.Given as goal

abbrev pub invariant-loop-i : goal.invariant-loop-i
invariant-loop-i g l = Chain l.book.book (take l.i l.ring) (get_or l.ring l.i l.first)
