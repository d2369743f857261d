use Rattle.std.proofs.Common.{◌≡◌, take}
use Rattle.std.specs.Int.{w128, int_wrap}
use Rattle.puncalc_program.specs.Demo.{sum_shown}
use Rattle.puncalc_program.proofs.tally.sum_shown.Given as goal

abbrev pub invariant-loop-shown : goal.invariant-loop-shown
invariant-loop-shown l = l.sum ≡ int_wrap w128 (sum_shown (take l.shown-index l.shows))
