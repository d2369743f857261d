use Rattle.std.proofs.Common.{◌≡◌, length}
use Rattle.cycle_finder.proofs.tests.fill.Given as goal

abbrev pub invariant-loop-word : goal.invariant-loop-word
invariant-loop-word g l = length l.book.names ≡ 2
