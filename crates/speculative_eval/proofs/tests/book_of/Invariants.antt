use Rattle.std.proofs.Common.{◌≡◌, length}
use Rattle.speculative_eval.proofs.tests.book_of.Given as goal

abbrev pub invariant-loop-line : goal.invariant-loop-line
invariant-loop-line g l = length l.book.names ≡ 1
