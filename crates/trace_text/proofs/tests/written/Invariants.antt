use Rattle.std.proofs.Common.{length}
use Rattle.trace_text.proofs.tests.written.Given as goal

abbrev pub decreases-loop-text : goal.decreases-loop-text
decreases-loop-text l = length l.trace
