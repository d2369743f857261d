use Rattle.std.proofs.Common.{take}
use Rattle.trace_text.specs.Counting.{AreCounted}
use Rattle.trace_text.proofs.counting.count_events.Given as goal

abbrev pub invariant-loop-i : goal.invariant-loop-i
invariant-loop-i l = AreCounted l.counts.items (take l.i l.events)
