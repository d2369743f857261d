use Rattle.std.proofs.Common.{◌≤◌, ◌+◌, ◌-◌, length, drop}
use Rattle.support_graph.proofs.Lists.{Merging}
use Rattle.support_graph.proofs.sorted.merged.Given as goal

abbrev pub invariant-loop-i : goal.invariant-loop-i
invariant-loop-i l = record {
  within : l.i ≤ length l.old;
  within_new : l.j ≤ length l.new;
  merging : Merging l.all.items (drop l.i l.old) (drop l.j l.new) l.old l.new;
}

abbrev pub decreases-loop-i : goal.decreases-loop-i
decreases-loop-i l = (length l.old - l.i) + (length l.new - l.j)
