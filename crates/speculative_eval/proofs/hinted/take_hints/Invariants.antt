use Rattle.std.proofs.Common.{◌≡◌, ◌≤◌}
use Rattle.speculative_eval.proofs.hinted.take_hints.Given as goal

abbrev pub invariant-loop-cell : goal.invariant-loop-cell
invariant-loop-cell g l = record {
  fewer : g.H.Hints.left l.hints ≤ g.H.Hints.left l.initial.hints;
  same_end : g.H.Hints.over l.hints ≡ g.H.Hints.over l.initial.hints;
  askable : g.H.Hints.askable l.hints;
}

abbrev pub decreases-loop-cell : goal.decreases-loop-cell
decreases-loop-cell g l = g.H.Hints.left l.hints
