use Rattle.std.specs.Str.Iter.{chars_rest}
use Rattle.computed_text.proofs.Cuts.{IsBehind}
use Rattle.computed_text.proofs.parts.behind.Given as goal

abbrev pub invariant-loop-left : goal.invariant-loop-left
invariant-loop-left l = IsBehind l.text (chars_rest l.rest) l.left l.count

abbrev pub decreases-loop-left : goal.decreases-loop-left
decreases-loop-left l = l.left
