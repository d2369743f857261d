use Rattle.std.proofs.Common.{◌≤◌}
use Rattle.std.specs.Str.Iter.{chars_rest}
use Rattle.cell_values.specs.declared.TheConstants.{MAX_SHORT_BYTES}
use Rattle.computed_text.proofs.Cuts.{IsCut}
use Rattle.computed_text.proofs.parts.front_len.Given as goal

abbrev pub invariant-loop-left : goal.invariant-loop-left
invariant-loop-left l = record { cut : IsCut l.text (chars_rest l.rest) l.end l.left l.count; few : l.end ≤ MAX_SHORT_BYTES }

abbrev pub decreases-loop-left : goal.decreases-loop-left
decreases-loop-left l = l.left
