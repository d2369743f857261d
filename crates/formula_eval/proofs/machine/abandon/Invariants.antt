use Rattle.std.proofs.Common.{◌≡◌, length}
use Rattle.formula_eval.specs.Stacks.{below}
use Rattle.formula_eval.proofs.machine.abandon.Given as goal

abbrev pub invariant-loop-frame : goal.invariant-loop-frame
invariant-loop-frame l = record {
  beneath : below l.frames.frames ≡ below l.initial.frames.frames;
  room : l.frames.room ≡ l.initial.frames.room;
}

abbrev pub decreases-loop-frame : goal.decreases-loop-frame
decreases-loop-frame l = length l.frames.frames
