-- Stacks of frames as open evaluations.
use Rattle.std.specs.Prelude.{ℕ, List, [], ◌∷◌}
use Rattle.formula_eval.specs.declared.work.Work.TheVariants.{First, Second, Third, Turn, Argument, Cell, Search, Lookup}
use Rattle.formula_eval.specs.declared.work.Frame.{Frame}
use Rattle.formula_eval.specs.declared.work.Frame.TheVariants.{At, Opened}
use Rattle.formula_eval.specs.declared.frames.Kept.{Kept}

-- the room in all, and the frames, the top first
pub record Stack : Type 0 where
  pub room : ℕ
  pub frames : List Frame

-- the frame that is kept so
abbrev pub frame_of : Kept → Frame
frame_of (Kept.First id) = At id First
frame_of (Kept.Second id x) = At id (Second x)
frame_of (Kept.Third id k x) = At id (Third x k)
frame_of (Kept.Turn k id) = At id (Turn k)
frame_of (Kept.Argument k id t) = At id (Argument k t)
frame_of (Kept.Cell k n id t) = At id (Cell k n t)
frame_of (Kept.Search n id key) = At id (Search n key)
frame_of (Kept.Lookup m n id key) = At id (Lookup m n key)
frame_of (Kept.Opened a x) = Opened a x

-- no evaluation is at work: each has its mark
abbrev pub IsShut : List Frame → Type 0
IsShut (At id w ∷ fs) = ⊥
IsShut _ = Unit {0}

-- what lies below the frames of the evaluation at work
abbrev pub below : List Frame → List Frame
below [] = []
below (At id w ∷ fs) = below fs
below (Opened at x ∷ fs) = Opened at x ∷ fs

-- no evaluation is open, or one is at work
abbrev pub HasNoMark : List Frame → Type 0
HasNoMark (Opened at x ∷ fs) = ⊥
HasNoMark _ = Unit {0}

-- without the last open evaluation
abbrev pub dropped : List Frame → List Frame
dropped (Opened at x ∷ fs) = below fs
dropped fs = below fs
