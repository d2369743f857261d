-- What evaluations keep.
use Rattle.std.specs.Prelude.{◌≡◌, ℕ, ◌+◌, ◌≤◌, List, length}
use Rattle.cell_values.specs.declared.address.Addr.{Addr}
use Rattle.cell_values.specs.declared.values.Value.{Value}
use Rattle.demand_spec.specs.declared.Asked.{Asked}
use Rattle.demand_spec.specs.declared.Asked.TheVariants.{Val, Needs}
use Rattle.demand_spec.specs.Plan.{Plan, run}
use Rattle.cell_values.specs.Texts.{Texts}
use Rattle.formula_eval.specs.declared.work.Frame.{Frame}
use Rattle.shared_expressions.specs.Trees.{Trees}
use Rattle.formula_eval.specs.Stacks.{IsShut, dropped}
use Rattle.formula_eval.specs.Evaluations.{demanded, rest_of, Answered, Stands, HasOpen}

-- what one look gives, the other gives as well
abbrev pub IsKept : (Addr → Asked) → (Addr → Asked) → Type 0
IsKept l m = (a : Addr) (v : Value) → l a ≡ Val v → m a ≡ Val v

-- more known values keep an evaluation open
abbrev pub StandsOn : Type 0
StandsOn = (p : Trees) (ts : Texts) (l m : Addr → Asked) (limit : ℕ) (at : Addr) (q : Plan) (x : Addr) (fs base : List Frame) → IsKept l m → Stands p ts l limit at q x fs base → Stands p ts m limit at q x fs base

-- the looks of an evaluation until it lacks a cell, and those after it is taken up again, are one more than those of an evaluation from the start
abbrev pub LooksOnceMore : Type 0
LooksOnceMore = (p : Trees) (ts : Texts) (l m : Addr → Asked) (limit : ℕ) (at : Addr) (q : Plan) (x : Addr) (fs base : List Frame) → IsKept l m → l x ≡ Needs x → Stands p ts l limit at q x fs base → length (demanded l q) + length (demanded m (rest_of p ts fs)) ≡ length (demanded m q) + 1

-- an open evaluation may be taken up again, and another begun above it; its frames and its mark fit its limit
abbrev pub StandsReady : Type 0
StandsReady = (p : Trees) (ts : Texts) (l : Addr → Asked) (limit room : ℕ) (at : Addr) (q : Plan) (x : Addr) (fs base : List Frame) → Stands p ts l limit at q x fs base → limit ≤ room → IsShut fs × HasOpen p ts room fs × (length fs ≤ limit)

-- what a call answers is what the plan gives
abbrev pub AnswersPlan : Type 0
AnswersPlan = (p : Trees) (ts : Texts) (l : Addr → Asked) (limit : ℕ) (at : Addr) (q : Plan) (base : List Frame) (r : Asked) (fs : List Frame) → Answered p ts l limit at q base r fs → run l q ≡ r

-- without an open evaluation there is left what lies below it
abbrev pub DropsToBase : Type 0
DropsToBase = (p : Trees) (ts : Texts) (l : Addr → Asked) (limit : ℕ) (at : Addr) (q : Plan) (x : Addr) (fs base : List Frame) → Stands p ts l limit at q x fs base → dropped fs ≡ base
