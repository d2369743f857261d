-- Known values that count their looks, and what a turn of the machine does.
use Rattle.std.specs.Prelude.{◌≡◌, ℕ, ◌+◌, ◌<◌, ◌≤◌, Result, Ok, Err, List, [], ◌∷◌, length}
use Rattle.cell_values.specs.declared.address.Addr.{Addr}
use Rattle.cell_values.specs.declared.values.Value.{Value}
use Rattle.demand_spec.specs.declared.Asked.{Asked}
use Rattle.demand_spec.specs.declared.Asked.TheVariants.{Val, Needs}
use Rattle.demand_spec.specs.Plan.{Plan, Give, Demand, run}
use Rattle.cell_values.specs.Texts.{Texts}
use Rattle.cell_values.specs.Values.{IsValueOf}
use Rattle.formula_eval.specs.declared.work.Frame.{Frame}
use Rattle.formula_eval.specs.declared.work.Frame.TheVariants.{At, Opened}
use Rattle.formula_eval.specs.declared.work.Step.{Step}
use Rattle.formula_eval.specs.declared.machine.Look.{Look}
use Rattle.formula_eval.specs.Stacks.{below}
use Rattle.shared_expressions.specs.Trees.{Trees}
use Rattle.formula_eval.specs.Machine.{unwind, meaning, left, Fits}

-- what a plan has come to, by looks that gave values
pub data Reaches (l : Addr → Asked) : Plan → Plan → Type 0 where
  here : (p : Plan) → Reaches l p p
  looked : (a : Addr) (k : Value → Plan) (v : Value) (q : Plan) → l a ≡ Val v → Reaches l (k v) q → Reaches l (Demand a k) q

abbrev pub more : Asked → (Value → List Addr) → List Addr
more (Val v) f = f v
more (Needs x) f = []

-- the cells that a plan demands, in order, up to the first that is lacking
abbrev pub demanded : (Addr → Asked) → Plan → List Addr
demanded l (Give v) = []
demanded l (Demand a k) = a ∷ more (l a) (λ v. demanded l (k v))

abbrev pub found_as : Look → Addr → Asked
found_as (Look.Val v) at = Val v
found_as Look.Missing at = Needs at

-- a turn that goes on
pub record Advances (p : Trees) (ts : Texts) (at : Addr) (l : Addr → Asked) (s : Step) (fs : List Frame) (s' : Step) (fs' : List Frame) (n n' : ℕ) : Type 0 where
  pub reaches : Reaches l (meaning p ts at s fs) (meaning p ts at s' fs')
  pub less : left p at s' fs' < left p at s fs
  pub fits : (limit : ℕ) → Fits p ts at limit s fs → Fits p ts at limit s' fs'
  pub beneath : below fs' ≡ below fs
  pub looks : n' + length (demanded l (meaning p ts at s' fs')) ≤ n + length (demanded l (meaning p ts at s fs))

-- turns after turns
pub record Along (p : Trees) (ts : Texts) (at : Addr) (l : Addr → Asked) (s : Step) (fs : List Frame) (s' : Step) (fs' : List Frame) (n n' : ℕ) : Type 0 where
  pub reaches : Reaches l (meaning p ts at s fs) (meaning p ts at s' fs')
  pub less : left p at s' fs' ≤ left p at s fs
  pub fits : (limit : ℕ) → Fits p ts at limit s fs → Fits p ts at limit s' fs'
  pub beneath : below fs' ≡ below fs
  pub looks : n' + length (demanded l (meaning p ts at s' fs')) ≤ n + length (demanded l (meaning p ts at s fs))

-- the last open evaluation is what is left of the plan `q` of the cell `at`, and `base` lies below it
pub record Stands (p : Trees) (ts : Texts) (l : Addr → Asked) (limit : ℕ) (at : Addr) (q : Plan) (x : Addr) (fs : List Frame) (base : List Frame) : Type 0 where
  pub frames : List Frame
  pub top : fs ≡ Opened at x ∷ frames
  pub beneath : below frames ≡ base
  pub reaches : Reaches l q (Demand x (unwind p ts at frames))
  pub fits : Fits p ts at limit (Step.Look x) frames

-- the plan's answer; where it lacks a cell, the evaluation stands open
abbrev pub Answered : Trees → Texts → (Addr → Asked) → ℕ → Addr → Plan → List Frame → Asked → List Frame → Type 0
Answered p ts l limit at q base (Val v) fs = (run l q ≡ Val v) × (fs ≡ base)
Answered p ts l limit at q base (Needs x) fs = (run l q ≡ Needs x) × (l x ≡ Needs x) × Stands p ts l limit at q x fs base

-- what the machine comes to from a step
pub record Comes (p : Trees) (ts : Texts) (at : Addr) (l : Addr → Asked) (s : Step) (fs : List Frame) (r : Asked) (fs' : List Frame) (n n' : ℕ) : Type 0 where
  pub answer : (limit : ℕ) → Fits p ts at limit s fs → Answered p ts l limit at (meaning p ts at s fs) (below fs) r fs'
  pub looks : n' ≤ n + length (demanded l (meaning p ts at s fs))

-- a turn goes on to a step, or ends the run
abbrev pub Turns : Trees → Texts → Addr → (Addr → Asked) → Step → List Frame → Result Step Asked → List Frame → ℕ → ℕ → Type 0
Turns p ts at l s fs (Ok s') fs' n n' = Advances p ts at l s fs s' fs' n n'
Turns p ts at l s fs (Err r) fs' n n' = Comes p ts at l s fs r fs' n n'

-- there is an open evaluation, with room
abbrev pub HasOpen : Trees → Texts → ℕ → List Frame → Type 0
HasOpen p ts limit (Opened at x ∷ fs) = Fits p ts at limit (Step.Look x) fs
HasOpen p ts limit _ = ⊥

-- what is left of the last open evaluation
abbrev pub rest_of : Trees → Texts → List Frame → Plan
rest_of p ts (Opened at x ∷ fs) = Demand x (unwind p ts at fs)
rest_of p ts (At id w ∷ fs) = rest_of p ts fs
rest_of p ts [] = Give Value.Blank

-- a value that is found is one of these texts'
abbrev pub MeansValue : Texts → Look → Type 0
MeansValue ts (Look.Val v) = IsValueOf ts v
MeansValue ts Look.Missing = Unit {0}
