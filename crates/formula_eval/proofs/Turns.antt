-- One turn of the machine, and turns one after another.
use Rattle.std.proofs.Common.{◌≡◌, ℕ, suc, ◌+◌, ◌<◌, ◌≤◌, List, [], ◌∷◌, length, refl, sym, ap, ◌∙◌, subst, arith}
use Rattle.cell_values.specs.declared.address.Addr.{Addr}
use Rattle.cell_values.specs.declared.values.Value.{Value}
use Rattle.demand_spec.specs.declared.Asked.{Asked}
use Rattle.demand_spec.specs.declared.Asked.TheVariants.{Val, Needs}
use Rattle.demand_spec.specs.Plan.{Plan, Give, Demand, and_then, after, run}
use Rattle.cell_values.specs.Texts.{Texts}
use Rattle.demand_spec.specs.Formula.{plan}
use Rattle.demand_spec.proofs.Plans.{KeepsValues}
use Rattle.formula_eval.specs.declared.work.Work.{Work}
use Rattle.formula_eval.specs.declared.work.Frame.{Frame}
use Rattle.formula_eval.specs.declared.work.Frame.TheVariants.{At, Opened}
use Rattle.formula_eval.specs.declared.work.Step.{Step}
use Rattle.formula_eval.specs.Stacks.{IsShut, HasNoMark, below, dropped}
use Rattle.shared_expressions.specs.declared.nodes.ExprId.{ExprId}
use Rattle.cell_values.specs.Values.{IsValueOf}
use Rattle.shared_expressions.specs.Trees.{Trees, tree_at, depth}
use Rattle.formula_eval.specs.Machine.{unwind, meaning, AllFit, StepFits, Fits, Holds, IsMeant, Starts, GoesOn}
use Rattle.formula_eval.specs.Evaluations.{Reaches, here, looked, more, demanded, Advances, Along, Stands, Answered, Comes, rest_of, HasOpen}

pub reaches_on : (l : Addr → Asked) (p q r : Plan) → Reaches l p q → Reaches l q r → Reaches l p r
reaches_on l p q r (here _) s = s
reaches_on l p q r (looked a k v _ e m) s = looked a k v r e (reaches_on l (k v) q r m s)

pub reaches_grows : (l m : Addr → Asked) → KeepsValues l m → (p q : Plan) → Reaches l p q → Reaches m p q
reaches_grows l m h p q (here _) = here p
reaches_grows l m h p q (looked a k v _ e r) = looked a k v q (h a v e) (reaches_grows l m h (k v) q r)

pub reaches_run : (l : Addr → Asked) (p q : Plan) → Reaches l p q → run l p ≡ run l q
reaches_run l p q (here _) = refl
reaches_run l p q (looked a k v _ e r) = ap (λ z. after z (λ w. run l (k w))) e ∙ reaches_run l (k v) q r

reaches_same : (l : Addr → Asked) (p q : Plan) → q ≡ p → Reaches l p q
reaches_same l p q e = subst (Reaches l p) (sym e) (here p)

-- begun
pub advance_eval : (p : Trees) (ts : Texts) (at : Addr) (l : Addr → Asked) (id : ExprId) (fs : List Frame) (s : Step) (fs' : List Frame) (n : ℕ) → Starts p ts at id fs s fs' → Advances p ts at l (Step.Eval id) fs s fs' n n
advance_eval p ts at l id fs s fs' n g = record {
  reaches = reaches_same l (meaning p ts at (Step.Eval id) fs) (meaning p ts at s fs') g.same;
  less = g.less;
  fits = λ limit f. g.fits limit f.step.0 f.step.1 f.frames;
  beneath = g.beneath;
  looks = (let same : length (demanded l (meaning p ts at s fs')) ≡ length (demanded l (meaning p ts at (Step.Eval id) fs)) = ap (λ z. length (demanded l z)) g.same in omega arith);
}

-- a value goes to the top frame
pub advance_give : (p : Trees) (ts : Texts) (at : Addr) (l : Addr → Asked) (id : ExprId) (w : Work) (v : Value) (gs fs : List Frame) (s : Step) (fs' : List Frame) (n : ℕ) → fs ≡ At id w ∷ gs → GoesOn p ts at id w v gs s fs' → Advances p ts at l (Step.Give v) fs s fs' n n
advance_give p ts at l id w v gs fs s fs' n e g = subst (λ z. Advances p ts at l (Step.Give v) z s fs' n n) (sym e) (record {
  reaches = reaches_same l (meaning p ts at (Step.Give v) (At id w ∷ gs)) (meaning p ts at s fs') g.same;
  less = omega (arith, g.less);
  fits = λ limit f. g.fits limit f.frames.0 f.frames.1 f.frames.3;
  beneath = g.beneath;
  looks = (let same : length (demanded l (meaning p ts at s fs')) ≡ length (demanded l (meaning p ts at (Step.Give v) (At id w ∷ gs))) = ap (λ z. length (demanded l z)) g.same in omega arith);
})

-- a cell has a value
pub advance_look : (p : Trees) (ts : Texts) (at : Addr) (l : Addr → Asked) (a : Addr) (v : Value) (fs : List Frame) (n n' : ℕ) → Val v ≡ l a → IsValueOf ts v → n' ≤ n + 1 → Advances p ts at l (Step.Look a) fs (Step.Give v) fs n n'
advance_look p ts at l a v fs n n' e m c = record {
  reaches = looked a (unwind p ts at fs) v (unwind p ts at fs v) (sym e) (here (unwind p ts at fs v));
  less = omega arith;
  fits = λ limit f. record { step = m; frames = f.frames };
  beneath = refl;
  looks = (let same : length (demanded l (unwind p ts at fs v)) ≡ length (more (l a) (λ w. demanded l (unwind p ts at fs w))) = ap (λ z. length (more z (λ w. demanded l (unwind p ts at fs w)))) e in omega arith);
}

-- no frame is left
pub give_ends : (p : Trees) (ts : Texts) (at : Addr) (l : Addr → Asked) (v : Value) (fs fs' : List Frame) (n : ℕ) → IsShut fs → fs' ≡ fs → Comes p ts at l (Step.Give v) fs (Val v) fs' n n
give_ends p ts at l v [] fs' n h e = record { answer = λ limit f. (refl, e); looks = omega arith }
give_ends p ts at l v (Opened a x ∷ fs) fs' n h e = record { answer = λ limit f. (refl, e); looks = omega arith }
give_ends p ts at l v (At id w ∷ fs) fs' n h e = absurd h

pub along_none : (p : Trees) (ts : Texts) (at : Addr) (l : Addr → Asked) (s : Step) (fs : List Frame) (n : ℕ) → Along p ts at l s fs s fs n n
along_none p ts at l s fs n = record { reaches = here (meaning p ts at s fs); less = omega arith; fits = λ limit f. f; beneath = refl; looks = omega arith }

-- a turn more goes on
pub along_advances : (p : Trees) (ts : Texts) (at : Addr) (l : Addr → Asked) (s : Step) (fs : List Frame) (s' : Step) (fs' : List Frame) (t : Step) (gs : List Frame) (n n' m : ℕ) → Along p ts at l s fs s' fs' n n' → Advances p ts at l s' fs' t gs n' m → Advances p ts at l s fs t gs n m
along_advances p ts at l s fs s' fs' t gs n n' m h g = record {
  reaches = reaches_on l (meaning p ts at s fs) (meaning p ts at s' fs') (meaning p ts at t gs) h.reaches g.reaches;
  less = omega (arith, h.less, g.less);
  fits = λ limit f. g.fits limit (h.fits limit f);
  beneath = g.beneath ∙ h.beneath;
  looks = omega (arith, h.looks, g.looks);
}

pub along_more : (p : Trees) (ts : Texts) (at : Addr) (l : Addr → Asked) (s : Step) (fs : List Frame) (s' : Step) (fs' : List Frame) (t : Step) (gs : List Frame) (n n' m : ℕ) → Along p ts at l s fs s' fs' n n' → Advances p ts at l s' fs' t gs n' m → Along p ts at l s fs t gs n m
along_more p ts at l s fs s' fs' t gs n n' m h g =
    let a : Advances p ts at l s fs t gs n m = along_advances p ts at l s fs s' fs' t gs n n' m h g in
    record { reaches = a.reaches; less = omega (arith, a.less); fits = a.fits; beneath = a.beneath; looks = a.looks }

-- a missing cell
pub along_stops : (p : Trees) (ts : Texts) (at : Addr) (l : Addr → Asked) (s : Step) (fs : List Frame) (x : Addr) (fs' gs : List Frame) (n n' m : ℕ) → Along p ts at l s fs (Step.Look x) fs' n n' → Needs x ≡ l x → gs ≡ Opened at x ∷ fs' → m ≤ n' + 1 → Comes p ts at l s fs (Needs x) gs n m
along_stops p ts at l s fs x fs' gs n n' m h e top c =
    let long : 1 ≤ length (demanded l (meaning p ts at (Step.Look x) fs')) = omega arith in
    record {
      answer = λ limit f. (
        reaches_run l (meaning p ts at s fs) (Demand x (unwind p ts at fs')) h.reaches ∙ ap (λ z. after z (λ w. run l (unwind p ts at fs' w))) (sym e),
        sym e,
        record {
          frames = fs';
          top = top;
          beneath = h.beneath;
          reaches = h.reaches;
          fits = h.fits limit f;
        },
      );
      looks = omega (arith, h.looks, long);
    }

-- what is left of a plan is answered as the plan
answered_from : (p : Trees) (ts : Texts) (l : Addr → Asked) (limit : ℕ) (at : Addr) (q q' : Plan) (base : List Frame) (r : Asked) (fs : List Frame) → Reaches l q q' → Answered p ts l limit at q' base r fs → Answered p ts l limit at q base r fs
answered_from p ts l limit at q q' base (Val v) fs h a = (reaches_run l q q' h ∙ a.0, a.1)
answered_from p ts l limit at q q' base (Needs x) fs h a = (
  reaches_run l q q' h ∙ a.0,
  a.1,
  record {
    frames = a.2.frames;
    top = a.2.top;
    beneath = a.2.beneath;
    reaches = reaches_on l q q' (Demand x (unwind p ts at a.2.frames)) h a.2.reaches;
    fits = a.2.fits;
  },
)

-- turns that come to an end
pub along_comes : (p : Trees) (ts : Texts) (at : Addr) (l : Addr → Asked) (s : Step) (fs : List Frame) (s' : Step) (fs' : List Frame) (r : Asked) (gs : List Frame) (n n' m : ℕ) → Along p ts at l s fs s' fs' n n' → Comes p ts at l s' fs' r gs n' m → Comes p ts at l s fs r gs n m
along_comes p ts at l s fs s' fs' r gs n n' m h g = record {
  answer = λ limit f. subst (λ z. Answered p ts l limit at (meaning p ts at s fs) z r gs) h.beneath (answered_from p ts l limit at (meaning p ts at s fs) (meaning p ts at s' fs') (below fs') r gs h.reaches (g.answer limit (h.fits limit f)));
  looks = omega (arith, h.looks, g.looks);
}

and_then_give : (p : Plan) → and_then p Give ≡ p
and_then_give (Give v) = refl
and_then_give (Demand a k) = ap (Demand a) (λ i v. and_then_give (k v) i)

-- on top of shut evaluations an expression means its own plan
pub shut_eval : (p : Trees) (ts : Texts) (at : Addr) (fs : List Frame) (q : Plan) → IsShut fs → and_then q (unwind p ts at fs) ≡ q
shut_eval p ts at [] q h = and_then_give q
shut_eval p ts at (Opened a x ∷ fs) q h = and_then_give q
shut_eval p ts at (At id w ∷ fs) q h = absurd h

pub shut_below : (fs : List Frame) → IsShut fs → below fs ≡ fs
shut_below [] h = refl
shut_below (Opened a x ∷ fs) h = refl
shut_below (At id w ∷ fs) h = absurd h

pub answered_is : (p : Trees) (ts : Texts) (l : Addr → Asked) (limit : ℕ) (at : Addr) (q : Plan) (base : List Frame) (r : Asked) (fs : List Frame) → Answered p ts l limit at q base r fs → run l q ≡ r
answered_is p ts l limit at q base (Val v) fs h = h.0
answered_is p ts l limit at q base (Needs x) fs h = h.0

-- on top of shut evaluations
pub begun : (p : Trees) (ts : Texts) (at : Addr) (l : Addr → Asked) (id : ExprId) (fs : List Frame) (r : Asked) (fs' : List Frame) (n n' room : ℕ) → IsShut fs → Holds room (length fs) (tree_at p id) → IsMeant ts (tree_at p id) → Comes p ts at l (Step.Eval id) fs r fs' n n' → Answered p ts l (length fs + depth (tree_at p id)) at (plan ts at (tree_at p id)) fs r fs'
begun p ts at l id fs r fs' n n' room h m t g =
    subst (λ z. Answered p ts l (length fs + depth (tree_at p id)) at (plan ts at (tree_at p id)) z r fs') (shut_below fs h)
    (subst (λ z. Answered p ts l (length fs + depth (tree_at p id)) at z (below fs) r fs') (shut_eval p ts at fs (plan ts at (tree_at p id)) h)
    (g.answer (length fs + depth (tree_at p id)) (record { step = (record { deep = omega arith; covered = m.covered; small = m.small }, t); frames = fit fs h })))
  where
    fit : (gs : List Frame) → IsShut gs → AllFit p ts at (length fs + depth (tree_at p id)) gs
    fit [] h = tt
    fit (Opened a x ∷ gs) h = tt
    fit (At i w ∷ gs) h = absurd h

pub begun_looks : (p : Trees) (ts : Texts) (at : Addr) (l : Addr → Asked) (id : ExprId) (fs : List Frame) (r : Asked) (fs' : List Frame) (n n' : ℕ) → IsShut fs → Comes p ts at l (Step.Eval id) fs r fs' n n' → n' ≤ n + length (demanded l (plan ts at (tree_at p id)))
begun_looks p ts at l id fs r fs' n n' h g = subst (λ z. n' ≤ n + length (demanded l z)) (shut_eval p ts at fs (plan ts at (tree_at p id)) h) g.looks

-- taken up again at the cell that it needs
pub taken_up : (p : Trees) (ts : Texts) (l : Addr → Asked) (limit : ℕ) (at : Addr) (q : Plan) (x : Addr) (fs base : List Frame) (at' x' : Addr) (gs : List Frame) (r : Asked) (fs' : List Frame) → fs ≡ Opened at' x' ∷ gs → Stands p ts l limit at q x fs base → ((limit : ℕ) → Fits p ts at' limit (Step.Look x') gs → Answered p ts l limit at' (meaning p ts at' (Step.Look x') gs) (below gs) r fs') → Answered p ts l limit at q base r fs'
taken_up p ts l limit at q x fs base at' x' gs r fs' e s g =
    let a : at' ≡ at = (let t = s.top in cc) in
    let b : x' ≡ x = (let t = s.top in cc) in
    let c : gs ≡ s.frames = (let t = s.top in cc) in
    let f : Fits p ts at' limit (Step.Look x') gs = subst (λ z. Fits p ts at' limit (Step.Look x') z) (sym c) (subst (λ z. Fits p ts at' limit (Step.Look z) s.frames) (sym b) (subst (λ z. Fits p ts z limit (Step.Look x) s.frames) (sym a) s.fits)) in
    let one : Answered p ts l limit at (Demand x (unwind p ts at s.frames)) (below s.frames) r fs' = subst (λ z. Answered p ts l limit at (Demand x (unwind p ts at z)) (below z) r fs') c (subst (λ z. Answered p ts l limit at (Demand z (unwind p ts at gs)) (below gs) r fs') b (subst (λ z. Answered p ts l limit z (Demand x' (unwind p ts z gs)) (below gs) r fs') a (g limit f))) in
    subst (λ z. Answered p ts l limit at q z r fs') s.beneath (answered_from p ts l limit at q (Demand x (unwind p ts at s.frames)) (below s.frames) r fs' s.reaches one)

-- more known values keep an evaluation open
pub stands_grows : (p : Trees) (ts : Texts) (l m : Addr → Asked) (limit : ℕ) (at : Addr) (q : Plan) (x : Addr) (fs base : List Frame) → KeepsValues l m → Stands p ts l limit at q x fs base → Stands p ts m limit at q x fs base
stands_grows p ts l m limit at q x fs base h s = record {
  frames = s.frames;
  top = s.top;
  beneath = s.beneath;
  reaches = reaches_grows l m h q (Demand x (unwind p ts at s.frames)) s.reaches;
  fits = s.fits;
}

-- an evaluation taken up again looks once more at the cell that it needs, and at each other cell once
pub looks_in_all : (l m : Addr → Asked) → KeepsValues l m → (q : Plan) (x : Addr) (k : Value → Plan) → Reaches l q (Demand x k) → l x ≡ Needs x → length (demanded l q) + length (demanded m (Demand x k)) ≡ length (demanded m q) + 1
looks_in_all l m h q x k (here _) e =
    let one : length (demanded l (Demand x k)) ≡ 1 = ap (λ z. suc (length (more z (λ v. demanded l (k v))))) e in
    omega (arith, one)
looks_in_all l m h q x k (looked a f v _ e r) n =
    let one : length (demanded l (Demand a f)) ≡ suc (length (demanded l (f v))) = ap (λ z. suc (length (more z (λ w. demanded l (f w))))) e in
    let two : length (demanded m (Demand a f)) ≡ suc (length (demanded m (f v))) = ap (λ z. suc (length (more z (λ w. demanded m (f w))))) (h a v e) in
    omega (arith, one, two, looks_in_all l m h (f v) x k r n)

pub marked_not : (fs : List Frame) (at x : Addr) (gs : List Frame) → fs ≡ Opened at x ∷ gs → HasNoMark fs → ⊥
marked_not fs at x gs e h = subst HasNoMark e h

-- what is left is the rest of the last open evaluation; its cell does not show in the stack's plan
pub looks_once_more : (p : Trees) (ts : Texts) (l m : Addr → Asked) (limit : ℕ) (at : Addr) (q : Plan) (x : Addr) (fs base : List Frame) → KeepsValues l m → l x ≡ Needs x → Stands p ts l limit at q x fs base → length (demanded l q) + length (demanded m (rest_of p ts fs)) ≡ length (demanded m q) + 1
looks_once_more p ts l m limit at q x fs base h n s = subst (λ z. length (demanded l q) + length (demanded m (rest_of p ts z)) ≡ length (demanded m q) + 1) (sym s.top) (looks_in_all l m h q x (unwind p ts at s.frames) s.reaches n)

all_fit_more : (p : Trees) (ts : Texts) (at : Addr) (limit room : ℕ) (fs : List Frame) → limit ≤ room → AllFit p ts at limit fs → AllFit p ts at room fs
all_fit_more p ts at limit room [] h f = tt
all_fit_more p ts at limit room (Opened a x ∷ fs) h f = tt
all_fit_more p ts at limit room (At id w ∷ fs) h f = (record { deep = omega (arith, f.0.deep); covered = f.0.covered; small = f.0.small }, f.1, f.2, all_fit_more p ts at limit room fs h f.3)

pub stands_ready : (p : Trees) (ts : Texts) (l : Addr → Asked) (limit room : ℕ) (at : Addr) (q : Plan) (x : Addr) (fs base : List Frame) → Stands p ts l limit at q x fs base → limit ≤ room → IsShut fs × HasOpen p ts room fs × (length fs ≤ limit)
stands_ready p ts l limit room at q x fs base s h =
    let below_limit : length s.frames < limit = s.fits.step in
    subst (λ z. IsShut z × HasOpen p ts room z × (length z ≤ limit)) (sym s.top)
    (tt, record { step = omega arith; frames = all_fit_more p ts at limit room s.frames h s.fits.frames }, omega arith)

-- what fits, by the step

pub fits_eval : (p : Trees) (ts : Texts) (at : Addr) (limit : ℕ) (s : Step) (fs : List Frame) (id : ExprId) → Fits p ts at limit s fs → s ≡ Step.Eval id → Holds limit (length fs) (tree_at p id)
fits_eval p ts at limit s fs id f e = (subst (λ z. StepFits p ts limit z fs) e f.step).0

pub fits_look : (p : Trees) (ts : Texts) (at : Addr) (limit : ℕ) (s : Step) (fs : List Frame) (a : Addr) → Fits p ts at limit s fs → s ≡ Step.Look a → length fs < limit
fits_look p ts at limit s fs a f e = subst (λ z. StepFits p ts limit z fs) e f.step

pub fits_given : (p : Trees) (ts : Texts) (at : Addr) (limit room : ℕ) (s : Step) (fs gs : List Frame) (id : ExprId) (w : Work) (v : Value) → Fits p ts at limit s fs → s ≡ Step.Give v → fs ≡ At id w ∷ gs → room ≡ limit → Fits p ts at room (Step.Give v) (At id w ∷ gs)
fits_given p ts at limit room s fs gs id w v f e top r = subst (λ z. Fits p ts at z (Step.Give v) (At id w ∷ gs)) (sym r) (subst (λ z. Fits p ts at limit (Step.Give v) z) top (subst (λ z. Fits p ts at limit z fs) e f))

-- an expression on top of shut evaluations
pub fits_shut : (p : Trees) (ts : Texts) (at : Addr) (limit : ℕ) (id : ExprId) (fs : List Frame) → IsShut fs → Holds limit (length fs) (tree_at p id) → IsMeant ts (tree_at p id) → Fits p ts at limit (Step.Eval id) fs
fits_shut p ts at limit id [] h m t = record { step = (m, t); frames = tt }
fits_shut p ts at limit id (Opened a x ∷ fs) h m t = record { step = (m, t); frames = tt }
fits_shut p ts at limit id (At i w ∷ fs) h m t = absurd h

pub drops_to_base : (p : Trees) (ts : Texts) (l : Addr → Asked) (limit : ℕ) (at : Addr) (q : Plan) (x : Addr) (fs base : List Frame) → Stands p ts l limit at q x fs base → dropped fs ≡ base
drops_to_base p ts l limit at q x fs base s = rw s.top s.beneath
