-- What each step of a node does to the plan, the room and the work that is left.
use Rattle.std.proofs.Common.{◌≡◌, ℕ, ◌+◌, ◌<◌, ◌≤◌, Option, Some, None, List, ◌∷◌, length, refl, sym, ap, ◌∙◌, subst, arith}
use Rattle.cell_values.specs.declared.address.Addr.{Addr}
use Rattle.cell_values.specs.declared.values.Code.{Code}
use Rattle.cell_values.specs.declared.values.Value.{Value}
use Rattle.cell_values.specs.Texts.{Texts}
use Rattle.formula_trees.specs.Expr.{Expr}
use Rattle.cell_values.specs.Values.{IsValueOf}
use Rattle.demand_spec.specs.Plan.{Plan, Give, Demand, and_then}
use Rattle.demand_spec.specs.Formula.{fails, plan}
use Rattle.shared_expressions.specs.declared.nodes.ExprId.{ExprId}
use Rattle.shared_expressions.specs.Trees.{Trees, tree_at, child_of, depth}
use Rattle.formula_eval.specs.declared.work.Work.{Work}
use Rattle.formula_eval.specs.declared.work.Frame.{Frame}
use Rattle.formula_eval.specs.declared.work.Frame.TheVariants.{At}
use Rattle.formula_eval.specs.declared.work.Step.{Step}
use Rattle.formula_eval.specs.Machine.{frame_plan, unwind, plan_or, cost, frame_left, IsMeant, WorkFits, Goes, Waits, WaitsOr, Instead, Does}
use Rattle.formula_eval.proofs.Values.{error_value}
use Rattle.formula_eval.proofs.Parts.{holds_child, holds_instead, meant_child, depth_above}

pub and_then_assoc : (p : Plan) (f g : Value → Plan) → and_then (and_then p f) g ≡ and_then p (λ v. and_then (f v) g)
and_then_assoc (Give v) f g = refl
and_then_assoc (Demand a k) f g = ap (Demand a) (λ i w. and_then_assoc (k w) f g i)

-- a value
pub gives : (p : Trees) (ts : Texts) (at : Addr) (e : Expr) (q : Plan) (budget : ℕ) (fs : List Frame) (v : Value) → q ≡ Give v → 0 < budget → (IsMeant ts e → IsValueOf ts v) → Goes p ts at e q budget fs (Step.Give v) fs
gives p ts at e q budget fs v h b m = record {
  same = ap (λ z. and_then z (unwind p ts at fs)) (sym h);
  less = omega arith;
  fits = λ limit d t a. record { step = m t; frames = a };
  beneath = refl;
}

-- an error
pub ends : (p : Trees) (ts : Texts) (at : Addr) (e : Expr) (q : Plan) (budget : ℕ) (fs : List Frame) (c : Code) → q ≡ fails c → 0 < budget → Goes p ts at e q budget fs (Step.Give (Value.Error c)) fs
ends p ts at e q budget fs c h b = gives p ts at e q budget fs (Value.Error c) h b (λ t. tt)

-- a cell in place of the node
pub looks : (p : Trees) (ts : Texts) (at : Addr) (e : Expr) (q : Plan) (budget : ℕ) (fs : List Frame) (a : Addr) → q ≡ Demand a Give → 1 < budget → Goes p ts at e q budget fs (Step.Look a) fs
looks p ts at e q budget fs a h b = record {
  same = ap (λ z. and_then z (unwind p ts at fs)) (sym h);
  less = omega arith;
  fits = λ limit m t f. record { step = omega (arith, m.deep, depth_above e); frames = f };
  beneath = refl;
}

pub does : (p : Trees) (ts : Texts) (at : Addr) (e : Expr) (q r : Plan) (budget : ℕ) (fs : List Frame) (s : Step) → r ≡ q → 1 < budget → Does q s → Goes p ts at e r budget fs s fs
does p ts at e q r budget fs (Step.Give v) h b d = gives p ts at e r budget fs v (h ∙ d.0) (omega arith) (λ t. error_value ts v d.1)
does p ts at e q r budget fs (Step.Look a) h b d = looks p ts at e r budget fs a (h ∙ d) b
does p ts at e q r budget fs (Step.Eval c) h b d = absurd d

-- a child in place of the node
instead_child : (p : Trees) (ts : Texts) (at : Addr) (e : Expr) (q : Plan) (budget : ℕ) (fs : List Frame) (c : ExprId) (k : ℕ) → child_of k e ≡ Some (tree_at p c) → q ≡ plan ts at (tree_at p c) → cost at (tree_at p c) < budget → Goes p ts at e q budget fs (Step.Eval c) fs
instead_child p ts at e q budget fs c k child h b = record {
  same = ap (λ z. and_then z (unwind p ts at fs)) (sym h);
  less = omega arith;
  fits = λ limit m t f. record { step = (holds_instead limit (length fs) k e (tree_at p c) child m, meant_child ts k e (tree_at p c) child t); frames = f };
  beneath = refl;
}

pub instead : (p : Trees) (ts : Texts) (at : Addr) (e : Expr) (q : Plan) (budget : ℕ) (fs : List Frame) (k : ℕ) (v : Value) (s : Step) (o : Option Expr) → child_of k e ≡ o → q ≡ plan_or (Give v) ts at o → 0 < budget → ((a : Expr) → o ≡ Some a → cost at a < budget) → (IsMeant ts e → IsValueOf ts v) → Instead p o v s → Goes p ts at e q budget fs s fs
instead p ts at e q budget fs k v s None child h b l m r = subst (λ z. Goes p ts at e q budget fs z fs) (sym r) (gives p ts at e q budget fs v h b m)
instead p ts at e q budget fs k v s (Some a) child h b l m r = subst (λ z. Goes p ts at e q budget fs z fs) (sym r.1) (instead_child p ts at e q budget fs r.0 k (child ∙ ap Some (sym r.2)) (h ∙ ap (plan ts at) (sym r.2)) (subst (λ z. cost at z < budget) (sym r.2) (l a refl)))

-- what is shown of a node that waits for a child
pub record Awaits (ts : Texts) (at : Addr) (e : Expr) (q : Plan) (budget : ℕ) (w : Work) (a : Expr) : Type 0 where
  pub goes_on : q ≡ and_then (plan ts at a) (λ v. frame_plan ts at e w v)
  pub falls : cost at a + frame_left at e w < budget

pub waits : (p : Trees) (ts : Texts) (at : Addr) (id : ExprId) (q : Plan) (budget : ℕ) (w : Work) (fs : List Frame) (c : ExprId) (k : ℕ) (fs' : List Frame) → fs' ≡ At id w ∷ fs → child_of k (tree_at p id) ≡ Some (tree_at p c) → (IsMeant ts (tree_at p id) → WorkFits ts at (tree_at p id) w) → Awaits ts at (tree_at p id) q budget w (tree_at p c) → Goes p ts at (tree_at p id) q budget fs (Step.Eval c) fs'
waits p ts at id q budget w fs c k fs' e child n h = subst (λ z. Goes p ts at (tree_at p id) q budget fs (Step.Eval c) z) (sym e) (record {
  same = sym (and_then_assoc (plan ts at (tree_at p c)) (frame_plan ts at (tree_at p id) w) (unwind p ts at fs)) ∙ ap (λ z. and_then z (unwind p ts at fs)) (sym h.goes_on);
  less = omega (arith, h.falls);
  fits = λ limit m t f. record { step = (holds_child limit (length fs) k (tree_at p id) (tree_at p c) child m, meant_child ts k (tree_at p id) (tree_at p c) child t); frames = (m, t, n t, f) };
  beneath = refl;
})

-- from what is known of a child that may be missing
pub waited : (p : Trees) (ts : Texts) (at : Addr) (id : ExprId) (q : Plan) (budget : ℕ) (w : Work) (fs : List Frame) (k : ℕ) (s : Step) (fs' : List Frame) (o : Option Expr) → child_of k (tree_at p id) ≡ o → 0 < budget → (IsMeant ts (tree_at p id) → WorkFits ts at (tree_at p id) w) → ((a : Expr) → o ≡ Some a → Awaits ts at (tree_at p id) q budget w a) → (o ≡ None → q ≡ fails Code.Value) → Waits p id w o fs s fs' → Goes p ts at (tree_at p id) q budget fs s fs'
waited p ts at id q budget w fs k s fs' None child b n h there r =
    subst (λ z. Goes p ts at (tree_at p id) q budget fs z fs') (sym r.0) (subst (λ z. Goes p ts at (tree_at p id) q budget fs (Step.Give (Value.Error Code.Value)) z) (sym r.1) (ends p ts at (tree_at p id) q budget fs Code.Value (there refl) b))
waited p ts at id q budget w fs k s fs' (Some a) child b n h there r =
    let one : Awaits ts at (tree_at p id) q budget w (tree_at p r.0) = subst (Awaits ts at (tree_at p id) q budget w) (sym r.2) (h a refl) in
    subst (λ z. Goes p ts at (tree_at p id) q budget fs z fs') (sym r.1) (waits p ts at id q budget w fs r.0 k fs' r.3 (child ∙ ap Some (sym r.2)) n one)

-- a node has a value in place of a child's
hands : (p : Trees) (ts : Texts) (at : Addr) (id : ExprId) (q : Plan) (budget : ℕ) (w : Work) (fs : List Frame) (u : Value) (fs' : List Frame) → fs' ≡ At id w ∷ fs → (IsMeant ts (tree_at p id) → WorkFits ts at (tree_at p id) w) → IsValueOf ts u → q ≡ frame_plan ts at (tree_at p id) w u → frame_left at (tree_at p id) w < budget → Goes p ts at (tree_at p id) q budget fs (Step.Give u) fs'
hands p ts at id q budget w fs u fs' e n v h l = subst (λ z. Goes p ts at (tree_at p id) q budget fs (Step.Give u) z) (sym e) (record {
  same = ap (λ z. and_then z (unwind p ts at fs)) (sym h);
  less = omega (arith, l);
  fits = λ limit m t f. record { step = v; frames = (m, t, n t, f) };
  beneath = refl;
})

-- from what is known of a child, or of the value in its place
pub waited_or : (p : Trees) (ts : Texts) (at : Addr) (id : ExprId) (q : Plan) (budget : ℕ) (w : Work) (fs : List Frame) (k : ℕ) (u : Value) (s : Step) (fs' : List Frame) (o : Option Expr) → child_of k (tree_at p id) ≡ o → (IsMeant ts (tree_at p id) → WorkFits ts at (tree_at p id) w) → IsValueOf ts u → q ≡ and_then (plan_or (Give u) ts at o) (λ v. frame_plan ts at (tree_at p id) w v) → ((a : Expr) → o ≡ Some a → cost at a + frame_left at (tree_at p id) w < budget) → frame_left at (tree_at p id) w < budget → WaitsOr p id w u o fs s fs' → Goes p ts at (tree_at p id) q budget fs s fs'
waited_or p ts at id q budget w fs k u s fs' None child n v h l b r =
    subst (λ z. Goes p ts at (tree_at p id) q budget fs z fs') (sym r.0) (hands p ts at id q budget w fs u fs' r.1 n v h b)
waited_or p ts at id q budget w fs k u s fs' (Some a) child n v h l b r =
    let one : Awaits ts at (tree_at p id) q budget w (tree_at p r.0) = subst (Awaits ts at (tree_at p id) q budget w) (sym r.2) (record { goes_on = h; falls = l a refl }) in
    subst (λ z. Goes p ts at (tree_at p id) q budget fs z fs') (sym r.1) (waits p ts at id q budget w fs r.0 k fs' r.3 (child ∙ ap Some (sym r.2)) n one)

-- a cell is waited for
pub record AwaitsCell (ts : Texts) (at : Addr) (e : Expr) (q : Plan) (budget : ℕ) (w : Work) (a : Addr) : Type 0 where
  pub goes_on : q ≡ Demand a (λ v. frame_plan ts at e w v)
  pub falls : 1 + frame_left at e w < budget
  pub deep : 1 < depth e

pub waits_cell : (p : Trees) (ts : Texts) (at : Addr) (id : ExprId) (q : Plan) (budget : ℕ) (w : Work) (fs : List Frame) (a : Addr) (fs' : List Frame) → fs' ≡ At id w ∷ fs → (IsMeant ts (tree_at p id) → WorkFits ts at (tree_at p id) w) → AwaitsCell ts at (tree_at p id) q budget w a → Goes p ts at (tree_at p id) q budget fs (Step.Look a) fs'
waits_cell p ts at id q budget w fs a fs' e n h = subst (λ z. Goes p ts at (tree_at p id) q budget fs (Step.Look a) z) (sym e) (record {
  same = ap (λ z. and_then z (unwind p ts at fs)) (sym h.goes_on);
  less = omega (arith, h.falls);
  fits = λ limit m t f. record { step = omega (arith, m.deep, h.deep); frames = (m, t, n t, f) };
  beneath = refl;
})

-- the same plan, with more room for work
pub goes_less : (p : Trees) (ts : Texts) (at : Addr) (e : Expr) (q q' : Plan) (m n : ℕ) (fs : List Frame) (s : Step) (fs' : List Frame) → q' ≡ q → m ≤ n → Goes p ts at e q m fs s fs' → Goes p ts at e q' n fs s fs'
goes_less p ts at e q q' m n fs s fs' h l g = record {
  same = g.same ∙ ap (λ z. and_then z (unwind p ts at fs)) (sym h);
  less = omega (arith, g.less);
  fits = g.fits;
  beneath = g.beneath;
}
