-- What waits for a first and a second value.
use Rattle.std.proofs.Common.{◌≡◌, ℕ, ℤ, zero, suc, ◌+◌, ◌*◌, ◌<◌, true, false, Some, None, List, refl, sym, ap, ◌∙◌, subst, arith}
use Rattle.cell_values.specs.declared.address.Addr.{Addr}
use Rattle.cell_values.specs.declared.values.Code.{Code}
use Rattle.cell_values.specs.declared.values.Value.{Value}
use Rattle.cell_values.specs.Texts.{Texts}
use Rattle.formula_trees.specs.declared.tree.Fun.{Fun}
use Rattle.formula_trees.specs.declared.tree.Op.{Op}
use Rattle.formula_trees.specs.declared.tree.Sign.{Sign}
use Rattle.formula_trees.specs.Expr.{Expr, Exprs, End, More}
use Rattle.cell_values.specs.Values.{IsValueOf, is_error, as_number}
use Rattle.demand_spec.specs.Plan.{Plan, Give, and_then}
use Rattle.demand_spec.specs.Formula.{fails, unless_error, operator_value, sign_value, plan}
use Rattle.formula_eval.proofs.Parts.{costs_first}
use Rattle.shared_expressions.specs.declared.nodes.ExprId.{ExprId}
use Rattle.shared_expressions.specs.declared.nodes.Node.{Node}
use Rattle.shared_expressions.specs.Trees.{Trees, tree_at, root_of, nth, child_of}
use Rattle.formula_eval.specs.declared.work.Work.{Work}
use Rattle.formula_eval.specs.declared.work.Work.TheVariants.{First, Second, Third, Turn, Argument, Cell, Search, Lookup}
use Rattle.formula_eval.specs.declared.work.Frame.{Frame}
use Rattle.formula_eval.specs.declared.work.Step.{Step}
use Rattle.formula_eval.specs.Machine.{plan_or, place_named, first_number, second_number, second_default, start_number, error_or, turn_of, fold_of, call_first, call_second, call_third, first_of_two, frame_plan, span, cost, costs, costs_from, costs_but, second_left, call_left, frame_left, IsCall, IsCovered, IsOperand, WorkFits, Starts, GoesOn, Waits, WaitsOr, Instead, arguments_of}
use Rattle.formula_eval.proofs.Values.{error_value, no_error, error_is, error_or_is, sign_is, sign_meant, operator_is, operator_meant, start_counts}
use Rattle.formula_eval.proofs.Moves.{gives, instead, Awaits, waited, waited_or}

-- A sign

pub start_unary : (p : Trees) (ts : Texts) (at : Addr) (id : ExprId) (s : Sign) (fs : List Frame) (step : Step) (fs' : List Frame) → Node.Unary s ≡ root_of (tree_at p id) → Waits p id First (child_of 0 (tree_at p id)) fs step fs' → Starts p ts at id fs step fs'
start_unary p ts at id s fs step fs' r w = waited p ts at id (plan ts at (tree_at p id)) (cost at (tree_at p id)) First fs 0 step fs' (child_of 0 (tree_at p id)) refl (some (tree_at p id) r) (λ t. tt) (awaits (tree_at p id) r) (there (tree_at p id) r) w
  where
    some : (e : Expr) → Node.Unary s ≡ root_of e → 0 < cost at e
    some (Expr.Unary t b) r = omega arith
    some e r = absurd (cc)

    awaits : (e : Expr) → Node.Unary s ≡ root_of e → (a : Expr) → child_of 0 e ≡ Some a → Awaits ts at e (plan ts at e) (cost at e) First a
    awaits (Expr.Unary t b) r a h = (let same : b ≡ a = cc in subst (Awaits ts at (Expr.Unary t b) (plan ts at (Expr.Unary t b)) (cost at (Expr.Unary t b)) First) same (record { goes_on = refl; falls = omega arith }))
    awaits e r a h = absurd (cc)

    there : (e : Expr) → Node.Unary s ≡ root_of e → child_of 0 e ≡ None → plan ts at e ≡ fails Code.Value
    there (Expr.Unary t b) r h = absurd (cc)
    there e r h = absurd (cc)

pub go_unary : (p : Trees) (ts : Texts) (at : Addr) (id : ExprId) (s : Sign) (v : Value) (fs : List Frame) → Node.Unary s ≡ root_of (tree_at p id) → GoesOn p ts at id First v fs (Step.Give (sign_value s v)) fs
go_unary p ts at id s v fs r = gives p ts at (tree_at p id) (frame_plan ts at (tree_at p id) First v) (frame_left at (tree_at p id) First) fs (sign_value s v) (same (tree_at p id) r) (less (tree_at p id) r) (λ t. sign_meant ts s v)
  where
    same : (e : Expr) → Node.Unary s ≡ root_of e → frame_plan ts at e First v ≡ Give (sign_value s v)
    same (Expr.Unary t b) r = (let is : t ≡ s = cc in sign_is t v ∙ ap (λ z. Give (sign_value z v)) is)
    same e r = absurd (cc)

    less : (e : Expr) → Node.Unary s ≡ root_of e → 0 < frame_left at e First
    less (Expr.Unary t b) r = omega arith
    less e r = absurd (cc)

-- A two-sided operator

pub start_binary : (p : Trees) (ts : Texts) (at : Addr) (id : ExprId) (o : Op) (fs : List Frame) (step : Step) (fs' : List Frame) → Node.Binary o ≡ root_of (tree_at p id) → Waits p id First (child_of 0 (tree_at p id)) fs step fs' → Starts p ts at id fs step fs'
start_binary p ts at id o fs step fs' r w = waited p ts at id (plan ts at (tree_at p id)) (cost at (tree_at p id)) First fs 0 step fs' (child_of 0 (tree_at p id)) refl (some (tree_at p id) r) (λ t. tt) (awaits (tree_at p id) r) (there (tree_at p id) r) w
  where
    some : (e : Expr) → Node.Binary o ≡ root_of e → 0 < cost at e
    some (Expr.Binary q b c) r = omega arith
    some e r = absurd (cc)

    awaits : (e : Expr) → Node.Binary o ≡ root_of e → (a : Expr) → child_of 0 e ≡ Some a → Awaits ts at e (plan ts at e) (cost at e) First a
    awaits (Expr.Binary q b c) r a h = (let same : b ≡ a = cc in subst (Awaits ts at (Expr.Binary q b c) (plan ts at (Expr.Binary q b c)) (cost at (Expr.Binary q b c)) First) same (record { goes_on = refl; falls = omega arith }))
    awaits e r a h = absurd (cc)

    there : (e : Expr) → Node.Binary o ≡ root_of e → child_of 0 e ≡ None → plan ts at e ≡ fails Code.Value
    there (Expr.Binary q b c) r h = absurd (cc)
    there e r h = absurd (cc)

pub operand_from : (ts : Texts) (v : Value) → is_error v ≡ false → IsValueOf ts v → IsOperand ts v
operand_from ts v h m = (m, h)

pub go_left_error : (p : Trees) (ts : Texts) (at : Addr) (id : ExprId) (o : Op) (v : Value) (fs : List Frame) → Node.Binary o ≡ root_of (tree_at p id) → is_error v ≡ true → GoesOn p ts at id First v fs (Step.Give v) fs
go_left_error p ts at id o v fs r h = gives p ts at (tree_at p id) (frame_plan ts at (tree_at p id) First v) (frame_left at (tree_at p id) First) fs v (same (tree_at p id) r) (less (tree_at p id) r) (λ t. error_value ts v h)
  where
    same : (e : Expr) → Node.Binary o ≡ root_of e → frame_plan ts at e First v ≡ Give v
    same (Expr.Binary q a b) r = error_is v (λ x. and_then (plan ts at b) (λ w. unless_error w (λ y. Give (operator_value ts q x y)))) h
    same e r = absurd (cc)

    less : (e : Expr) → Node.Binary o ≡ root_of e → 0 < frame_left at e First
    less (Expr.Binary q a b) r = omega arith
    less e r = absurd (cc)

pub go_left : (p : Trees) (ts : Texts) (at : Addr) (id : ExprId) (o : Op) (x : Value) (fs : List Frame) (step : Step) (fs' : List Frame) → Node.Binary o ≡ root_of (tree_at p id) → is_error x ≡ false → IsValueOf ts x → Waits p id (Second x) (child_of 1 (tree_at p id)) fs step fs' → GoesOn p ts at id First x fs step fs'
go_left p ts at id o x fs step fs' r n m w = waited p ts at id (frame_plan ts at (tree_at p id) First x) (frame_left at (tree_at p id) First) (Second x) fs 1 step fs' (child_of 1 (tree_at p id)) refl (some (tree_at p id) r) (λ t. fit (tree_at p id) r) (awaits (tree_at p id) r) (there (tree_at p id) r) w
  where
    some : (e : Expr) → Node.Binary o ≡ root_of e → 0 < frame_left at e First
    some (Expr.Binary q b c) r = omega arith
    some e r = absurd (cc)

    fit : (e : Expr) → Node.Binary o ≡ root_of e → WorkFits ts at e (Second x)
    fit e r = operand_from ts x n m

    awaits : (e : Expr) → Node.Binary o ≡ root_of e → (a : Expr) → child_of 1 e ≡ Some a → Awaits ts at e (frame_plan ts at e First x) (frame_left at e First) (Second x) a
    awaits (Expr.Binary q b c) r a h = (let same : c ≡ a = cc in subst (Awaits ts at (Expr.Binary q b c) (frame_plan ts at (Expr.Binary q b c) First x) (3 + cost at c) (Second x)) same (record { goes_on = no_error x (λ u. and_then (plan ts at c) (λ w. unless_error w (λ y. Give (operator_value ts q u y)))) n; falls = omega arith }))
    awaits e r a h = absurd (cc)

    there : (e : Expr) → Node.Binary o ≡ root_of e → child_of 1 e ≡ None → frame_plan ts at e First x ≡ fails Code.Value
    there (Expr.Binary q b c) r h = absurd (cc)
    there e r h = absurd (cc)

pub go_right : (p : Trees) (ts : Texts) (at : Addr) (id : ExprId) (o : Op) (x v : Value) (fs : List Frame) → Node.Binary o ≡ root_of (tree_at p id) → IsOperand ts x → GoesOn p ts at id (Second x) v fs (Step.Give (operator_value ts o x v)) fs
go_right p ts at id o x v fs r n = gives p ts at (tree_at p id) (frame_plan ts at (tree_at p id) (Second x) v) (frame_left at (tree_at p id) (Second x)) fs (operator_value ts o x v) (same (tree_at p id) r) (less (tree_at p id) r) (λ t. operator_meant ts o x v)
  where
    same : (e : Expr) → Node.Binary o ≡ root_of e → frame_plan ts at e (Second x) v ≡ Give (operator_value ts o x v)
    same (Expr.Binary q a b) r = (let is : q ≡ o = cc in operator_is ts q x v n.1 ∙ ap (λ z. Give (operator_value ts z x v)) is)
    same e r = absurd (cc)

    less : (e : Expr) → Node.Binary o ≡ root_of e → 0 < frame_left at e (Second x)
    less (Expr.Binary q a b) r = omega arith
    less e r = absurd (cc)

-- Calls

pub call_is : (e : Expr) (f : Fun) → Node.Call f ≡ root_of e → e ≡ Expr.Call f (arguments_of e)
call_is (Expr.Call g args) f r = (let same : g ≡ f = cc in ap (λ z. Expr.Call z args) same)
call_is e f r = absurd (cc)

awaits_from : (ts : Texts) (at : Addr) (e : Expr) (q : Plan) (budget : ℕ) (w : Work) (b a : Expr) → Some b ≡ Some a → q ≡ and_then (plan ts at b) (λ v. frame_plan ts at e w v) → cost at b + frame_left at e w < budget → Awaits ts at e q budget w a
awaits_from ts at e q budget w b a s h l = (let same : b ≡ a = cc in subst (Awaits ts at e q budget w) same (record { goes_on = h; falls = l }))

pub first_call : (ts : Texts) (at : Addr) (f : Fun) (args : Exprs) → IsCall f args → None ≡ turn_of f → None ≡ fold_of f → (a : Expr) → nth (first_number f) args ≡ Some a → Awaits ts at (Expr.Call f args) (plan ts at (Expr.Call f args)) (cost at (Expr.Call f args)) First a
first_call ts at Fun.And args m t d a h = absurd (cc)
first_call ts at Fun.Or args m t d a h = absurd (cc)
first_call ts at Fun.Sum args m t d a h = absurd (cc)
first_call ts at Fun.Min args m t d a h = absurd (cc)
first_call ts at Fun.Max args m t d a h = absurd (cc)
first_call ts at Fun.Count args m t d a h = absurd (cc)
first_call ts at Fun.If End m t d a h = absurd m
first_call ts at Fun.If (More b End) m t d a h = absurd m
first_call ts at Fun.If (More b (More c End)) m t d a h = awaits_from ts at (Expr.Call Fun.If (More b (More c End))) _ _ First b a h refl (omega arith)
first_call ts at Fun.If (More b (More c (More i End))) m t d a h = awaits_from ts at (Expr.Call Fun.If (More b (More c (More i End)))) _ _ First b a h refl (omega arith)
first_call ts at Fun.If (More b (More c (More i (More j r)))) m t d a h = absurd m
first_call ts at Fun.Not End m t d a h = absurd m
first_call ts at Fun.Not (More b End) m t d a h = awaits_from ts at (Expr.Call Fun.Not (More b End)) _ _ First b a h refl (omega arith)
first_call ts at Fun.Not (More b (More c r)) m t d a h = absurd m
first_call ts at Fun.Choose End m t d a h = absurd m
first_call ts at Fun.Choose (More b End) m t d a h = absurd m
first_call ts at Fun.Choose (More b (More c r)) m t d a h = awaits_from ts at (Expr.Call Fun.Choose (More b (More c r))) _ _ First b a h refl (omega arith)
first_call ts at Fun.IfError End m t d a h = absurd m
first_call ts at Fun.IfError (More b End) m t d a h = absurd m
first_call ts at Fun.IfError (More b (More c End)) m t d a h = awaits_from ts at (Expr.Call Fun.IfError (More b (More c End))) _ _ First b a h refl (omega arith)
first_call ts at Fun.IfError (More b (More c (More i r))) m t d a h = absurd m
first_call ts at Fun.IsError End m t d a h = absurd m
first_call ts at Fun.IsError (More b End) m t d a h = awaits_from ts at (Expr.Call Fun.IsError (More b End)) _ _ First b a h refl (omega arith)
first_call ts at Fun.IsError (More b (More c r)) m t d a h = absurd m
first_call ts at Fun.Abs End m t d a h = absurd m
first_call ts at Fun.Abs (More b End) m t d a h = awaits_from ts at (Expr.Call Fun.Abs (More b End)) _ _ First b a h refl (omega arith)
first_call ts at Fun.Abs (More b (More c r)) m t d a h = absurd m
first_call ts at Fun.Mod End m t d a h = absurd m
first_call ts at Fun.Mod (More b End) m t d a h = absurd m
first_call ts at Fun.Mod (More b (More c End)) m t d a h = awaits_from ts at (Expr.Call Fun.Mod (More b (More c End))) _ _ First b a h refl (omega arith)
first_call ts at Fun.Mod (More b (More c (More i r))) m t d a h = absurd m
first_call ts at Fun.Quotient End m t d a h = absurd m
first_call ts at Fun.Quotient (More b End) m t d a h = absurd m
first_call ts at Fun.Quotient (More b (More c End)) m t d a h = awaits_from ts at (Expr.Call Fun.Quotient (More b (More c End))) _ _ First b a h refl (omega arith)
first_call ts at Fun.Quotient (More b (More c (More i r))) m t d a h = absurd m
first_call ts at Fun.Index End m t d a h = absurd m
first_call ts at Fun.Index (More b End) m t d a h = absurd m
first_call ts at Fun.Index (More b (More c End)) m t d a h = absurd m
first_call ts at Fun.Index (More b (More c (More i End))) m t d a h = awaits_from ts at (Expr.Call Fun.Index (More b (More c (More i End)))) _ _ First c a h refl (omega arith)
first_call ts at Fun.Index (More b (More c (More i (More j r)))) m t d a h = absurd m
first_call ts at Fun.Match End m t d a h = absurd m
first_call ts at Fun.Match (More b End) m t d a h = absurd m
first_call ts at Fun.Match (More b (More c r)) m t d a h = awaits_from ts at (Expr.Call Fun.Match (More b (More c r))) _ _ First b a h refl (omega arith)
first_call ts at Fun.VLookup End m t d a h = absurd m
first_call ts at Fun.VLookup (More b End) m t d a h = absurd m
first_call ts at Fun.VLookup (More b (More c End)) m t d a h = absurd m
first_call ts at Fun.VLookup (More b (More c (More i r))) m t d a h = awaits_from ts at (Expr.Call Fun.VLookup (More b (More c (More i r)))) _ _ First b a h refl (omega arith)
first_call ts at Fun.HLookup End m t d a h = absurd m
first_call ts at Fun.HLookup (More b End) m t d a h = absurd m
first_call ts at Fun.HLookup (More b (More c End)) m t d a h = absurd m
first_call ts at Fun.HLookup (More b (More c (More i r))) m t d a h = awaits_from ts at (Expr.Call Fun.HLookup (More b (More c (More i r)))) _ _ First b a h refl (omega arith)
first_call ts at Fun.Left End m t d a h = absurd m
first_call ts at Fun.Left (More b End) m t d a h = awaits_from ts at (Expr.Call Fun.Left (More b End)) _ _ First b a h refl (omega arith)
first_call ts at Fun.Left (More b (More c End)) m t d a h = awaits_from ts at (Expr.Call Fun.Left (More b (More c End))) _ _ First b a h refl (omega arith)
first_call ts at Fun.Left (More b (More c (More i r))) m t d a h = absurd m
first_call ts at Fun.Right End m t d a h = absurd m
first_call ts at Fun.Right (More b End) m t d a h = awaits_from ts at (Expr.Call Fun.Right (More b End)) _ _ First b a h refl (omega arith)
first_call ts at Fun.Right (More b (More c End)) m t d a h = awaits_from ts at (Expr.Call Fun.Right (More b (More c End))) _ _ First b a h refl (omega arith)
first_call ts at Fun.Right (More b (More c (More i r))) m t d a h = absurd m
first_call ts at Fun.Mid End m t d a h = absurd m
first_call ts at Fun.Mid (More b End) m t d a h = absurd m
first_call ts at Fun.Mid (More b (More c End)) m t d a h = absurd m
first_call ts at Fun.Mid (More b (More c (More i End))) m t d a h = awaits_from ts at (Expr.Call Fun.Mid (More b (More c (More i End)))) _ _ First b a h (by_start b c i) (omega arith)
  where
    by_start : (b c i : Expr) → plan ts at (Expr.Call Fun.Mid (More b (More c (More i End)))) ≡ and_then (plan ts at b) (λ v. frame_plan ts at (Expr.Call Fun.Mid (More b (More c (More i End)))) First v)
    by_start b c i = (λ j. and_then (plan ts at b) (λ v. unless_error v (λ x. and_then (plan ts at c) (λ w. unless_error w (λ y. and_then (plan ts at i) (λ u. unless_error u (λ z. Give (sym (start_counts ts x y z) j))))))))
first_call ts at Fun.Mid (More b (More c (More i (More j r)))) m t d a h = absurd m
first_call ts at Fun.Len End m t d a h = absurd m
first_call ts at Fun.Len (More b End) m t d a h = awaits_from ts at (Expr.Call Fun.Len (More b End)) _ _ First b a h refl (omega arith)
first_call ts at Fun.Len (More b (More c r)) m t d a h = absurd m

-- without a first argument the call is none
first_none : (ts : Texts) (at : Addr) (f : Fun) (args : Exprs) → IsCall f args → None ≡ turn_of f → None ≡ fold_of f → nth (first_number f) args ≡ None → plan ts at (Expr.Call f args) ≡ fails Code.Value
first_none ts at Fun.And args m t d h = absurd (cc)
first_none ts at Fun.Or args m t d h = absurd (cc)
first_none ts at Fun.Sum args m t d h = absurd (cc)
first_none ts at Fun.Min args m t d h = absurd (cc)
first_none ts at Fun.Max args m t d h = absurd (cc)
first_none ts at Fun.Count args m t d h = absurd (cc)
first_none ts at Fun.Index End m t d h = absurd m
first_none ts at Fun.Index (More b End) m t d h = absurd m
first_none ts at Fun.Index (More b (More c r)) m t d h = absurd (cc)
first_none ts at f End m t d h = absurd (empty f m t d)
  where
    empty : (f : Fun) → IsCall f End → None ≡ turn_of f → None ≡ fold_of f → ⊥
    empty Fun.And m t d = cc
    empty Fun.Or m t d = cc
    empty Fun.Sum m t d = cc
    empty Fun.Min m t d = cc
    empty Fun.Max m t d = cc
    empty Fun.Count m t d = cc
    empty f m t d = m
first_none ts at f (More b r) m t d h = absurd (cc)

pub start_first : (p : Trees) (ts : Texts) (at : Addr) (id : ExprId) (f : Fun) (fs : List Frame) (step : Step) (fs' : List Frame) → root_of (tree_at p id) ≡ Node.Call f → IsCovered (tree_at p id) → None ≡ turn_of f → None ≡ fold_of f → Waits p id First (child_of (first_number f) (tree_at p id)) fs step fs' → Starts p ts at id fs step fs'
start_first p ts at id f fs step fs' r m t d w = waited p ts at id (plan ts at (tree_at p id)) (cost at (tree_at p id)) First fs (first_number f) step fs' (child_of (first_number f) (tree_at p id)) refl (some (tree_at p id) r) (λ t. tt) (awaits (tree_at p id) r m) (there (tree_at p id) r m) w
  where
    some : (e : Expr) → root_of e ≡ Node.Call f → 0 < cost at e
    some (Expr.Call g args) r = omega arith
    some e r = absurd (cc)

    awaits : (e : Expr) → root_of e ≡ Node.Call f → IsCovered e → (a : Expr) → child_of (first_number f) e ≡ Some a → Awaits ts at e (plan ts at e) (cost at e) First a
    awaits (Expr.Call g args) r c a h = (let same : g ≡ f = cc in first_call ts at g args c.0 (t ∙ ap turn_of (sym same)) (d ∙ ap fold_of (sym same)) a (ap (λ z. nth (first_number z) args) same ∙ h))
    awaits e r c a h = absurd (cc)

    there : (e : Expr) → root_of e ≡ Node.Call f → IsCovered e → child_of (first_number f) e ≡ None → plan ts at e ≡ fails Code.Value
    there (Expr.Call g args) r c h = (let same : g ≡ f = cc in first_none ts at g args c.0 (t ∙ ap turn_of (sym same)) (d ∙ ap fold_of (sym same)) (ap (λ z. nth (first_number z) args) same ∙ h))
    there e r c h = absurd (cc)

-- The second value of a call

default_value : (ts : Texts) (f : Fun) → IsValueOf ts (second_default f)
default_value ts Fun.Left = tt
default_value ts f = tt

mid_less : (at : Addr) (args : Exprs) → 2 + costs_from at 2 args < 3 + costs_but at 0 args
mid_less at End = omega arith
mid_less at (More b End) = omega arith
mid_less at (More b (More c r)) = omega (arith, costs_first at r)

index_less : (at : Addr) (args : Exprs) → 2 + 2 * span (place_named at (nth 0 args)) < 3 + costs_but at 1 args
index_less at End = omega arith
index_less at (More b r) = omega arith

other_less : (at : Addr) (args : Exprs) → 2 + 2 * span (place_named at (nth 1 args)) < 3 + costs_but at 0 args
other_less at End = omega arith
other_less at (More b End) = omega arith
other_less at (More b (More c r)) = omega arith

second_less : (at : Addr) (f : Fun) (args : Exprs) → second_left at f args < 3 + costs_but at (first_number f) args
second_less at Fun.Mid args = mid_less at args
second_less at Fun.Index args = index_less at args
second_less at f args = other_less at args

third_falls : (at : Addr) (args : Exprs) (a : Expr) → nth 2 args ≡ Some a → cost at a + (2 + 2 * span (place_named at (nth 1 args))) < 3 + costs_but at 0 args
third_falls at End a h = cc
third_falls at (More b End) a h = cc
third_falls at (More b (More c End)) a h = cc
third_falls at (More b (More c (More i r))) a h = (let same : i ≡ a = cc in subst (λ z. cost at z + (2 + 2 * span (place_named at (nth 1 (More b (More c (More i r)))))) < 3 + costs_but at 0 (More b (More c (More i r)))) same (omega arith))

other_falls : (at : Addr) (args : Exprs) (a : Expr) → nth 1 args ≡ Some a → cost at a + (2 + 2 * span (place_named at (nth 1 args))) < 3 + costs_but at 0 args
other_falls at End a h = cc
other_falls at (More b End) a h = cc
other_falls at (More b (More c r)) a h = (let same : c ≡ a = cc in subst (λ z. cost at z + (2 + 2 * span (place_named at (nth 1 (More b (More c r))))) < 3 + costs_but at 0 (More b (More c r))) same (omega arith))

index_falls : (at : Addr) (args : Exprs) (a : Expr) → nth 2 args ≡ Some a → cost at a + (2 + 2 * span (place_named at (nth 0 args))) < 3 + costs_but at 1 args
index_falls at End a h = cc
index_falls at (More b End) a h = cc
index_falls at (More b (More c End)) a h = cc
index_falls at (More b (More c (More i r))) a h = (let same : i ≡ a = cc in subst (λ z. cost at z + (2 + 2 * span (place_named at (nth 0 (More b (More c (More i r)))))) < 3 + costs_but at 1 (More b (More c (More i r)))) same (omega arith))

mid_falls : (at : Addr) (args : Exprs) (a : Expr) → nth 1 args ≡ Some a → cost at a + (2 + costs_from at 2 args) < 3 + costs_but at 0 args
mid_falls at End a h = cc
mid_falls at (More b End) a h = cc
mid_falls at (More b (More c r)) a h = (let same : c ≡ a = cc in subst (λ z. cost at z + (2 + costs_from at 2 (More b (More c r))) < 3 + costs_but at 0 (More b (More c r))) same (omega (arith, costs_first at r)))

second_falls : (at : Addr) (f : Fun) (args : Exprs) (a : Expr) → nth (second_number f) args ≡ Some a → cost at a + second_left at f args < 3 + costs_but at (first_number f) args
second_falls at Fun.Mod args a h = other_falls at args a h
second_falls at Fun.Quotient args a h = other_falls at args a h
second_falls at Fun.Left args a h = other_falls at args a h
second_falls at Fun.Right args a h = other_falls at args a h
second_falls at Fun.Mid args a h = mid_falls at args a h
second_falls at Fun.Index args a h = index_falls at args a h
second_falls at f args a h = third_falls at args a h

pub go_first : (p : Trees) (ts : Texts) (at : Addr) (id : ExprId) (f : Fun) (v : Value) (fs : List Frame) (step : Step) (fs' : List Frame) → root_of (tree_at p id) ≡ Node.Call f → ((args : Exprs) → call_first ts at f args v ≡ first_of_two ts at f args v) → is_error v ≡ false → IsValueOf ts v → WaitsOr p id (Second v) (second_default f) (child_of (second_number f) (tree_at p id)) fs step fs' → GoesOn p ts at id First v fs step fs'
go_first p ts at id f v fs step fs' r two n m w = waited_or p ts at id (frame_plan ts at (tree_at p id) First v) (frame_left at (tree_at p id) First) (Second v) fs (second_number f) (second_default f) step fs' (child_of (second_number f) (tree_at p id)) refl (λ t. operand_from ts v n m) (default_value ts f) (goes (tree_at p id) r) (falls (tree_at p id) r) (less (tree_at p id) r) w
  where
    is : (args : Exprs) → call_first ts at f args v ≡ and_then (plan_or (Give (second_default f)) ts at (nth (second_number f) args)) (λ u. call_second ts at f args v u)
    is args = two args ∙ no_error v (λ u. and_then (plan_or (Give (second_default f)) ts at (nth (second_number f) args)) (call_second ts at f args u)) n

    goes : (e : Expr) → root_of e ≡ Node.Call f → frame_plan ts at e First v ≡ and_then (plan_or (Give (second_default f)) ts at (child_of (second_number f) e)) (λ u. frame_plan ts at e (Second v) u)
    goes (Expr.Call g args) r = (let same : g ≡ f = cc in subst (λ z. frame_plan ts at (Expr.Call z args) First v ≡ and_then (plan_or (Give (second_default f)) ts at (nth (second_number f) args)) (λ u. frame_plan ts at (Expr.Call z args) (Second v) u)) (sym same) (is args))
    goes e r = absurd (cc)

    falls : (e : Expr) → root_of e ≡ Node.Call f → (a : Expr) → child_of (second_number f) e ≡ Some a → cost at a + frame_left at e (Second v) < frame_left at e First
    falls (Expr.Call g args) r a h = (let same : g ≡ f = cc in subst (λ z. cost at a + frame_left at (Expr.Call z args) (Second v) < frame_left at (Expr.Call z args) First) (sym same) (second_falls at f args a h))
    falls e r a h = absurd (cc)

    less : (e : Expr) → root_of e ≡ Node.Call f → frame_left at e (Second v) < frame_left at e First
    less (Expr.Call g args) r = second_less at g args
    less e r = absurd (cc)

-- MID with its start
pub go_start : (p : Trees) (ts : Texts) (at : Addr) (id : ExprId) (x v : Value) (fs : List Frame) (step : Step) (fs' : List Frame) → root_of (tree_at p id) ≡ Node.Call Fun.Mid → is_error v ≡ false → IsOperand ts x → WaitsOr p id (Third x (start_number (as_number v))) (Value.Error Code.Value) (child_of 2 (tree_at p id)) fs step fs' → GoesOn p ts at id (Second x) v fs step fs'
go_start p ts at id x v fs step fs' r n m w = waited_or p ts at id (frame_plan ts at (tree_at p id) (Second x) v) (frame_left at (tree_at p id) (Second x)) (Third x (start_number (as_number v))) fs 2 (Value.Error Code.Value) step fs' (child_of 2 (tree_at p id)) refl (λ t. m) tt (goes (tree_at p id) r) (falls (tree_at p id) r) (less (tree_at p id) r) w
  where
    goes : (e : Expr) → root_of e ≡ Node.Call Fun.Mid → frame_plan ts at e (Second x) v ≡ and_then (plan_or (fails Code.Value) ts at (child_of 2 e)) (λ u. frame_plan ts at e (Third x (start_number (as_number v))) u)
    goes (Expr.Call Fun.Mid args) r = no_error v (λ y. and_then (plan_or (fails Code.Value) ts at (nth 2 args)) (call_third ts Fun.Mid x (start_number (as_number y)))) n
    goes e r = absurd (cc)

    third : (args : Exprs) (a : Expr) → nth 2 args ≡ Some a → cost at a + 1 < 2 + costs_from at 2 args
    third End a h = cc
    third (More b End) a h = cc
    third (More b (More c End)) a h = cc
    third (More b (More c (More i r))) a h = (let same : i ≡ a = cc in subst (λ z. cost at z + 1 < 2 + costs_from at 2 (More b (More c (More i r)))) same (omega arith))

    falls : (e : Expr) → root_of e ≡ Node.Call Fun.Mid → (a : Expr) → child_of 2 e ≡ Some a → cost at a + frame_left at e (Third x (start_number (as_number v))) < frame_left at e (Second x)
    falls (Expr.Call Fun.Mid args) r a h = third args a h
    falls e r a h = absurd (cc)

    less : (e : Expr) → root_of e ≡ Node.Call Fun.Mid → frame_left at e (Third x (start_number (as_number v))) < frame_left at e (Second x)
    less (Expr.Call Fun.Mid args) r = omega arith
    less e r = absurd (cc)

-- A call goes on with a plan of its own

pub goes_with : (p : Trees) (ts : Texts) (at : Addr) (id : ExprId) (f : Fun) (w : Work) (v : Value) (q : Exprs → Plan) → root_of (tree_at p id) ≡ Node.Call f → ((args : Exprs) → frame_plan ts at (Expr.Call f args) w v ≡ q args) → frame_plan ts at (tree_at p id) w v ≡ q (arguments_of (tree_at p id))
goes_with p ts at id f w v q r h = go (tree_at p id) r
  where
    go : (e : Expr) → root_of e ≡ Node.Call f → frame_plan ts at e w v ≡ q (arguments_of e)
    go (Expr.Call g args) r = (let same : g ≡ f = cc in ap (λ z. frame_plan ts at (Expr.Call z args) w v) same ∙ h args)
    go e r = absurd (cc)

pub left_with : (at : Addr) (e : Expr) (f : Fun) (w : Work) → root_of e ≡ Node.Call f → frame_left at e w ≡ call_left at f (arguments_of e) w
left_with at (Expr.Call g args) f w r = (let same : g ≡ f = cc in ap (λ z. call_left at z args w) same)
left_with at e f w r = absurd (cc)

pub child_with : (e : Expr) (f : Fun) (k : ℕ) → root_of e ≡ Node.Call f → child_of k e ≡ nth k (arguments_of e)
child_with (Expr.Call g args) f k r = refl
child_with e f k r = absurd (cc)

-- every kind of work leaves something
pub some_left : (at : Addr) (e : Expr) (f : Fun) (w : Work) → root_of e ≡ Node.Call f → 0 < frame_left at e w
some_left at (Expr.Call g args) f w r = go w
  where
    second : (f : Fun) → 0 < second_left at f args
    second Fun.Mid = omega arith
    second f = omega arith

    go : (w : Work) → 0 < call_left at g args w
    go First = omega arith
    go (Second x) = second g
    go (Third x k) = omega arith
    go (Turn k) = omega arith
    go (Argument k t) = omega arith
    go (Cell k n t) = omega arith
    go (Search n k) = omega arith
    go (Lookup m n k) = omega arith
some_left at e f w r = absurd (cc)

-- it gives a value
pub call_gives : (p : Trees) (ts : Texts) (at : Addr) (id : ExprId) (f : Fun) (w : Work) (v u : Value) (fs : List Frame) → root_of (tree_at p id) ≡ Node.Call f → ((args : Exprs) → frame_plan ts at (Expr.Call f args) w v ≡ Give u) → IsValueOf ts u → GoesOn p ts at id w v fs (Step.Give u) fs
call_gives p ts at id f w v u fs r h m = gives p ts at (tree_at p id) (frame_plan ts at (tree_at p id) w v) (frame_left at (tree_at p id) w) fs u (goes_with p ts at id f w v (λ args. Give u) r h) (some_left at (tree_at p id) f w r) (λ t. m)

-- it gives what a function gives at the value
pub function_gives : (p : Trees) (ts : Texts) (at : Addr) (id : ExprId) (f : Fun) (w : Work) (v : Value) (g : Value → Value) (u : Value) (fs : List Frame) → root_of (tree_at p id) ≡ Node.Call f → ((args : Exprs) → frame_plan ts at (Expr.Call f args) w v ≡ unless_error v (λ y. Give (g y))) → u ≡ error_or g v → IsValueOf ts u → GoesOn p ts at id w v fs (Step.Give u) fs
function_gives p ts at id f w v g u fs r h e m = call_gives p ts at id f w v u fs r (λ args. h args ∙ error_or_is g v ∙ ap Give (sym e)) m

pub third_fails : (p : Trees) (ts : Texts) (at : Addr) (id : ExprId) (f : Fun) (x : Value) (k : ℤ) (v : Value) (fs : List Frame) → root_of (tree_at p id) ≡ Node.Call f → (f ≡ Fun.Mid → ⊥) → GoesOn p ts at id (Third x k) v fs (Step.Give (Value.Error Code.Value)) fs
third_fails p ts at id f x k v fs r n = call_gives p ts at id f (Third x k) v (Value.Error Code.Value) fs r (λ args. is f n) tt
  where
    is : (f : Fun) → (f ≡ Fun.Mid → ⊥) → call_third ts f x k v ≡ fails Code.Value
    is Fun.Mid n = absurd (n refl)
    is f n = refl

-- an argument stands in its place
but_falls : (at : Addr) (k : ℕ) (args : Exprs) (a : Expr) → nth (k + 1) args ≡ Some a → cost at a < 3 + costs_but at 0 args
but_falls at k End a h = cc
but_falls at k (More b r) a h = go k r (subst (λ z. nth z (More b r) ≡ Some a) (sym plus) h)
  where
    plus : suc k ≡ k + 1
    plus = omega arith

    go : (k : ℕ) (r : Exprs) → nth k r ≡ Some a → cost at a < 3 + costs at r
    go k End h = cc
    go zero (More c s) h = (let same : c ≡ a = cc in subst (λ z. cost at z < 3 + costs at (More c s)) same (omega arith))
    go (suc k) (More c s) h = omega (arith, go k s h)

pub call_instead : (p : Trees) (ts : Texts) (at : Addr) (id : ExprId) (f : Fun) (v u : Value) (k : ℕ) (fs : List Frame) (s : Step) → root_of (tree_at p id) ≡ Node.Call f → first_number f ≡ 0 → ((args : Exprs) → frame_plan ts at (Expr.Call f args) First v ≡ plan_or (Give u) ts at (nth (k + 1) args)) → IsValueOf ts u → Instead p (child_of (k + 1) (tree_at p id)) u s → GoesOn p ts at id First v fs s fs
call_instead p ts at id f v u k fs s r z h m i = instead p ts at (tree_at p id) (frame_plan ts at (tree_at p id) First v) (frame_left at (tree_at p id) First) fs (k + 1) u s (child_of (k + 1) (tree_at p id)) refl
    (goes_with p ts at id f First v (λ args. plan_or (Give u) ts at (nth (k + 1) args)) r h ∙ ap (plan_or (Give u) ts at) (sym (child_with (tree_at p id) f (k + 1) r)))
    (some_left at (tree_at p id) f First r)
    (λ a e. subst (λ y. cost at a < y) (sym (left_with at (tree_at p id) f First r ∙ ap (λ y. 3 + costs_but at y (arguments_of (tree_at p id))) z)) (but_falls at k (arguments_of (tree_at p id)) a (sym (child_with (tree_at p id) f (k + 1) r) ∙ e)))
    (λ t. m)
    i

-- an error ends a call that takes none
pub call_ends : (p : Trees) (ts : Texts) (at : Addr) (id : ExprId) (f : Fun) (w : Work) (v : Value) (g : Exprs → Value → Plan) (fs : List Frame) → root_of (tree_at p id) ≡ Node.Call f → ((args : Exprs) → frame_plan ts at (Expr.Call f args) w v ≡ unless_error v (g args)) → is_error v ≡ true → GoesOn p ts at id w v fs (Step.Give v) fs
call_ends p ts at id f w v g fs r h e = call_gives p ts at id f w v v fs r (λ args. h args ∙ error_is v (g args) e) (error_value ts v e)
