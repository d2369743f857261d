-- AND, OR and the folds over their arguments; folds and searches over cells.
use mathlib.Core.Bool.{beq}
use Rattle.std.proofs.Common.{◌≡◌, ℕ, zero, suc, ◌+◌, ◌-◌, ◌*◌, ◌<◌, ◌≤◌, Bool, true, false, Option, Some, None, Ok, Err, List, [], ◌∷◌, length, drop, refl, sym, ap, ◌∙◌, subst, arith}
use Rattle.cell_values.specs.declared.address.Addr.{Addr}
use Rattle.cell_values.specs.declared.address.Area.{Area}
use Rattle.cell_values.specs.declared.values.Code.{Code}
use Rattle.cell_values.specs.declared.values.Value.{Value}
use Rattle.cell_values.specs.Areas.{walk}
use Rattle.cell_values.specs.Texts.{Texts}
use Rattle.formula_trees.specs.declared.tree.Fun.{Fun}
use Rattle.formula_trees.specs.Expr.{Expr, Exprs, End, More}
use Rattle.formula_trees.specs.declared.place.Place.{Place}
use Rattle.formula_trees.specs.declared.place.Place.TheVariants.{Nowhere, Bad, Cells}
use Rattle.formula_trees.specs.Mentions.{cells_of, place_of}
use Rattle.builtin_functions.specs.declared.folds.FoldKind.{FoldKind}
use Rattle.builtin_functions.specs.Tables.{condition}
use Rattle.builtin_functions.specs.Folds.{Total, so_far, taken}
use Rattle.demand_spec.specs.Plan.{Plan, Give, Demand, and_then}
use Rattle.demand_spec.specs.Formula.{or_fail, and_plan, or_plan, go_on, fold_cells, fold_argument, fold_plan, plan, arguments}
use Rattle.shared_expressions.specs.declared.nodes.ExprId.{ExprId}
use Rattle.shared_expressions.specs.declared.nodes.Node.{Node}
use Rattle.shared_expressions.specs.Trees.{Trees, tree_at, root_of, nth, child_of}
use Rattle.formula_eval.specs.declared.work.Work.{Work}
use Rattle.formula_eval.specs.declared.work.Work.TheVariants.{Turn, Argument, Cell}
use Rattle.formula_eval.specs.declared.work.Frame.{Frame}
use Rattle.formula_eval.specs.declared.work.Frame.TheVariants.{At}
use Rattle.formula_eval.specs.declared.work.Step.{Step}
use Rattle.formula_eval.specs.Machine.{cells_named, turn_of, fold_of, fun_of, turn_plan, turn_on, turn_frame, fold_from, fold_at, argument_frame, cell_frame, frame_plan, span, cost, costs_from, call_left, frame_left, Holds, Starts, GoesOn, arguments_of, TurnGoesOn, FoldGoesOn, CellsGoOn}
use Rattle.formula_eval.proofs.Parts.{plus_one, arguments_more, arguments_end, costs_more, costs_first, depth_over, depth_above, few_children}
use Rattle.formula_eval.proofs.Moves.{gives, ends, Awaits, AwaitsCell, waits, waits_cell, goes_less}

child_turn : (e : Expr) (q : Bool) (k : ℕ) → turn_of (fun_of e) ≡ Some q → child_of k e ≡ nth k (arguments_of e)
child_turn (Expr.Call g args) q k r = refl
child_turn e q k r = absurd (cc)

child_fold : (e : Expr) (q : FoldKind) (k : ℕ) → fold_of (fun_of e) ≡ Some q → child_of k e ≡ nth k (arguments_of e)
child_fold (Expr.Call g args) q k r = refl
child_fold e q k r = absurd (cc)

-- AND and OR

turn_end : (q : Bool) (ts : Texts) (at : Addr) (k : ℕ) (args : Exprs) → nth k args ≡ None → turn_plan q ts at k args ≡ Give (Value.Bool q)
turn_end true ts at k args h = ap and_plan (arguments_end ts at k args h)
turn_end false ts at k args h = ap or_plan (arguments_end ts at k args h)

turn_more : (q : Bool) (ts : Texts) (at : Addr) (k : ℕ) (args : Exprs) (a : Expr) → nth k args ≡ Some a → turn_plan q ts at k args ≡ and_then (plan ts at a) (λ v. or_fail (condition v) (λ b. turn_on q b (turn_plan q ts at (k + 1) args)))
turn_more true ts at k args a h = ap and_plan (arguments_more ts at k args a h)
turn_more false ts at k args a h = ap or_plan (arguments_more ts at k args a h)

pub turn_done : (p : Trees) (ts : Texts) (at : Addr) (id : ExprId) (q : Bool) (k : ℕ) (fs : List Frame) → turn_of (fun_of (tree_at p id)) ≡ Some q → None ≡ child_of k (tree_at p id) → TurnGoesOn p ts at id q k fs (Step.Give (Value.Bool q)) fs
turn_done p ts at id q k fs r h = gives p ts at (tree_at p id) (turn_plan q ts at k (arguments_of (tree_at p id))) (1 + costs_from at k (arguments_of (tree_at p id))) fs (Value.Bool q) (turn_end q ts at k (arguments_of (tree_at p id)) (sym (h ∙ child_turn (tree_at p id) q k r))) (omega arith) (λ t. tt)

pub turn_argument : (p : Trees) (ts : Texts) (at : Addr) (id : ExprId) (q : Bool) (k : ℕ) (fs : List Frame) (c : ExprId) (fs' : List Frame) → turn_of (fun_of (tree_at p id)) ≡ Some q → Some (tree_at p c) ≡ child_of k (tree_at p id) → fs' ≡ At id (Turn (k + 1)) ∷ fs → TurnGoesOn p ts at id q k fs (Step.Eval c) fs'
turn_argument p ts at id q k fs c fs' r h e = waits p ts at id (turn_plan q ts at k (arguments_of (tree_at p id))) (1 + costs_from at k (arguments_of (tree_at p id))) (Turn (k + 1)) fs c k fs' e (sym h) (λ t. tt) (awaits (tree_at p id) r (sym h))
  where
    awaits : (e : Expr) → turn_of (fun_of e) ≡ Some q → child_of k e ≡ Some (tree_at p c) → Awaits ts at e (turn_plan q ts at k (arguments_of e)) (1 + costs_from at k (arguments_of e)) (Turn (k + 1)) (tree_at p c)
    awaits (Expr.Call f args) r h = record {
      goes_on = turn_more q ts at k args (tree_at p c) h ∙ (λ i. and_then (plan ts at (tree_at p c)) (λ v. turn_frame ts at (sym r i) (k + 1) args v));
      falls = omega (arith, costs_more at k args (tree_at p c) h);
    }
    awaits e r h = absurd (cc)

pub start_turn : (p : Trees) (ts : Texts) (at : Addr) (id : ExprId) (q : Bool) (fs : List Frame) (s : Step) (fs' : List Frame) → turn_of (fun_of (tree_at p id)) ≡ Some q → TurnGoesOn p ts at id q 0 fs s fs' → Starts p ts at id fs s fs'
start_turn p ts at id q fs s fs' r g = goes_less p ts at (tree_at p id) (turn_plan q ts at 0 (arguments_of (tree_at p id))) (plan ts at (tree_at p id)) (1 + costs_from at 0 (arguments_of (tree_at p id))) (cost at (tree_at p id)) fs s fs' (same (tree_at p id) r) (less (tree_at p id) r) g
  where
    by_fun : (f : Fun) (args : Exprs) (q : Bool) → turn_of f ≡ Some q → plan ts at (Expr.Call f args) ≡ turn_plan q ts at 0 args
    by_fun Fun.And args true r = refl
    by_fun Fun.And args false r = absurd (cc)
    by_fun Fun.Or args false r = refl
    by_fun Fun.Or args true r = absurd (cc)
    by_fun f args q r = absurd (cc)

    same : (e : Expr) → turn_of (fun_of e) ≡ Some q → plan ts at e ≡ turn_plan q ts at 0 (arguments_of e)
    same (Expr.Call f args) r = by_fun f args q r
    same e r = absurd (cc)

    less : (e : Expr) → turn_of (fun_of e) ≡ Some q → 1 + costs_from at 0 (arguments_of e) ≤ cost at e
    less (Expr.Call f args) r = omega (arith, costs_first at args)
    less e r = absurd (cc)

turn_frame_is : (ts : Texts) (at : Addr) (e : Expr) (q : Bool) (k : ℕ) (v : Value) → turn_of (fun_of e) ≡ Some q → frame_plan ts at e (Turn k) v ≡ or_fail (condition v) (λ b. turn_on q b (turn_plan q ts at k (arguments_of e)))
turn_frame_is ts at (Expr.Call f args) q k v r = ap (λ z. turn_frame ts at z k args v) r
turn_frame_is ts at e q k v r = absurd (cc)

turn_left : (at : Addr) (e : Expr) (q : Bool) (k : ℕ) → turn_of (fun_of e) ≡ Some q → frame_left at e (Turn k) ≡ 1 + costs_from at k (arguments_of e)
turn_left at (Expr.Call f args) q k r = refl
turn_left at e q k r = absurd (cc)

pub turn_fails : (p : Trees) (ts : Texts) (at : Addr) (id : ExprId) (q : Bool) (k : ℕ) (v : Value) (c : Code) (fs : List Frame) → turn_of (fun_of (tree_at p id)) ≡ Some q → Err c ≡ condition v → GoesOn p ts at id (Turn k) v fs (Step.Give (Value.Error c)) fs
turn_fails p ts at id q k v c fs r h = ends p ts at (tree_at p id) (frame_plan ts at (tree_at p id) (Turn k) v) (frame_left at (tree_at p id) (Turn k)) fs c (turn_frame_is ts at (tree_at p id) q k v r ∙ ap (λ z. or_fail z (λ b. turn_on q b (turn_plan q ts at k (arguments_of (tree_at p id))))) (sym h)) (omega (arith, turn_left at (tree_at p id) q k r))

pub turn_goes : (p : Trees) (ts : Texts) (at : Addr) (id : ExprId) (q : Bool) (k : ℕ) (v : Value) (fs : List Frame) (s : Step) (fs' : List Frame) → turn_of (fun_of (tree_at p id)) ≡ Some q → Ok q ≡ condition v → TurnGoesOn p ts at id q k fs s fs' → GoesOn p ts at id (Turn k) v fs s fs'
turn_goes p ts at id q k v fs s fs' r h g = goes_less p ts at (tree_at p id) (turn_plan q ts at k (arguments_of (tree_at p id))) (frame_plan ts at (tree_at p id) (Turn k) v) (1 + costs_from at k (arguments_of (tree_at p id))) (frame_left at (tree_at p id) (Turn k)) fs s fs' (turn_frame_is ts at (tree_at p id) q k v r ∙ ap (λ z. or_fail z (λ b. turn_on q b (turn_plan q ts at k (arguments_of (tree_at p id))))) (sym h) ∙ on q (turn_plan q ts at k (arguments_of (tree_at p id)))) (omega (arith, turn_left at (tree_at p id) q k r)) g
  where
    on : (q : Bool) (p : Plan) → turn_on q q p ≡ p
    on true p = refl
    on false p = refl

pub turn_stops : (p : Trees) (ts : Texts) (at : Addr) (id : ExprId) (q b : Bool) (k : ℕ) (v : Value) (fs : List Frame) → turn_of (fun_of (tree_at p id)) ≡ Some q → Ok b ≡ condition v → (b ≡ q → ⊥) → GoesOn p ts at id (Turn k) v fs (Step.Give (Value.Bool b)) fs
turn_stops p ts at id q b k v fs r h n = gives p ts at (tree_at p id) (frame_plan ts at (tree_at p id) (Turn k) v) (frame_left at (tree_at p id) (Turn k)) fs (Value.Bool b) (turn_frame_is ts at (tree_at p id) q k v r ∙ ap (λ z. or_fail z (λ b. turn_on q b (turn_plan q ts at k (arguments_of (tree_at p id))))) (sym h) ∙ off q b (turn_plan q ts at k (arguments_of (tree_at p id))) n) (omega (arith, turn_left at (tree_at p id) q k r)) (λ t. tt)
  where
    off : (q b : Bool) (p : Plan) → (b ≡ q → ⊥) → turn_on q b p ≡ Give (Value.Bool b)
    off true true p n = absurd (n refl)
    off true false p n = refl
    off false true p n = refl
    off false false p n = absurd (n refl)

-- Folds

pub fold_end : (p : Trees) (ts : Texts) (at : Addr) (id : ExprId) (q : FoldKind) (k : ℕ) (t : Total) (fs : List Frame) → fold_of (fun_of (tree_at p id)) ≡ Some q → None ≡ child_of k (tree_at p id) → FoldGoesOn p ts at id q k t fs (Step.Give (Value.Number (so_far t))) fs
fold_end p ts at id q k t fs r h = gives p ts at (tree_at p id) (fold_from ts at q k t (arguments_of (tree_at p id))) (1 + costs_from at k (arguments_of (tree_at p id))) fs (Value.Number (so_far t)) (ap (fold_plan q t) (arguments_end ts at k (arguments_of (tree_at p id)) (sym (h ∙ child_fold (tree_at p id) q k r)))) (omega arith) (λ m. tt)

-- a fold at an argument: by where it stands
fold_by : (ts : Texts) (at : Addr) (q : FoldKind) (k : ℕ) (t : Total) (args : Exprs) (a : Expr) (l : Place) → nth k args ≡ Some a → place_of at a ≡ l → fold_from ts at q k t args ≡ fold_argument q t l (plan ts at a) (λ u. fold_from ts at q (k + 1) u args)
fold_by ts at q k t args a l h e = ap (fold_plan q t) (arguments_more ts at k args a h) ∙ ap (λ z. fold_argument q t z (plan ts at a) (λ u. fold_from ts at q (k + 1) u args)) e

pub fold_bad : (p : Trees) (ts : Texts) (at : Addr) (id : ExprId) (q : FoldKind) (k : ℕ) (t : Total) (fs : List Frame) (c : ExprId) → fold_of (fun_of (tree_at p id)) ≡ Some q → Some (tree_at p c) ≡ child_of k (tree_at p id) → Bad ≡ place_of at (tree_at p c) → FoldGoesOn p ts at id q k t fs (Step.Give (Value.Error Code.Ref)) fs
fold_bad p ts at id q k t fs c r h b = ends p ts at (tree_at p id) (fold_from ts at q k t (arguments_of (tree_at p id))) (1 + costs_from at k (arguments_of (tree_at p id))) fs Code.Ref (fold_by ts at q k t (arguments_of (tree_at p id)) (tree_at p c) Bad (sym (h ∙ child_fold (tree_at p id) q k r)) (sym b)) (omega arith)

pub fold_argument_on : (p : Trees) (ts : Texts) (at : Addr) (id : ExprId) (q : FoldKind) (k : ℕ) (t : Total) (fs : List Frame) (c : ExprId) (fs' : List Frame) → fold_of (fun_of (tree_at p id)) ≡ Some q → Some (tree_at p c) ≡ child_of k (tree_at p id) → Nowhere ≡ place_of at (tree_at p c) → fs' ≡ At id (Argument (k + 1) t) ∷ fs → FoldGoesOn p ts at id q k t fs (Step.Eval c) fs'
fold_argument_on p ts at id q k t fs c fs' r h n e = waits p ts at id (fold_from ts at q k t (arguments_of (tree_at p id))) (1 + costs_from at k (arguments_of (tree_at p id))) (Argument (k + 1) t) fs c k fs' e (sym h) (λ m. tt) (awaits (tree_at p id) r (sym h))
  where
    awaits : (e : Expr) → fold_of (fun_of e) ≡ Some q → child_of k e ≡ Some (tree_at p c) → Awaits ts at e (fold_from ts at q k t (arguments_of e)) (1 + costs_from at k (arguments_of e)) (Argument (k + 1) t) (tree_at p c)
    awaits (Expr.Call f args) r h = record {
      goes_on = fold_by ts at q k t args (tree_at p c) Nowhere h (sym n) ∙ (λ i. and_then (plan ts at (tree_at p c)) (λ v. argument_frame ts at (sym r i) (k + 1) t args v));
      falls = omega (arith, costs_more at k args (tree_at p c) h);
    }
    awaits e r h = absurd (cc)

pub drop_some : (n : ℕ) (cs : List Addr) (a : Addr) (rest : List Addr) → drop n cs ≡ a ∷ rest → n < length cs
drop_some n [] a rest h = absurd (nothing n h)
  where
    nothing : (n : ℕ) → drop n [] ≡ a ∷ rest → ⊥
    nothing zero h = cc
    nothing (suc n) h = cc
drop_some zero (c ∷ cs) a rest h = omega arith
drop_some (suc n) (c ∷ cs) a rest h = omega (arith, drop_some n cs a rest h)

pub nothing : (n : ℕ) → drop {A = Addr} n [] ≡ []
nothing zero = refl
nothing (suc n) = refl

-- the cells of the argument that a child is
pub cells_are : (p : Trees) (at : Addr) (o : Option Expr) (c : ExprId) → Some (tree_at p c) ≡ o → cells_of (place_of at (tree_at p c)) ≡ cells_named at o
cells_are p at o c h = ap (cells_named at) h

pub few_cells : (l : Place) → length (cells_of l) ≤ span l
few_cells (Cells r) = omega arith
few_cells Bad = omega arith
few_cells Nowhere = omega arith

pub cells_next : (p : Trees) (ts : Texts) (at : Addr) (id : ExprId) (q : FoldKind) (k n : ℕ) (t : Total) (fs : List Frame) (c : ExprId) (cell : Addr) (fs' : List Frame) → fold_of (fun_of (tree_at p id)) ≡ Some q → Some (tree_at p c) ≡ child_of k (tree_at p id) → drop n (cells_of (place_of at (tree_at p c))) ≡ cell ∷ drop (n + 1) (cells_of (place_of at (tree_at p c))) → fs' ≡ At id (Cell k (n + 1) t) ∷ fs → CellsGoOn p ts at id q k n t fs (Step.Look cell) fs'
cells_next p ts at id q k n t fs c cell fs' r h d e = waits_cell p ts at id (fold_at ts at q k n t (arguments_of (tree_at p id))) (1 + (2 * (length (cells_named at (nth k (arguments_of (tree_at p id)))) - n) + costs_from at (k + 1) (arguments_of (tree_at p id)))) (Cell k (n + 1) t) fs cell fs' e (λ m. tt) (awaits (tree_at p id) r h)
  where
    awaits : (e : Expr) → fold_of (fun_of e) ≡ Some q → Some (tree_at p c) ≡ child_of k e → AwaitsCell ts at e (fold_at ts at q k n t (arguments_of e)) (1 + (2 * (length (cells_named at (nth k (arguments_of e))) - n) + costs_from at (k + 1) (arguments_of e))) (Cell k (n + 1) t) cell
    awaits (Expr.Call f args) r h =
        let there : drop n (cells_named at (nth k args)) ≡ cell ∷ drop (n + 1) (cells_named at (nth k args)) = subst (λ z. drop n z ≡ cell ∷ drop (n + 1) z) (cells_are p at (nth k args) c h) d in
        record {
          goes_on = ap (λ z. fold_cells q t z (λ w. fold_from ts at q (k + 1) w args)) there ∙ (λ i. Demand cell (λ v. cell_frame ts at (sym r i) k (n + 1) t args v));
          falls = omega (arith, drop_some n (cells_named at (nth k args)) cell (drop (n + 1) (cells_named at (nth k args))) there);
          deep = depth_over k (Expr.Call f args) (tree_at p c) (sym h);
        }
    awaits e r h = absurd (cc)

pub cells_done : (p : Trees) (ts : Texts) (at : Addr) (id : ExprId) (q : FoldKind) (k n : ℕ) (t : Total) (fs : List Frame) (c : ExprId) (s : Step) (fs' : List Frame) → fold_of (fun_of (tree_at p id)) ≡ Some q → Some (tree_at p c) ≡ child_of k (tree_at p id) → drop n (cells_of (place_of at (tree_at p c))) ≡ [] → FoldGoesOn p ts at id q (k + 1) t fs s fs' → CellsGoOn p ts at id q k n t fs s fs'
cells_done p ts at id q k n t fs c s fs' r h d g =
    let same : drop n (cells_named at (nth k (arguments_of (tree_at p id)))) ≡ [] = ap (drop n) (sym (cells_are p at (nth k (arguments_of (tree_at p id))) c (h ∙ child_fold (tree_at p id) q k r))) ∙ d in
    goes_less p ts at (tree_at p id) (fold_from ts at q (k + 1) t (arguments_of (tree_at p id))) (fold_at ts at q k n t (arguments_of (tree_at p id))) (1 + costs_from at (k + 1) (arguments_of (tree_at p id))) (1 + (2 * (length (cells_named at (nth k (arguments_of (tree_at p id)))) - n) + costs_from at (k + 1) (arguments_of (tree_at p id)))) fs s fs' (ap (λ z. fold_cells q t z (λ w. fold_from ts at q (k + 1) w (arguments_of (tree_at p id)))) same) (omega arith) g

nth_end : (k : ℕ) (args : Exprs) → nth k args ≡ None → nth (k + 1) args ≡ None
nth_end k args h = subst (λ z. nth z args ≡ None) (plus_one k) (go k args h)
  where
    go : (k : ℕ) (args : Exprs) → nth k args ≡ None → nth (suc k) args ≡ None
    go k End h = refl
    go zero (More a rest) h = cc
    go (suc k) (More a rest) h = go k rest h

pub cells_none : (p : Trees) (ts : Texts) (at : Addr) (id : ExprId) (q : FoldKind) (k n : ℕ) (t : Total) (fs : List Frame) → fold_of (fun_of (tree_at p id)) ≡ Some q → None ≡ child_of k (tree_at p id) → CellsGoOn p ts at id q k n t fs (Step.Give (Value.Number (so_far t))) fs
cells_none p ts at id q k n t fs r h =
    let none : nth k (arguments_of (tree_at p id)) ≡ None = sym (h ∙ child_fold (tree_at p id) q k r) in
    let gone : child_of (k + 1) (tree_at p id) ≡ None = child_fold (tree_at p id) q (k + 1) r ∙ nth_end k (arguments_of (tree_at p id)) none in
    let same : drop n (cells_named at (nth k (arguments_of (tree_at p id)))) ≡ [] = ap (λ z. drop n (cells_named at z)) none ∙ nothing n in
    goes_less p ts at (tree_at p id) (fold_from ts at q (k + 1) t (arguments_of (tree_at p id))) (fold_at ts at q k n t (arguments_of (tree_at p id))) (1 + costs_from at (k + 1) (arguments_of (tree_at p id))) (1 + (2 * (length (cells_named at (nth k (arguments_of (tree_at p id)))) - n) + costs_from at (k + 1) (arguments_of (tree_at p id)))) fs (Step.Give (Value.Number (so_far t))) fs (ap (λ z. fold_cells q t z (λ w. fold_from ts at q (k + 1) w (arguments_of (tree_at p id)))) same) (omega arith) (fold_end p ts at id q (k + 1) t fs r (sym gone))

-- a fold at the first cell of an argument
pub fold_cells_on : (p : Trees) (ts : Texts) (at : Addr) (id : ExprId) (q : FoldKind) (k : ℕ) (t : Total) (fs : List Frame) (c : ExprId) (area : Area) (cell : Addr) (fs' : List Frame) → fold_of (fun_of (tree_at p id)) ≡ Some q → Some (tree_at p c) ≡ child_of k (tree_at p id) → Cells area ≡ place_of at (tree_at p c) → drop 0 (walk area) ≡ cell ∷ drop (0 + 1) (walk area) → fs' ≡ At id (Cell k 1 t) ∷ fs → FoldGoesOn p ts at id q k t fs (Step.Look cell) fs'
fold_cells_on p ts at id q k t fs c area cell fs' r h b d e =
    let there : nth k (arguments_of (tree_at p id)) ≡ Some (tree_at p c) = sym (h ∙ child_fold (tree_at p id) q k r) in
    let cells : walk area ≡ cells_of (place_of at (tree_at p c)) = ap cells_of b in
    let named : walk area ≡ cells_named at (nth k (arguments_of (tree_at p id))) = cells ∙ cells_are p at (nth k (arguments_of (tree_at p id))) c (sym there) in
    let long : length (cells_named at (nth k (arguments_of (tree_at p id)))) ≡ length (cells_of (place_of at (tree_at p c))) = ap length (sym named ∙ cells) in
    goes_less p ts at (tree_at p id) (fold_at ts at q k 0 t (arguments_of (tree_at p id))) (fold_from ts at q k t (arguments_of (tree_at p id))) (1 + (2 * (length (cells_named at (nth k (arguments_of (tree_at p id)))) - 0) + costs_from at (k + 1) (arguments_of (tree_at p id)))) (1 + costs_from at k (arguments_of (tree_at p id))) fs (Step.Look cell) fs'
    (fold_by ts at q k t (arguments_of (tree_at p id)) (tree_at p c) (Cells area) there (sym b) ∙ ap (λ z. fold_cells q t z (λ w. fold_from ts at q (k + 1) w (arguments_of (tree_at p id)))) named)
    (omega (arith, costs_more at k (arguments_of (tree_at p id)) (tree_at p c) there, few_cells (place_of at (tree_at p c))))
    (cells_next p ts at id q k 0 t fs c cell fs' r h (subst (λ z. drop 0 z ≡ cell ∷ drop (0 + 1) z) cells d) e)

pub start_fold : (p : Trees) (ts : Texts) (at : Addr) (id : ExprId) (q : FoldKind) (fs : List Frame) (s : Step) (fs' : List Frame) → fold_of (fun_of (tree_at p id)) ≡ Some q → FoldGoesOn p ts at id q 0 None fs s fs' → Starts p ts at id fs s fs'
start_fold p ts at id q fs s fs' r g = goes_less p ts at (tree_at p id) (fold_from ts at q 0 None (arguments_of (tree_at p id))) (plan ts at (tree_at p id)) (1 + costs_from at 0 (arguments_of (tree_at p id))) (cost at (tree_at p id)) fs s fs' (same (tree_at p id) r) (less (tree_at p id) r) g
  where
    by_fun : (f : Fun) (args : Exprs) → fold_of f ≡ Some q → plan ts at (Expr.Call f args) ≡ fold_from ts at q 0 None args
    by_fun Fun.Sum args r = (let is : FoldKind.Sum ≡ q = cc in ap (λ z. fold_plan z None (arguments ts at args)) is)
    by_fun Fun.Min args r = (let is : FoldKind.Min ≡ q = cc in ap (λ z. fold_plan z None (arguments ts at args)) is)
    by_fun Fun.Max args r = (let is : FoldKind.Max ≡ q = cc in ap (λ z. fold_plan z None (arguments ts at args)) is)
    by_fun Fun.Count args r = (let is : FoldKind.Count ≡ q = cc in ap (λ z. fold_plan z None (arguments ts at args)) is)
    by_fun f args r = absurd (cc)

    same : (e : Expr) → fold_of (fun_of e) ≡ Some q → plan ts at e ≡ fold_from ts at q 0 None (arguments_of e)
    same (Expr.Call f args) r = by_fun f args r
    same e r = absurd (cc)

    less : (e : Expr) → fold_of (fun_of e) ≡ Some q → 1 + costs_from at 0 (arguments_of e) ≤ cost at e
    less (Expr.Call f args) r = omega (arith, costs_first at args)
    less e r = absurd (cc)

argument_is : (ts : Texts) (at : Addr) (e : Expr) (q : FoldKind) (k : ℕ) (t : Total) (v : Value) → fold_of (fun_of e) ≡ Some q → frame_plan ts at e (Argument k t) v ≡ go_on (taken q t false v) (λ u. fold_from ts at q k u (arguments_of e))
argument_is ts at (Expr.Call f args) q k t v r = ap (λ z. argument_frame ts at z k t args v) r
argument_is ts at e q k t v r = absurd (cc)

cell_is : (ts : Texts) (at : Addr) (e : Expr) (q : FoldKind) (k n : ℕ) (t : Total) (v : Value) → fold_of (fun_of e) ≡ Some q → frame_plan ts at e (Cell k n t) v ≡ go_on (taken q t true v) (λ u. fold_at ts at q k n u (arguments_of e))
cell_is ts at (Expr.Call f args) q k n t v r = ap (λ z. cell_frame ts at z k n t args v) r
cell_is ts at e q k n t v r = absurd (cc)

fold_left : (at : Addr) (e : Expr) (q : FoldKind) (w : Work) → fold_of (fun_of e) ≡ Some q → frame_left at e w ≡ call_left at (fun_of e) (arguments_of e) w
fold_left at (Expr.Call f args) q w r = refl
fold_left at e q w r = absurd (cc)

pub argument_fails : (p : Trees) (ts : Texts) (at : Addr) (id : ExprId) (q : FoldKind) (k : ℕ) (t : Total) (v : Value) (c : Code) (fs : List Frame) → fold_of (fun_of (tree_at p id)) ≡ Some q → Err c ≡ taken q t false v → GoesOn p ts at id (Argument k t) v fs (Step.Give (Value.Error c)) fs
argument_fails p ts at id q k t v c fs r h = ends p ts at (tree_at p id) (frame_plan ts at (tree_at p id) (Argument k t) v) (frame_left at (tree_at p id) (Argument k t)) fs c (argument_is ts at (tree_at p id) q k t v r ∙ ap (λ z. go_on z (λ u. fold_from ts at q k u (arguments_of (tree_at p id)))) (sym h)) (omega (arith, fold_left at (tree_at p id) q (Argument k t) r))

pub argument_goes : (p : Trees) (ts : Texts) (at : Addr) (id : ExprId) (q : FoldKind) (k : ℕ) (t u : Total) (v : Value) (fs : List Frame) (s : Step) (fs' : List Frame) → fold_of (fun_of (tree_at p id)) ≡ Some q → Ok u ≡ taken q t false v → FoldGoesOn p ts at id q k u fs s fs' → GoesOn p ts at id (Argument k t) v fs s fs'
argument_goes p ts at id q k t u v fs s fs' r h g = goes_less p ts at (tree_at p id) (fold_from ts at q k u (arguments_of (tree_at p id))) (frame_plan ts at (tree_at p id) (Argument k t) v) (1 + costs_from at k (arguments_of (tree_at p id))) (frame_left at (tree_at p id) (Argument k t)) fs s fs' (argument_is ts at (tree_at p id) q k t v r ∙ ap (λ z. go_on z (λ u. fold_from ts at q k u (arguments_of (tree_at p id)))) (sym h)) (omega (arith, fold_left at (tree_at p id) q (Argument k t) r)) g

pub cell_fails : (p : Trees) (ts : Texts) (at : Addr) (id : ExprId) (q : FoldKind) (k n : ℕ) (t : Total) (v : Value) (c : Code) (fs : List Frame) → fold_of (fun_of (tree_at p id)) ≡ Some q → Err c ≡ taken q t true v → GoesOn p ts at id (Cell k n t) v fs (Step.Give (Value.Error c)) fs
cell_fails p ts at id q k n t v c fs r h = ends p ts at (tree_at p id) (frame_plan ts at (tree_at p id) (Cell k n t) v) (frame_left at (tree_at p id) (Cell k n t)) fs c (cell_is ts at (tree_at p id) q k n t v r ∙ ap (λ z. go_on z (λ u. fold_at ts at q k n u (arguments_of (tree_at p id)))) (sym h)) (omega (arith, fold_left at (tree_at p id) q (Cell k n t) r))

pub cell_goes : (p : Trees) (ts : Texts) (at : Addr) (id : ExprId) (q : FoldKind) (k n : ℕ) (t u : Total) (v : Value) (fs : List Frame) (s : Step) (fs' : List Frame) → fold_of (fun_of (tree_at p id)) ≡ Some q → Ok u ≡ taken q t true v → CellsGoOn p ts at id q k n u fs s fs' → GoesOn p ts at id (Cell k n t) v fs s fs'
cell_goes p ts at id q k n t u v fs s fs' r h g = goes_less p ts at (tree_at p id) (fold_at ts at q k n u (arguments_of (tree_at p id))) (frame_plan ts at (tree_at p id) (Cell k n t) v) (1 + (2 * (length (cells_named at (nth k (arguments_of (tree_at p id)))) - n) + costs_from at (k + 1) (arguments_of (tree_at p id)))) (frame_left at (tree_at p id) (Cell k n t)) fs s fs' (cell_is ts at (tree_at p id) q k n t v r ∙ ap (λ z. go_on z (λ u. fold_at ts at q k n u (arguments_of (tree_at p id)))) (sym h)) (omega (arith, fold_left at (tree_at p id) q (Cell k n t) r)) g

-- a call is of its function

pub fun_is : (e : Expr) (f : Fun) → root_of e ≡ Node.Call f → fun_of e ≡ f
fun_is (Expr.Call g args) f c = cc
fun_is e f c = absurd (cc)

pub turn_given : (e : Expr) (f : Fun) (q : Bool) → root_of e ≡ Node.Call f → Some q ≡ turn_of f → turn_of (fun_of e) ≡ Some q
turn_given e f q c h = ap turn_of (fun_is e f c) ∙ sym h

pub fold_given : (e : Expr) (f : Fun) (q : FoldKind) → root_of e ≡ Node.Call f → Some q ≡ fold_of f → fold_of (fun_of e) ≡ Some q
fold_given e f q c h = ap fold_of (fun_is e f c) ∙ sym h

pub few_arguments : (limit n k : ℕ) (e a : Expr) → Some a ≡ child_of k e → Holds limit n e → k < 512
few_arguments limit n k e a h m = few_children limit n k e a (sym h) m

pub room_for : (limit n : ℕ) (e : Expr) → Holds limit n e → n < limit
room_for limit n e m = omega (arith, m.deep, depth_above e)

pub same_truth : (a b : Bool) → beq a b ≡ true → a ≡ b
same_truth true true h = refl
same_truth false false h = refl
same_truth true false h = absurd (cc)
same_truth false true h = absurd (cc)
