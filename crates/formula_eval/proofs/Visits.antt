-- Folds and searches over the cells of a range: two turns a cell.
use Rattle.std.proofs.Common.{◌≡◌, ℕ, zero, suc, ◌+◌, ◌<◌, ◌≤◌, true, false, Ok, Err, List, [], ◌∷◌, length, drop, refl, sym, ap, ◌∙◌, subst, arith}
use Rattle.cell_values.specs.declared.address.Addr.{Addr}
use Rattle.cell_values.specs.declared.values.Code.{Code}
use Rattle.cell_values.specs.declared.values.Value.{Value}
use Rattle.cell_values.specs.Areas.{walk}
use Rattle.cell_values.specs.Texts.{Texts}
use Rattle.cell_values.specs.Values.{IsValueOf}
use Rattle.formula_trees.specs.Mentions.{cells_of}
use Rattle.builtin_functions.specs.Folds.{Total, taken}
use Rattle.demand_spec.specs.declared.Asked.{Asked}
use Rattle.demand_spec.specs.declared.Asked.TheVariants.{Val, Needs}
use Rattle.demand_spec.specs.Formula.{is_found}
use Rattle.shared_expressions.specs.declared.nodes.ExprId.{ExprId}
use Rattle.shared_expressions.specs.Trees.{Trees, tree_at}
use Rattle.formula_eval.specs.declared.site.FoldWalk.{FoldWalk}
use Rattle.formula_eval.specs.declared.site.SearchWalk.{SearchWalk}
use Rattle.formula_eval.specs.declared.site.LookupWalk.{LookupWalk}
use Rattle.formula_eval.specs.declared.work.Work.{Work}
use Rattle.formula_eval.specs.declared.work.Work.TheVariants.{Cell, Search, Lookup}
use Rattle.formula_eval.specs.declared.work.Frame.{Frame}
use Rattle.formula_eval.specs.declared.work.Frame.TheVariants.{At, Opened}
use Rattle.formula_eval.specs.declared.work.Step.{Step}
use Rattle.formula_eval.specs.Machine.{line_of, across, fun_of, range_of, HasLine, IsOperand, IsFoldWalk, IsSearchWalk, IsLookupWalk, GoesOn, FoldGoesOn}
use Rattle.formula_eval.specs.Evaluations.{Advances, Along, Comes}
use Rattle.formula_eval.proofs.Turns.{advance_give, advance_look, along_advances, along_more, along_stops}
use Rattle.formula_eval.proofs.Ranges.{nothing, fun_is, cells_next, cells_done, cell_fails, cell_goes}
use Rattle.formula_eval.proofs.Searches.{search_next, search_goes, lookup_next, lookup_goes}

-- the next cell has a value
pub visit_found : (p : Trees) (ts : Texts) (at : Addr) (l : Addr → Asked) (id : ExprId) (w w' : Work) (v next : Value) (a : Addr) (s : Step) (fs gs : List Frame) (c m m' : ℕ) → GoesOn p ts at id w v gs (Step.Look a) (At id w' ∷ gs) → Val next ≡ l a → IsValueOf ts next → m' ≤ m + 1 → Along p ts at l s fs (Step.Give v) (At id w ∷ gs) c m → Along p ts at l s fs (Step.Give next) (At id w' ∷ gs) c m'
visit_found p ts at l id w w' v next a s fs gs c m m' h e i b g =
    along_more p ts at l s fs (Step.Look a) (At id w' ∷ gs) (Step.Give next) (At id w' ∷ gs) c m m'
    (along_more p ts at l s fs (Step.Give v) (At id w ∷ gs) (Step.Look a) (At id w' ∷ gs) c m m g (advance_give p ts at l id w v gs (At id w ∷ gs) (Step.Look a) (At id w' ∷ gs) m refl h))
    (advance_look p ts at l a next (At id w' ∷ gs) m m' e i b)

-- the next cell is missing
pub visit_stops : (p : Trees) (ts : Texts) (at : Addr) (l : Addr → Asked) (id : ExprId) (w w' : Work) (v : Value) (a : Addr) (s : Step) (fs gs hs js : List Frame) (c m m' : ℕ) → GoesOn p ts at id w v gs (Step.Look a) (At id w' ∷ gs) → Needs a ≡ l a → hs ≡ At id w' ∷ gs → js ≡ Opened at a ∷ hs → m' ≤ m + 1 → Along p ts at l s fs (Step.Give v) (At id w ∷ gs) c m → Comes p ts at l s fs (Needs a) js c m'
visit_stops p ts at l id w w' v a s fs gs hs js c m m' h e top mark b g =
    along_stops p ts at l s fs a (At id w' ∷ gs) js c m m'
    (along_more p ts at l s fs (Step.Give v) (At id w ∷ gs) (Step.Look a) (At id w' ∷ gs) c m m g (advance_give p ts at l id w v gs (At id w ∷ gs) (Step.Look a) (At id w' ∷ gs) m refl h))
    e (mark ∙ ap (λ z. Opened at a ∷ z) top) b

-- the walk is over
pub visit_ends : (p : Trees) (ts : Texts) (at : Addr) (l : Addr → Asked) (id : ExprId) (w : Work) (v : Value) (s : Step) (fs gs : List Frame) (r : Step) (hs : List Frame) (c m : ℕ) → GoesOn p ts at id w v gs r hs → Along p ts at l s fs (Step.Give v) (At id w ∷ gs) c m → Advances p ts at l s fs r hs c m
visit_ends p ts at l id w v s fs gs r hs c m h g = along_advances p ts at l s fs (Step.Give v) (At id w ∷ gs) r hs c m m g (advance_give p ts at l id w v gs (At id w ∷ gs) r hs m refl h)

-- Folds

pub fold_next : (p : Trees) (ts : Texts) (at : Addr) (on : FoldWalk) (n : ℕ) (t u : Total) (v : Value) (a : Addr) (gs : List Frame) → IsFoldWalk p at on → Ok u ≡ taken on.kind t true v → drop n (walk on.area) ≡ a ∷ drop (n + 1) (walk on.area) → GoesOn p ts at on.id (Cell on.k n t) v gs (Step.Look a) (At on.id (Cell on.k (n + 1) u) ∷ gs)
fold_next p ts at on n t u v a gs w h d =
    cell_goes p ts at on.id on.kind on.k n t u v gs (Step.Look a) (At on.id (Cell on.k (n + 1) u) ∷ gs) w.fold h
    (cells_next p ts at on.id on.kind on.k n u gs on.child a (At on.id (Cell on.k (n + 1) u) ∷ gs) w.fold w.argument (subst (λ z. drop n (cells_of z) ≡ a ∷ drop (n + 1) (cells_of z)) (sym w.range) d) refl)

drop_all : (n : ℕ) (cs : List Addr) → length cs ≤ n → drop n cs ≡ []
drop_all n [] h = nothing n
drop_all zero (c ∷ cs) h = absurd (omega (arith, h))
drop_all (suc n) (c ∷ cs) h = drop_all n cs (omega (arith, h))

pub fold_fails : (p : Trees) (ts : Texts) (at : Addr) (on : FoldWalk) (n : ℕ) (t : Total) (v : Value) (e : Code) (gs : List Frame) → IsFoldWalk p at on → Err e ≡ taken on.kind t true v → GoesOn p ts at on.id (Cell on.k n t) v gs (Step.Give (Value.Error e)) gs
fold_fails p ts at on n t v e gs w h = cell_fails p ts at on.id on.kind on.k n t v e gs w.fold h

pub fold_done : (p : Trees) (ts : Texts) (at : Addr) (on : FoldWalk) (n : ℕ) (t u : Total) (v : Value) (gs : List Frame) (r : Step) (hs : List Frame) → IsFoldWalk p at on → Ok u ≡ taken on.kind t true v → length (walk on.area) ≤ n → FoldGoesOn p ts at on.id on.kind (on.k + 1) u gs r hs → GoesOn p ts at on.id (Cell on.k n t) v gs r hs
fold_done p ts at on n t u v gs r hs w h b f =
    cell_goes p ts at on.id on.kind on.k n t u v gs r hs w.fold h
    (cells_done p ts at on.id on.kind on.k n u gs on.child r hs w.fold w.argument (ap (λ z. drop n (cells_of z)) w.range ∙ drop_all n (walk on.area) b) f)

-- MATCH

pub match_next : (p : Trees) (ts : Texts) (at : Addr) (on : SearchWalk) (n : ℕ) (v : Value) (a : Addr) (gs : List Frame) → IsSearchWalk p at on → IsOperand ts on.key → is_found ts on.key v ≡ false → drop n (walk on.area) ≡ a ∷ drop (n + 1) (walk on.area) → GoesOn p ts at on.id (Search n on.key) v gs (Step.Look a) (At on.id (Search (n + 1) on.key) ∷ gs)
match_next p ts at on n v a gs w k h d =
    search_goes p ts at on.id on.key n v gs (Step.Look a) (At on.id (Search (n + 1) on.key) ∷ gs) w.call h
    (search_next p ts at on.id on.key n gs on.child a (At on.id (Search (n + 1) on.key) ∷ gs) w.call k w.argument (subst (λ z. drop n (cells_of z) ≡ a ∷ drop (n + 1) (cells_of z)) (sym w.range) d) refl)

-- Lookups

-- a column or row that the range has, and a cell of the line
pub line_is : (p : Trees) (at : Addr) (on : LookupWalk) (m n : ℕ) → IsLookupWalk p at on → HasLine (fun_of (tree_at p on.call.id)) m n (range_of at (tree_at p on.call.id)) → (m < across on.call.fun on.area) × (n < length (line_of on.call.fun on.area))
line_is p at on m n w h =
    let one : HasLine on.call.fun m n (range_of at (tree_at p on.call.id)) = subst (λ z. HasLine z m n (range_of at (tree_at p on.call.id))) (fun_is (tree_at p on.call.id) on.call.fun w.call) h in
    subst (HasLine on.call.fun m n) w.range one

pub line_next : (p : Trees) (ts : Texts) (at : Addr) (on : LookupWalk) (m n : ℕ) (v : Value) (a : Addr) (gs : List Frame) → IsLookupWalk p at on → IsOperand ts on.key → m < across on.call.fun on.area → is_found ts on.key v ≡ false → drop (n + 1) (line_of on.call.fun on.area) ≡ a ∷ drop (n + 1 + 1) (line_of on.call.fun on.area) → GoesOn p ts at on.call.id (Lookup m n on.key) v gs (Step.Look a) (At on.call.id (Lookup m (n + 1) on.key) ∷ gs)
line_next p ts at on m n v a gs w k l h d =
    lookup_goes p ts at on.call.id on.call.fun on.area on.key v m n gs (Step.Look a) (At on.call.id (Lookup m (n + 1) on.key) ∷ gs) w.call w.lookup w.range h
    (lookup_next p ts at on.call.id on.call.fun on.area on.key m (n + 1) gs a (At on.call.id (Lookup m (n + 1) on.key) ∷ gs) w.call w.lookup w.range l k d refl)
