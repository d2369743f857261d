-- MATCH, the lookups, INDEX and CHOOSE.
use Rattle.std.proofs.Common.{◌≡◌, ℕ, zero, suc, ◌+◌, ◌-◌, ◌*◌, ◌<◌, ◌≤◌, ℤ, pos, negsuc, Bool, true, false, cond, nat_lt, ◌⊎◌, ⊎_elim, Option, Some, None, List, [], ◌∷◌, length, drop, refl, sym, ap, ◌∙◌, subst, arith}
use Rattle.cell_values.specs.declared.address.Addr.{Addr}
use Rattle.cell_values.specs.declared.address.Area.{Area}
use Rattle.cell_values.specs.declared.values.Code.{Code}
use Rattle.cell_values.specs.declared.values.Value.{Value}
use Rattle.cell_values.specs.Areas.{height, width, cell_of, row_of, column_of, IsArea}
use Rattle.cell_values.specs.Texts.{Texts}
use Rattle.formula_trees.specs.declared.tree.Fun.{Fun}
use Rattle.formula_trees.specs.Expr.{Expr, Exprs, End, More}
use Rattle.formula_trees.specs.declared.place.Place.{Place}
use Rattle.formula_trees.specs.declared.place.Place.TheVariants.{Nowhere, Bad, Cells}
use Rattle.formula_trees.specs.Mentions.{cells_of, place_of}
use Rattle.cell_values.specs.Values.{is_error, as_number}
use Rattle.demand_spec.specs.Plan.{Plan, Give, Demand}
use Rattle.demand_spec.specs.Formula.{fails, is_found, search_plan, arguments, if_cells, if_number, if_up_to, from_one, chosen, value_at}
use Rattle.shared_expressions.specs.declared.nodes.ExprId.{ExprId}
use Rattle.shared_expressions.specs.declared.nodes.Node.{Node}
use Rattle.shared_expressions.specs.Trees.{Trees, tree_at, root_of, nth, child_of, depth}
use Rattle.formula_eval.specs.declared.work.Work.TheVariants.{First, Second, Search, Lookup}
use Rattle.formula_eval.specs.declared.work.Frame.{Frame}
use Rattle.formula_eval.specs.declared.work.Frame.TheVariants.{At}
use Rattle.formula_eval.specs.declared.work.Step.{Step}
use Rattle.std.proofs.lemmas.Bool.{lt-ltb}
use Rattle.formula_eval.specs.Machine.{plan_or, place_named, cells_named, index_below, fun_of, is_lookup, line_of, target_of, across, numbered, match_in, index_in, lookup_from, lookup_in, lookup_at, lookup_frame, frame_plan, span, costs_but, line_left, frame_left, Holds, IsOperand, HasLine, range_of, GoesOn, arguments_of, SearchGoesOn, LookupGoesOn, Does, call_first, first_of_two}
use Rattle.cell_values.proofs.Walking.{length-column, length-first_row}
use Rattle.formula_eval.proofs.Parts.{plus_one, depth_over, value_at_is, few_children}
use Rattle.formula_eval.proofs.Moves.{ends, looks, does, AwaitsCell, waits_cell, goes_less}
use Rattle.formula_eval.proofs.Values.{no_error}
use Rattle.formula_eval.proofs.Begins.{call_gives, goes_with, left_with, child_with, some_left}
use Rattle.formula_eval.proofs.Ranges.{drop_some, nothing, cells_are, few_cells, fun_is}

-- MATCH

pub search_next : (p : Trees) (ts : Texts) (at : Addr) (id : ExprId) (key : Value) (n : ℕ) (fs : List Frame) (c : ExprId) (cell : Addr) (fs' : List Frame) → root_of (tree_at p id) ≡ Node.Call Fun.Match → IsOperand ts key → Some (tree_at p c) ≡ child_of 1 (tree_at p id) → drop n (cells_of (place_of at (tree_at p c))) ≡ cell ∷ drop (n + 1) (cells_of (place_of at (tree_at p c))) → fs' ≡ At id (Search (n + 1) key) ∷ fs → SearchGoesOn p ts at id key n fs (Step.Look cell) fs'
search_next p ts at id key n fs c cell fs' r m h d e = waits_cell p ts at id (search_plan ts key n (drop n (cells_named at (nth 1 (arguments_of (tree_at p id))))) numbered) (1 + 2 * (length (cells_named at (nth 1 (arguments_of (tree_at p id)))) - n)) (Search (n + 1) key) fs cell fs' e (λ t. m) (awaits (tree_at p id) r h)
  where
    awaits : (e : Expr) → root_of e ≡ Node.Call Fun.Match → Some (tree_at p c) ≡ child_of 1 e → AwaitsCell ts at e (search_plan ts key n (drop n (cells_named at (nth 1 (arguments_of e)))) numbered) (1 + 2 * (length (cells_named at (nth 1 (arguments_of e))) - n)) (Search (n + 1) key) cell
    awaits (Expr.Call Fun.Match args) r h =
        let next : n + 1 ≡ suc n = omega arith in
        let there : drop n (cells_named at (nth 1 args)) ≡ cell ∷ drop (n + 1) (cells_named at (nth 1 args)) = subst (λ z. drop n z ≡ cell ∷ drop (n + 1) z) (cells_are p at (nth 1 args) c h) d in
        record {
          goes_on = ap (λ z. search_plan ts key n z numbered) there ∙ (λ i. Demand cell (λ v. cond (is_found ts key v) (Give (Value.Number (pos (sym next i)))) (search_plan ts key (sym next i) (drop (n + 1) (cells_named at (nth 1 args))) numbered)));
          falls = omega (arith, drop_some n (cells_named at (nth 1 args)) cell (drop (n + 1) (cells_named at (nth 1 args))) there);
          deep = depth_over 1 (Expr.Call Fun.Match args) (tree_at p c) (sym h);
        }
    awaits e r h = absurd (cc)

pub search_done : (p : Trees) (ts : Texts) (at : Addr) (id : ExprId) (key : Value) (n : ℕ) (fs : List Frame) (c : ExprId) → root_of (tree_at p id) ≡ Node.Call Fun.Match → Some (tree_at p c) ≡ child_of 1 (tree_at p id) → drop n (cells_of (place_of at (tree_at p c))) ≡ [] → SearchGoesOn p ts at id key n fs (Step.Give (Value.Error Code.Na)) fs
search_done p ts at id key n fs c r h d =
    let same : drop n (cells_named at (nth 1 (arguments_of (tree_at p id)))) ≡ [] = ap (drop n) (sym (cells_are p at (nth 1 (arguments_of (tree_at p id))) c (h ∙ child_with (tree_at p id) Fun.Match 1 r))) ∙ d in
    ends p ts at (tree_at p id) (search_plan ts key n (drop n (cells_named at (nth 1 (arguments_of (tree_at p id))))) numbered) (1 + 2 * (length (cells_named at (nth 1 (arguments_of (tree_at p id)))) - n)) fs Code.Na (ap (λ z. search_plan ts key n z numbered) same) (omega arith)

pub search_none : (p : Trees) (ts : Texts) (at : Addr) (id : ExprId) (key : Value) (n : ℕ) (fs : List Frame) → root_of (tree_at p id) ≡ Node.Call Fun.Match → None ≡ child_of 1 (tree_at p id) → SearchGoesOn p ts at id key n fs (Step.Give (Value.Error Code.Na)) fs
search_none p ts at id key n fs r h =
    let none : nth 1 (arguments_of (tree_at p id)) ≡ None = sym (h ∙ child_with (tree_at p id) Fun.Match 1 r) in
    let same : drop n (cells_named at (nth 1 (arguments_of (tree_at p id)))) ≡ [] = ap (λ z. drop n (cells_named at z)) none ∙ nothing n in
    ends p ts at (tree_at p id) (search_plan ts key n (drop n (cells_named at (nth 1 (arguments_of (tree_at p id))))) numbered) (1 + 2 * (length (cells_named at (nth 1 (arguments_of (tree_at p id)))) - n)) fs Code.Na (ap (λ z. search_plan ts key n z numbered) same) (omega arith)

pub search_found : (p : Trees) (ts : Texts) (at : Addr) (id : ExprId) (key : Value) (n : ℕ) (v : Value) (fs : List Frame) → root_of (tree_at p id) ≡ Node.Call Fun.Match → is_found ts key v ≡ true → GoesOn p ts at id (Search n key) v fs (Step.Give (Value.Number (pos n))) fs
search_found p ts at id key n v fs r h = call_gives p ts at id Fun.Match (Search n key) v (Value.Number (pos n)) fs r (λ args. ap (λ z. cond z (Give (Value.Number (pos n))) (search_plan ts key n (drop n (cells_named at (nth 1 args))) numbered)) h) tt

pub search_goes : (p : Trees) (ts : Texts) (at : Addr) (id : ExprId) (key : Value) (n : ℕ) (v : Value) (fs : List Frame) (s : Step) (fs' : List Frame) → root_of (tree_at p id) ≡ Node.Call Fun.Match → is_found ts key v ≡ false → SearchGoesOn p ts at id key n fs s fs' → GoesOn p ts at id (Search n key) v fs s fs'
search_goes p ts at id key n v fs s fs' r h g = goes_less p ts at (tree_at p id) (search_plan ts key n (drop n (cells_named at (nth 1 (arguments_of (tree_at p id))))) numbered) (frame_plan ts at (tree_at p id) (Search n key) v) (1 + 2 * (length (cells_named at (nth 1 (arguments_of (tree_at p id)))) - n)) (frame_left at (tree_at p id) (Search n key)) fs s fs'
    (goes_with p ts at id Fun.Match (Search n key) v (λ args. search_plan ts key n (drop n (cells_named at (nth 1 args))) numbered) r (λ args. ap (λ z. cond z (Give (Value.Number (pos n))) (search_plan ts key n (drop n (cells_named at (nth 1 args))) numbered)) h))
    (omega (arith, left_with at (tree_at p id) Fun.Match (Search n key) r)) g

-- the range of a call is one of its arguments
but_span : (at : Addr) (args : Exprs) (a : Expr) → nth 1 args ≡ Some a → 2 + 2 * span (place_of at a) ≤ costs_but at 0 args
but_span at End a h = cc
but_span at (More b End) a h = cc
but_span at (More b (More c r)) a h = (let same : c ≡ a = cc in subst (λ z. 2 + 2 * span (place_of at z) ≤ costs_but at 0 (More b (More c r))) same (omega arith))

match_plan_is : (ts : Texts) (at : Addr) (v : Value) (args : Exprs) → is_error v ≡ false → frame_plan ts at (Expr.Call Fun.Match args) First v ≡ match_in ts v (place_named at (nth 1 args))
match_plan_is ts at v args n = no_error v (λ k. match_in ts k (place_named at (nth 1 args))) n

pub match_goes : (p : Trees) (ts : Texts) (at : Addr) (id : ExprId) (v : Value) (fs : List Frame) (a : Area) (s : Step) (fs' : List Frame) → root_of (tree_at p id) ≡ Node.Call Fun.Match → is_error v ≡ false → Cells a ≡ place_named at (child_of 1 (tree_at p id)) → SearchGoesOn p ts at id v 0 fs s fs' → GoesOn p ts at id First v fs s fs'
match_goes p ts at id v fs a s fs' r n h g =
    let there : Cells a ≡ place_named at (nth 1 (arguments_of (tree_at p id))) = h ∙ ap (place_named at) (child_with (tree_at p id) Fun.Match 1 r) in
    goes_less p ts at (tree_at p id) (search_plan ts v 0 (drop 0 (cells_named at (nth 1 (arguments_of (tree_at p id))))) numbered) (frame_plan ts at (tree_at p id) First v) (1 + 2 * (length (cells_named at (nth 1 (arguments_of (tree_at p id)))) - 0)) (frame_left at (tree_at p id) First) fs s fs'
    (goes_with p ts at id Fun.Match First v (λ args. match_in ts v (place_named at (nth 1 args))) r (λ args. match_plan_is ts at v args n)
    ∙ ap (match_in ts v) (sym there) ∙ ap (λ z. search_plan ts v 0 (cells_of z) numbered) there)
    (less (nth 1 (arguments_of (tree_at p id))) refl there)
    g
  where
    less : (o : Option Expr) → nth 1 (arguments_of (tree_at p id)) ≡ o → Cells a ≡ place_named at o → 1 + 2 * (length (cells_named at (nth 1 (arguments_of (tree_at p id)))) - 0) ≤ frame_left at (tree_at p id) First
    less None k t = absurd (cc)
    less (Some c) k t =
        let long : length (cells_named at (nth 1 (arguments_of (tree_at p id)))) ≡ length (cells_of (place_of at c)) = ap (λ z. length (cells_named at z)) k in
        omega (arith, left_with at (tree_at p id) Fun.Match First r, but_span at (arguments_of (tree_at p id)) c k, few_cells (place_of at c))

pub match_bad : (p : Trees) (ts : Texts) (at : Addr) (id : ExprId) (v : Value) (fs : List Frame) → root_of (tree_at p id) ≡ Node.Call Fun.Match → is_error v ≡ false → ((a : Area) → place_named at (child_of 1 (tree_at p id)) ≡ Cells a → ⊥) → GoesOn p ts at id First v fs (Step.Give (Value.Error Code.Ref)) fs
match_bad p ts at id v fs r n h = ends p ts at (tree_at p id) (frame_plan ts at (tree_at p id) First v) (frame_left at (tree_at p id) First) fs Code.Ref
    (goes_with p ts at id Fun.Match First v (λ args. match_in ts v (place_named at (nth 1 args))) r (λ args. match_plan_is ts at v args n)
    ∙ ap (λ z. match_in ts v (place_named at z)) (sym (child_with (tree_at p id) Fun.Match 1 r)) ∙ go (place_named at (child_of 1 (tree_at p id))) h)
    (some_left at (tree_at p id) Fun.Match First r)
  where
    go : (l : Place) → ((a : Area) → l ≡ Cells a → ⊥) → match_in ts v l ≡ fails Code.Ref
    go (Cells a) h = absurd (h a refl)
    go Bad h = refl
    go Nowhere h = refl

-- Lookups

line_span : (f : Fun) (r : Area) → length (line_of f r) ≤ span (Cells r)
line_span Fun.HLookup r = omega arith
line_span f r = omega arith

lookup_there : (at : Addr) (e : Expr) (f : Fun) (r : Area) → root_of e ≡ Node.Call f → range_of at e ≡ Cells r → 1 < depth e
lookup_there at (Expr.Call g args) f r c h = go (nth 1 args) refl h
  where
    go : (o : Option Expr) → nth 1 args ≡ o → place_named at o ≡ Cells r → 1 < depth (Expr.Call g args)
    go None k h = absurd (cc)
    go (Some a) k h = depth_over 1 (Expr.Call g args) a k
lookup_there at e f r c h = absurd (cc)

lookup_plan_is : (ts : Texts) (at : Addr) (e : Expr) (f : Fun) (r : Area) (m n : ℕ) (key v : Value) → root_of e ≡ Node.Call f → is_lookup f ≡ true → range_of at e ≡ Cells r → frame_plan ts at e (Lookup m n key) v ≡ cond (is_found ts key v) (Demand (target_of f r m n) Give) (lookup_from ts f key m (suc n) r)
lookup_plan_is ts at (Expr.Call g args) f r m n key v c l h = (let same : g ≡ f = cc in ap (λ z. lookup_frame (is_lookup z) (lookup_at ts z m n key (place_named at (nth 1 args)) v)) same ∙ (λ i. lookup_frame (l i) (lookup_at ts f m n key (h i) v)))
lookup_plan_is ts at e f r m n key v c l h = absurd (cc)

lookup_left_is : (at : Addr) (e : Expr) (f : Fun) (r : Area) (m n : ℕ) (key : Value) → root_of e ≡ Node.Call f → range_of at e ≡ Cells r → frame_left at e (Lookup m n key) ≡ 2 + 2 * (length (line_of f r) - suc n)
lookup_left_is at (Expr.Call g args) f r m n key c h = (let same : g ≡ f = cc in ap (λ z. 2 + line_left z (place_named at (nth 1 args)) n) same ∙ ap (λ z. 2 + line_left f z n) h)
lookup_left_is at e f r m n key c h = absurd (cc)

pub lookup_next : (p : Trees) (ts : Texts) (at : Addr) (id : ExprId) (f : Fun) (r : Area) (key : Value) (m n : ℕ) (fs : List Frame) (cell : Addr) (fs' : List Frame) → root_of (tree_at p id) ≡ Node.Call f → is_lookup f ≡ true → range_of at (tree_at p id) ≡ Cells r → m < across f r → IsOperand ts key → drop n (line_of f r) ≡ cell ∷ drop (n + 1) (line_of f r) → fs' ≡ At id (Lookup m n key) ∷ fs → LookupGoesOn p ts at id f r key m n fs (Step.Look cell) fs'
lookup_next p ts at id f r key m n fs cell fs' c l h b k d e =
    let some : n < length (line_of f r) = drop_some n (line_of f r) cell (drop (n + 1) (line_of f r)) d in
    let plus : n + 1 ≡ suc n = omega arith in
    waits_cell p ts at id (lookup_from ts f key m n r) (2 + 2 * (length (line_of f r) - n)) (Lookup m n key) fs cell fs' e
    (λ t. (k, subst (λ z. HasLine z m n (range_of at (tree_at p id))) (sym (fun_is (tree_at p id) f c)) (subst (HasLine f m n) (sym h) (b, some))))
    (record {
      goes_on = ap (λ z. search_plan ts key n z (λ i. Demand (target_of f r m i) Give)) d
          ∙ (λ i. Demand cell (λ v. cond (is_found ts key v) (Demand (target_of f r m n) Give) (search_plan ts key (suc n) (drop (plus i) (line_of f r)) (λ j. Demand (target_of f r m j) Give))))
          ∙ (λ i. Demand cell (λ v. sym (lookup_plan_is ts at (tree_at p id) f r m n key v c l h) i));
      falls = omega (arith, lookup_left_is at (tree_at p id) f r m n key c h);
      deep = lookup_there at (tree_at p id) f r c h;
    })

pub lookup_done : (p : Trees) (ts : Texts) (at : Addr) (id : ExprId) (f : Fun) (r : Area) (key : Value) (m n : ℕ) (fs : List Frame) → drop n (line_of f r) ≡ [] → LookupGoesOn p ts at id f r key m n fs (Step.Give (Value.Error Code.Na)) fs
lookup_done p ts at id f r key m n fs d = ends p ts at (tree_at p id) (lookup_from ts f key m n r) (2 + 2 * (length (line_of f r) - n)) fs Code.Na (ap (λ z. search_plan ts key n z (λ i. Demand (target_of f r m i) Give)) d) (omega arith)

pub lookup_found : (p : Trees) (ts : Texts) (at : Addr) (id : ExprId) (f : Fun) (r : Area) (key v : Value) (m n : ℕ) (fs : List Frame) → root_of (tree_at p id) ≡ Node.Call f → is_lookup f ≡ true → range_of at (tree_at p id) ≡ Cells r → is_found ts key v ≡ true → GoesOn p ts at id (Lookup m n key) v fs (Step.Look (target_of f r m n)) fs
lookup_found p ts at id f r key v m n fs c l h y = looks p ts at (tree_at p id) (frame_plan ts at (tree_at p id) (Lookup m n key) v) (frame_left at (tree_at p id) (Lookup m n key)) fs (target_of f r m n) (lookup_plan_is ts at (tree_at p id) f r m n key v c l h ∙ ap (λ z. cond z (Demand (target_of f r m n) Give) (lookup_from ts f key m (suc n) r)) y) (omega (arith, lookup_left_is at (tree_at p id) f r m n key c h))

pub lookup_goes : (p : Trees) (ts : Texts) (at : Addr) (id : ExprId) (f : Fun) (r : Area) (key v : Value) (m n : ℕ) (fs : List Frame) (s : Step) (fs' : List Frame) → root_of (tree_at p id) ≡ Node.Call f → is_lookup f ≡ true → range_of at (tree_at p id) ≡ Cells r → is_found ts key v ≡ false → LookupGoesOn p ts at id f r key m (n + 1) fs s fs' → GoesOn p ts at id (Lookup m n key) v fs s fs'
lookup_goes p ts at id f r key v m n fs s fs' c l h y g =
    let plus : suc n ≡ n + 1 = omega arith in
    goes_less p ts at (tree_at p id) (lookup_from ts f key m (n + 1) r) (frame_plan ts at (tree_at p id) (Lookup m n key) v) (2 + 2 * (length (line_of f r) - (n + 1))) (frame_left at (tree_at p id) (Lookup m n key)) fs s fs'
    (lookup_plan_is ts at (tree_at p id) f r m n key v c l h ∙ ap (λ z. cond z (Demand (target_of f r m n) Give) (lookup_from ts f key m (suc n) r)) y ∙ ap (λ z. lookup_from ts f key m z r) plus)
    (omega (arith, lookup_left_is at (tree_at p id) f r m n key c h)) g

-- a number from 1 to `most`
up_to_some : (most : ℕ) (j : ℤ) (f : ℕ → Plan) (m : ℕ) → Some m ≡ index_below most j → if_up_to most j f ≡ f m
up_to_some most (pos zero) f m h = absurd (cc)
up_to_some most (negsuc n) f m h = absurd (cc)
up_to_some most (pos (suc n)) f m h = go (nat_lt n most) h
  where
    go : (b : Bool) → Some m ≡ cond b (Some n) None → cond b (f n) (fails Code.Ref) ≡ f m
    go true h = (let same : n ≡ m = cc in ap f same)
    go false h = absurd (cc)

up_to_none : (most : ℕ) (j : ℤ) (f : ℕ → Plan) → None ≡ index_below most j → if_up_to most j f ≡ fails Code.Ref
up_to_none most (pos zero) f h = refl
up_to_none most (negsuc n) f h = refl
up_to_none most (pos (suc n)) f h = go (nat_lt n most) h
  where
    go : (b : Bool) → None ≡ cond b (Some n) None → cond b (f n) (fails Code.Ref) ≡ fails Code.Ref
    go true h = absurd (cc)
    go false h = refl

second_is : (ts : Texts) (at : Addr) (f : Fun) (args : Exprs) (x v : Value) → is_lookup f ≡ true → is_error v ≡ false → frame_plan ts at (Expr.Call f args) (Second x) v ≡ lookup_in ts f x v (place_named at (nth 1 args))
second_is ts at Fun.VLookup args x v l n = no_error v (λ w. lookup_in ts Fun.VLookup x w (place_named at (nth 1 args))) n
second_is ts at Fun.HLookup args x v l n = no_error v (λ w. lookup_in ts Fun.HLookup x w (place_named at (nth 1 args))) n
second_is ts at f args x v l n = absurd (cc)

second_at : (p : Trees) (ts : Texts) (at : Addr) (id : ExprId) (f : Fun) (x v : Value) → root_of (tree_at p id) ≡ Node.Call f → is_lookup f ≡ true → is_error v ≡ false → frame_plan ts at (tree_at p id) (Second x) v ≡ lookup_in ts f x v (place_named at (child_of 1 (tree_at p id)))
second_at p ts at id f x v c l n = goes_with p ts at id f (Second x) v (λ args. lookup_in ts f x v (place_named at (nth 1 args))) c (λ args. second_is ts at f args x v l n) ∙ ap (λ z. lookup_in ts f x v (place_named at z)) (sym (child_with (tree_at p id) f 1 c))

pub line_no_number : (p : Trees) (ts : Texts) (at : Addr) (id : ExprId) (f : Fun) (x v : Value) (fs : List Frame) → root_of (tree_at p id) ≡ Node.Call f → is_lookup f ≡ true → is_error v ≡ false → None ≡ as_number v → GoesOn p ts at id (Second x) v fs (Step.Give (Value.Error Code.Value)) fs
line_no_number p ts at id f x v fs c l n h = ends p ts at (tree_at p id) (frame_plan ts at (tree_at p id) (Second x) v) (frame_left at (tree_at p id) (Second x)) fs Code.Value (second_at p ts at id f x v c l n ∙ ap (λ z. if_number z (λ j. if_cells (place_named at (child_of 1 (tree_at p id))) (λ r. if_up_to (across f r) j (λ m. lookup_from ts f x m 0 r)))) (sym h)) (some_left at (tree_at p id) f (Second x) c)

pub line_no_cells : (p : Trees) (ts : Texts) (at : Addr) (id : ExprId) (f : Fun) (x v : Value) (j : ℤ) (fs : List Frame) → root_of (tree_at p id) ≡ Node.Call f → is_lookup f ≡ true → is_error v ≡ false → Some j ≡ as_number v → ((a : Area) → place_named at (child_of 1 (tree_at p id)) ≡ Cells a → ⊥) → GoesOn p ts at id (Second x) v fs (Step.Give (Value.Error Code.Ref)) fs
line_no_cells p ts at id f x v j fs c l n h k = ends p ts at (tree_at p id) (frame_plan ts at (tree_at p id) (Second x) v) (frame_left at (tree_at p id) (Second x)) fs Code.Ref (second_at p ts at id f x v c l n ∙ ap (λ z. if_number z (λ j. if_cells (place_named at (child_of 1 (tree_at p id))) (λ r. if_up_to (across f r) j (λ m. lookup_from ts f x m 0 r)))) (sym h) ∙ go (place_named at (child_of 1 (tree_at p id))) k) (some_left at (tree_at p id) f (Second x) c)
  where
    go : (o : Place) → ((a : Area) → o ≡ Cells a → ⊥) → if_cells o (λ r. if_up_to (across f r) j (λ m. lookup_from ts f x m 0 r)) ≡ fails Code.Ref
    go (Cells a) k = absurd (k a refl)
    go Bad k = refl
    go Nowhere k = refl

pub line_outside : (p : Trees) (ts : Texts) (at : Addr) (id : ExprId) (f : Fun) (x v : Value) (j : ℤ) (r : Area) (fs : List Frame) → root_of (tree_at p id) ≡ Node.Call f → is_lookup f ≡ true → is_error v ≡ false → Some j ≡ as_number v → Cells r ≡ place_named at (child_of 1 (tree_at p id)) → None ≡ index_below (across f r) j → GoesOn p ts at id (Second x) v fs (Step.Give (Value.Error Code.Ref)) fs
line_outside p ts at id f x v j r fs c l n h k e = ends p ts at (tree_at p id) (frame_plan ts at (tree_at p id) (Second x) v) (frame_left at (tree_at p id) (Second x)) fs Code.Ref
    (second_at p ts at id f x v c l n ∙ (λ i. if_number (sym h i) (λ j. if_cells (sym k i) (λ r. if_up_to (across f r) j (λ m. lookup_from ts f x m 0 r)))) ∙ up_to_none (across f r) j (λ m. lookup_from ts f x m 0 r) e)
    (some_left at (tree_at p id) f (Second x) c)

second_left : (at : Addr) (e : Expr) (f : Fun) (x : Value) (r : Area) → root_of e ≡ Node.Call f → is_lookup f ≡ true → Cells r ≡ place_named at (child_of 1 e) → frame_left at e (Second x) ≡ 2 + 2 * span (Cells r)
second_left at (Expr.Call Fun.VLookup args) f x r c l h = ap (λ z. 2 + 2 * span z) (sym h)
second_left at (Expr.Call Fun.HLookup args) f x r c l h = ap (λ z. 2 + 2 * span z) (sym h)
second_left at (Expr.Call g args) f x r c l h = (let same : g ≡ f = cc in let no : is_lookup g ≡ true = ap is_lookup same ∙ l in absurd (cc))
second_left at e f x r c l h = absurd (cc)

pub range_is : (at : Addr) (e : Expr) (f : Fun) (r : Area) → root_of e ≡ Node.Call f → Cells r ≡ place_named at (child_of 1 e) → range_of at e ≡ Cells r
range_is at (Expr.Call g args) f r c h = sym h
range_is at e f r c h = absurd (cc)

pub line_goes : (p : Trees) (ts : Texts) (at : Addr) (id : ExprId) (f : Fun) (x v : Value) (j : ℤ) (r : Area) (m : ℕ) (fs : List Frame) (s : Step) (fs' : List Frame) → root_of (tree_at p id) ≡ Node.Call f → is_lookup f ≡ true → is_error v ≡ false → Some j ≡ as_number v → Cells r ≡ place_named at (child_of 1 (tree_at p id)) → Some m ≡ index_below (across f r) j → LookupGoesOn p ts at id f r x m 0 fs s fs' → GoesOn p ts at id (Second x) v fs s fs'
line_goes p ts at id f x v j r m fs s fs' c l n h k e g = goes_less p ts at (tree_at p id) (lookup_from ts f x m 0 r) (frame_plan ts at (tree_at p id) (Second x) v) (2 + 2 * (length (line_of f r) - 0)) (frame_left at (tree_at p id) (Second x)) fs s fs'
    (second_at p ts at id f x v c l n ∙ (λ i. if_number (sym h i) (λ j. if_cells (sym k i) (λ r. if_up_to (across f r) j (λ m. lookup_from ts f x m 0 r)))) ∙ up_to_some (across f r) j (λ m. lookup_from ts f x m 0 r) m e)
    (omega (arith, second_left at (tree_at p id) f x r c l k, line_span f r)) g

-- INDEX

pub index_goes : (p : Trees) (ts : Texts) (at : Addr) (id : ExprId) (x v : Value) (fs : List Frame) (s : Step) → root_of (tree_at p id) ≡ Node.Call Fun.Index → is_error v ≡ false → Does (index_in x v (place_named at (child_of 0 (tree_at p id)))) s → GoesOn p ts at id (Second x) v fs s fs
index_goes p ts at id x v fs s c n d = does p ts at (tree_at p id) (index_in x v (place_named at (child_of 0 (tree_at p id)))) (frame_plan ts at (tree_at p id) (Second x) v) (frame_left at (tree_at p id) (Second x)) fs s
    (goes_with p ts at id Fun.Index (Second x) v (λ args. index_in x v (place_named at (nth 0 args))) c (λ args. no_error v (λ w. index_in x w (place_named at (nth 0 args))) n) ∙ ap (λ z. index_in x v (place_named at z)) (sym (child_with (tree_at p id) Fun.Index 0 c)))
    (omega (arith, left_with at (tree_at p id) Fun.Index (Second x) c)) d

pub index_no_row : (x w : Value) (l : Place) → None ≡ as_number x → index_in x w l ≡ fails Code.Value
index_no_row x w l h = ap (λ z. if_number z (λ i. if_number (as_number w) (λ j. if_cells l (λ r. if_up_to (height r) i (λ m. if_up_to (width r) j (λ n. Demand (cell_of r m n) Give)))))) (sym h)

both_numbers : (i j : ℤ) (x w : Value) (l : Place) → Some i ≡ as_number x → Some j ≡ as_number w → index_in x w l ≡ if_cells l (λ r. if_up_to (height r) i (λ m. if_up_to (width r) j (λ n. Demand (cell_of r m n) Give)))
both_numbers i j x w l h k = (λ z. if_number (sym h z) (λ i. if_number (sym k z) (λ j. if_cells l (λ r. if_up_to (height r) i (λ m. if_up_to (width r) j (λ n. Demand (cell_of r m n) Give))))))

pub index_no_column : (i : ℤ) (x w : Value) (l : Place) → Some i ≡ as_number x → None ≡ as_number w → index_in x w l ≡ fails Code.Value
index_no_column i x w l h k = (λ z. if_number (sym h z) (λ i. if_number (sym k z) (λ j. if_cells l (λ r. if_up_to (height r) i (λ m. if_up_to (width r) j (λ n. Demand (cell_of r m n) Give))))))

pub index_no_cells : (i j : ℤ) (x w : Value) (l : Place) → Some i ≡ as_number x → Some j ≡ as_number w → ((a : Area) → l ≡ Cells a → ⊥) → index_in x w l ≡ fails Code.Ref
index_no_cells i j x w l h k n = both_numbers i j x w l h k ∙ go l n
  where
    go : (l : Place) → ((a : Area) → l ≡ Cells a → ⊥) → if_cells l (λ r. if_up_to (height r) i (λ m. if_up_to (width r) j (λ n. Demand (cell_of r m n) Give))) ≡ fails Code.Ref
    go (Cells a) n = absurd (n a refl)
    go Bad n = refl
    go Nowhere n = refl

pub index_row_outside : (i j : ℤ) (x w : Value) (l : Place) (r : Area) → Some i ≡ as_number x → Some j ≡ as_number w → Cells r ≡ l → None ≡ index_below (height r) i → index_in x w l ≡ fails Code.Ref
index_row_outside i j x w l r h k e n = both_numbers i j x w l h k ∙ ap (λ z. if_cells z (λ r. if_up_to (height r) i (λ m. if_up_to (width r) j (λ n. Demand (cell_of r m n) Give)))) (sym e) ∙ up_to_none (height r) i (λ m. if_up_to (width r) j (λ n. Demand (cell_of r m n) Give)) n

pub index_column_outside : (i j : ℤ) (x w : Value) (l : Place) (r : Area) (m : ℕ) → Some i ≡ as_number x → Some j ≡ as_number w → Cells r ≡ l → Some m ≡ index_below (height r) i → None ≡ index_below (width r) j → index_in x w l ≡ fails Code.Ref
index_column_outside i j x w l r m h k e y n = both_numbers i j x w l h k ∙ ap (λ z. if_cells z (λ r. if_up_to (height r) i (λ m. if_up_to (width r) j (λ n. Demand (cell_of r m n) Give)))) (sym e) ∙ up_to_some (height r) i (λ m. if_up_to (width r) j (λ n. Demand (cell_of r m n) Give)) m y ∙ up_to_none (width r) j (λ n. Demand (cell_of r m n) Give) n

pub index_found : (i j : ℤ) (x w : Value) (l : Place) (r : Area) (m n : ℕ) → Some i ≡ as_number x → Some j ≡ as_number w → Cells r ≡ l → Some m ≡ index_below (height r) i → Some n ≡ index_below (width r) j → index_in x w l ≡ Demand (cell_of r m n) Give
index_found i j x w l r m n h k e y z = both_numbers i j x w l h k ∙ ap (λ z. if_cells z (λ r. if_up_to (height r) i (λ m. if_up_to (width r) j (λ n. Demand (cell_of r m n) Give)))) (sym e) ∙ up_to_some (height r) i (λ m. if_up_to (width r) j (λ n. Demand (cell_of r m n) Give)) m y ∙ up_to_some (width r) j (λ n. Demand (cell_of r m n) Give) n z

-- CHOOSE

drop_first : (ts : Texts) (at : Addr) (m : ℕ) (args : Exprs) → value_at m (drop 1 (arguments ts at args)) ≡ plan_or (fails Code.Value) ts at (nth (m + 1) args)
drop_first ts at m End = refl
drop_first ts at m (More a rest) = value_at_is ts at m rest ∙ ap (λ z. plan_or (fails Code.Value) ts at (nth z (More a rest))) (plus_one m)

choose_is : (ts : Texts) (at : Addr) (v : Value) (n : ℤ) (args : Exprs) → is_error v ≡ false → Some n ≡ as_number v → frame_plan ts at (Expr.Call Fun.Choose args) First v ≡ chosen (from_one n) (drop 1 (arguments ts at args))
choose_is ts at v n args e h = no_error v (λ u. if_number (as_number u) (λ n. chosen (from_one n) (drop 1 (arguments ts at args)))) e ∙ ap (λ z. if_number z (λ n. chosen (from_one n) (drop 1 (arguments ts at args)))) (sym h)

one_some : (most : ℕ) (n : ℤ) (m : ℕ) → Some m ≡ index_below most n → from_one n ≡ Some m
one_some most (pos zero) m h = absurd (cc)
one_some most (negsuc k) m h = absurd (cc)
one_some most (pos (suc k)) m h = go (nat_lt k most) h
  where
    go : (b : Bool) → Some m ≡ cond b (Some k) None → Some k ≡ Some m
    go true h = sym h
    go false h = absurd (cc)

pub choose_plan_is : (ts : Texts) (at : Addr) (v : Value) (n : ℤ) (most m : ℕ) (args : Exprs) → is_error v ≡ false → Some n ≡ as_number v → Some m ≡ index_below most n → frame_plan ts at (Expr.Call Fun.Choose args) First v ≡ plan_or (fails Code.Value) ts at (nth (m + 1) args)
choose_plan_is ts at v n most m args e h k = choose_is ts at v n args e h ∙ ap (λ z. chosen z (drop 1 (arguments ts at args))) (one_some most n m k) ∙ drop_first ts at m args

pub choose_no_number : (ts : Texts) (at : Addr) (v : Value) (args : Exprs) → is_error v ≡ false → None ≡ as_number v → frame_plan ts at (Expr.Call Fun.Choose args) First v ≡ fails Code.Value
choose_no_number ts at v args e h = no_error v (λ u. if_number (as_number u) (λ n. chosen (from_one n) (drop 1 (arguments ts at args)))) e ∙ ap (λ z. if_number z (λ n. chosen (from_one n) (drop 1 (arguments ts at args)))) (sym h)

pub choose_outside : (p : Trees) (ts : Texts) (at : Addr) (id : ExprId) (limit d : ℕ) (v : Value) (n : ℤ) (fs : List Frame) → root_of (tree_at p id) ≡ Node.Call Fun.Choose → Holds limit d (tree_at p id) → is_error v ≡ false → Some n ≡ as_number v → None ≡ index_below 511 n → GoesOn p ts at id First v fs (Step.Give (Value.Error Code.Value)) fs
choose_outside p ts at id limit d v n fs c m e h k = ends p ts at (tree_at p id) (frame_plan ts at (tree_at p id) First v) (frame_left at (tree_at p id) First) fs Code.Value
    (goes_with p ts at id Fun.Choose First v (λ args. chosen (from_one n) (drop 1 (arguments ts at args))) c (λ args. choose_is ts at v n args e h) ∙ go n k)
    (some_left at (tree_at p id) Fun.Choose First c)
  where
    far : (k : ℕ) (o : Option Expr) → 511 ≤ k → nth (k + 1) (arguments_of (tree_at p id)) ≡ o → plan_or (fails Code.Value) ts at o ≡ fails Code.Value
    far k None l h = refl
    far k (Some a) l h = (let few : k + 1 < 512 = few_children limit d (k + 1) (tree_at p id) a (child_with (tree_at p id) Fun.Choose (k + 1) c ∙ h) m in absurd (omega arith))

    lt_or_le : (i n : ℕ) → (i < n) ⊎ (n ≤ i)
    lt_or_le i n = grind arith

    beyond : (k : ℕ) → None ≡ cond (nat_lt k 511) (Some k) None → 511 ≤ k
    beyond k h = ⊎_elim (λ (l : k < 511). (let t : nat_lt k 511 ≡ true = lt-ltb k 511 l in let no : None ≡ Some k = h ∙ ap (λ z. cond z (Some k) None) t in absurd (cc))) (λ (l : 511 ≤ k). l) (lt_or_le k 511)

    go : (n : ℤ) → None ≡ index_below 511 n → chosen (from_one n) (drop 1 (arguments ts at (arguments_of (tree_at p id)))) ≡ fails Code.Value
    go (pos zero) h = refl
    go (negsuc k) h = refl
    go (pos (suc k)) h = drop_first ts at k (arguments_of (tree_at p id)) ∙ far k (nth (k + 1) (arguments_of (tree_at p id))) (beyond k h) refl

-- the number of a cell of a line is small
pub line_few : (f : Fun) (r : Area) → IsArea r → length (line_of f r) ≤ 65536
unfolding height width
line_few Fun.HLookup r a = (let l : length (row_of r 0) ≡ width r = length-first_row r in omega (arith, a.left_from, a.left_to, a.right_to))
line_few f r a = (let l : length (column_of r 0) ≡ height r = length-column r in omega (arith, a.top_from, a.top_to, a.bottom_to))

pub lookup_few : (at : Addr) (e : Expr) (f : Fun) (r : Area) (m n : ℕ) → root_of e ≡ Node.Call f → IsArea r → Cells r ≡ place_named at (child_of 1 e) → HasLine (fun_of e) m n (range_of at e) → n < 65536
lookup_few at e f r m n c a h l = (let fits : HasLine (fun_of e) m n (Cells r) = subst (HasLine (fun_of e) m n) (range_is at e f r c h) l in omega (arith, fits.1, line_few (fun_of e) r a))

pub first_is_two : (ts : Texts) (at : Addr) (f : Fun) (v : Value) → (f ≡ Fun.If → ⊥) → (f ≡ Fun.Not → ⊥) → (f ≡ Fun.Choose → ⊥) → (f ≡ Fun.IfError → ⊥) → (f ≡ Fun.IsError → ⊥) → (f ≡ Fun.Abs → ⊥) → (f ≡ Fun.Match → ⊥) → (f ≡ Fun.Len → ⊥) → (args : Exprs) → call_first ts at f args v ≡ first_of_two ts at f args v
first_is_two ts at Fun.If v a b c d e g h l args = absurd (a refl)
first_is_two ts at Fun.Not v a b c d e g h l args = absurd (b refl)
first_is_two ts at Fun.Choose v a b c d e g h l args = absurd (c refl)
first_is_two ts at Fun.IfError v a b c d e g h l args = absurd (d refl)
first_is_two ts at Fun.IsError v a b c d e g h l args = absurd (e refl)
first_is_two ts at Fun.Abs v a b c d e g h l args = absurd (g refl)
first_is_two ts at Fun.Match v a b c d e g h l args = absurd (h refl)
first_is_two ts at Fun.Len v a b c d e g h l args = absurd (l refl)
first_is_two ts at f v a b c d e g h l args = refl
