-- Arguments and operands by number.
use Rattle.std.proofs.Common.{◌≡◌, ℕ, zero, suc, ◌+◌, ◌*◌, ◌<◌, ◌≤◌, max, Some, None, [], ◌∷◌, length, drop, refl, ap, subst, arith}
use Rattle.cell_values.specs.declared.address.Addr.{Addr}
use Rattle.cell_values.specs.Texts.{Texts}
use Rattle.formula_trees.specs.Expr.{Expr, Exprs, End, More}
use Rattle.formula_trees.specs.Mentions.{place_of}
use Rattle.formula_trees.specs.Sound.{nodes, nodes_of}
use Rattle.demand_spec.specs.Formula.{Argument, fails, value_at, plan, arguments}
use Rattle.cell_values.specs.declared.values.Code.{Code}
use Rattle.formula_trees.specs.TextNumbers.{AllTextsBelow}
use Rattle.shared_expressions.specs.Trees.{nth, child_of, depth, depth_all}
use Rattle.formula_eval.specs.Machine.{span, cost, costs, costs_from, plan_or, IsCovered, AreCovered, Holds, IsMeant}

abbrev pub argument : Texts → Addr → Expr → Argument
argument ts at e = record { value = plan ts at e; place = place_of at e }

pub plus_one : (k : ℕ) → suc k ≡ k + 1
plus_one k = omega arith

pub arguments_more : (ts : Texts) (at : Addr) (k : ℕ) (args : Exprs) (e : Expr) → nth k args ≡ Some e → drop k (arguments ts at args) ≡ argument ts at e ∷ drop (k + 1) (arguments ts at args)
arguments_more ts at k args e h = subst (λ z. drop k (arguments ts at args) ≡ argument ts at e ∷ drop z (arguments ts at args)) (plus_one k) (go k args h)
  where
    go : (k : ℕ) (args : Exprs) → nth k args ≡ Some e → drop k (arguments ts at args) ≡ argument ts at e ∷ drop (suc k) (arguments ts at args)
    go k End h = cc
    go zero (More a rest) h = (let same : a ≡ e = cc in ap (λ z. argument ts at z ∷ arguments ts at rest) same)
    go (suc k) (More a rest) h = go k rest h

pub arguments_end : (ts : Texts) (at : Addr) (k : ℕ) (args : Exprs) → nth k args ≡ None → drop k (arguments ts at args) ≡ []
arguments_end ts at zero End h = refl
arguments_end ts at (suc k) End h = refl
arguments_end ts at zero (More a rest) h = cc
arguments_end ts at (suc k) (More a rest) h = arguments_end ts at k rest h

-- CHOOSE takes the argument with a number
pub value_at_is : (ts : Texts) (at : Addr) (n : ℕ) (args : Exprs) → value_at n (arguments ts at args) ≡ plan_or (fails Code.Value) ts at (nth n args)
value_at_is ts at n End = refl
value_at_is ts at zero (More a rest) = refl
value_at_is ts at (suc n) (More a rest) = value_at_is ts at n rest

pub costs_more : (at : Addr) (k : ℕ) (args : Exprs) (e : Expr) → nth k args ≡ Some e → costs_from at k args ≡ (2 + (cost at e + 2 * span (place_of at e))) + costs_from at (k + 1) args
costs_more at k args e h = subst (λ z. costs_from at k args ≡ (2 + (cost at e + 2 * span (place_of at e))) + costs_from at z args) (plus_one k) (go k args h)
  where
    zero_is : (args : Exprs) → costs at args ≡ costs_from at zero args
    zero_is End = refl
    zero_is (More a rest) = refl

    go : (k : ℕ) (args : Exprs) → nth k args ≡ Some e → costs_from at k args ≡ (2 + (cost at e + 2 * span (place_of at e))) + costs_from at (suc k) args
    go k End h = cc
    go zero (More a rest) h = (let same : a ≡ e = cc in (λ i. (2 + (cost at (same i) + 2 * span (place_of at (same i)))) + zero_is rest i))
    go (suc k) (More a rest) h = go k rest h

pub costs_first : (at : Addr) (args : Exprs) → costs at args ≡ costs_from at 0 args
costs_first at End = refl
costs_first at (More a rest) = refl

depth_nth : (k : ℕ) (args : Exprs) (e : Expr) → nth k args ≡ Some e → depth e ≤ depth_all args
depth_nth k End e h = cc
depth_nth zero (More a rest) e h = (let same : a ≡ e = cc in subst (λ z. depth z ≤ max (depth a) (depth_all rest)) same (omega arith))
depth_nth (suc k) (More a rest) e h = omega (arith, depth_nth k rest e h)

covered_nth : (k : ℕ) (args : Exprs) (e : Expr) → nth k args ≡ Some e → AreCovered args → IsCovered e
covered_nth k End e h c = cc
covered_nth zero (More a rest) e h c = (let same : a ≡ e = cc in subst IsCovered same c.0)
covered_nth (suc k) (More a rest) e h c = covered_nth k rest e h c.1

nodes_nth : (k : ℕ) (args : Exprs) (e : Expr) → nth k args ≡ Some e → nodes e ≤ nodes_of args
nodes_nth k End e h = cc
nodes_nth zero (More a rest) e h = (let same : a ≡ e = cc in subst (λ z. nodes z ≤ nodes a + nodes_of rest) same (omega arith))
nodes_nth (suc k) (More a rest) e h = omega (arith, nodes_nth k rest e h)

nodes_above : (e : Expr) → 0 < nodes e
nodes_above (Expr.Number n) = omega arith
nodes_above (Expr.Text n) = omega arith
nodes_above (Expr.Truth n) = omega arith
nodes_above (Expr.Ref n) = omega arith
nodes_above (Expr.Range n m) = omega arith
nodes_above Expr.RefError = omega arith
nodes_above (Expr.Unary s a) = omega arith
nodes_above (Expr.Binary o a b) = omega arith
nodes_above (Expr.Call f args) = omega arith

few_nth : (k : ℕ) (args : Exprs) (e : Expr) → nth k args ≡ Some e → k < nodes_of args
few_nth k End e h = cc
few_nth zero (More a rest) e h = omega (arith, nodes_above a)
few_nth (suc k) (More a rest) e h = omega (arith, nodes_above a, few_nth k rest e h)

-- arguments have small numbers
pub few_children : (limit n k : ℕ) (e a : Expr) → child_of k e ≡ Some a → Holds limit n e → k < 512
few_children limit n k (Expr.Call f args) a h m = omega (arith, m.small, few_nth k args a h)
few_children limit n zero e a h m = omega arith
few_children limit n (suc zero) e a h m = omega arith
few_children limit n (suc (suc k)) (Expr.Unary s x) a h m = absurd (cc)
few_children limit n (suc (suc k)) (Expr.Binary o x y) a h m = absurd (cc)
few_children limit n (suc (suc k)) e a h m = absurd (cc)

-- an operand or argument over one frame more
pub holds_child : (limit n k : ℕ) (e a : Expr) → child_of k e ≡ Some a → Holds limit n e → Holds limit (suc n) a
holds_child limit n k (Expr.Call f args) a h m = (let d : depth a ≤ depth_all args = depth_nth k args a h in record { deep = omega (arith, m.deep); covered = covered_nth k args a h m.covered.1; small = omega (arith, m.small, nodes_nth k args a h) })
holds_child limit n zero (Expr.Unary s x) a h m = (let same : x ≡ a = cc in subst (Holds limit (suc n)) same (record { deep = omega (arith, m.deep); covered = m.covered; small = omega (arith, m.small) }))
holds_child limit n zero (Expr.Binary o x y) a h m = (let same : x ≡ a = cc in subst (Holds limit (suc n)) same (record { deep = omega (arith, m.deep); covered = m.covered.0; small = omega (arith, m.small) }))
holds_child limit n (suc k) (Expr.Unary s x) a h m = absurd (cc)
holds_child limit n (suc zero) (Expr.Binary o x y) a h m = (let same : y ≡ a = cc in subst (Holds limit (suc n)) same (record { deep = omega (arith, m.deep); covered = m.covered.1; small = omega (arith, m.small) }))
holds_child limit n (suc (suc k)) (Expr.Binary o x y) a h m = absurd (cc)
holds_child limit n k e a h m = absurd (cc)

-- the same over as many frames
pub holds_instead : (limit n k : ℕ) (e a : Expr) → child_of k e ≡ Some a → Holds limit n e → Holds limit n a
holds_instead limit n k e a h m = (let c = holds_child limit n k e a h m in record { deep = omega (arith, c.deep); covered = c.covered; small = c.small })

meant_nth : (ts : Texts) (k : ℕ) (args : Exprs) (e : Expr) → nth k args ≡ Some e → AllTextsBelow (λ i. i < length ts) args → IsMeant ts e
meant_nth ts k End e h c = cc
meant_nth ts zero (More a rest) e h c = (let same : a ≡ e = cc in subst (IsMeant ts) same c.0)
meant_nth ts (suc k) (More a rest) e h c = meant_nth ts k rest e h c.1

pub meant_child : (ts : Texts) (k : ℕ) (e a : Expr) → child_of k e ≡ Some a → IsMeant ts e → IsMeant ts a
meant_child ts k (Expr.Call f args) a h m = meant_nth ts k args a h m
meant_child ts zero (Expr.Unary s x) a h m = (let same : x ≡ a = cc in subst (IsMeant ts) same m)
meant_child ts zero (Expr.Binary o x y) a h m = (let same : x ≡ a = cc in subst (IsMeant ts) same m.0)
meant_child ts (suc k) (Expr.Unary s x) a h m = absurd (cc)
meant_child ts (suc zero) (Expr.Binary o x y) a h m = (let same : y ≡ a = cc in subst (IsMeant ts) same m.1)
meant_child ts (suc (suc k)) (Expr.Binary o x y) a h m = absurd (cc)
meant_child ts k e a h m = absurd (cc)

pub depth_above : (e : Expr) → 0 < depth e
depth_above (Expr.Number n) = omega arith
depth_above (Expr.Text n) = omega arith
depth_above (Expr.Truth n) = omega arith
depth_above (Expr.Ref n) = omega arith
depth_above (Expr.Range n m) = omega arith
depth_above Expr.RefError = omega arith
depth_above (Expr.Unary s a) = omega arith
depth_above (Expr.Binary o a b) = omega arith
depth_above (Expr.Call f args) = omega arith

pub depth_over : (k : ℕ) (e a : Expr) → child_of k e ≡ Some a → 1 < depth e
depth_over k (Expr.Call f args) a h = omega (arith, depth_nth k args a h, depth_above a)
depth_over k (Expr.Unary s x) a h = omega (arith, depth_above x)
depth_over k (Expr.Binary o x y) a h = omega (arith, depth_above x)
depth_over k (Expr.Number n) a h = absurd (cc)
depth_over k (Expr.Text n) a h = absurd (cc)
depth_over k (Expr.Truth n) a h = absurd (cc)
depth_over k (Expr.Ref n) a h = absurd (cc)
depth_over k (Expr.Range n m) a h = absurd (cc)
depth_over k Expr.RefError a h = absurd (cc)
