-- IsOpen evaluations along a stack.
use Rattle.std.proofs.Common.{◌≡◌, ◌+◌, ◌≤◌, inl, inr, ⊎_elim, Bool, true, false, cond, List, [], ◌∷◌, length, refl, sym, ap, ◌∙◌, subst, Option, Some, None, arith}
use Rattle.cell_values.specs.declared.address.Addr.{Addr}
use Rattle.cell_values.specs.declared.values.Value.{Value}
use Rattle.formula_trees.specs.Expr.{Expr, Exprs, End, More}
use Rattle.formula_trees.specs.Sound.{nodes, nodes_of}
use Rattle.demand_spec.specs.declared.Asked.{Asked}
use Rattle.demand_spec.specs.declared.Asked.TheVariants.{Val, Needs}
use Rattle.demand_spec.specs.Book.{Book, Known, look, look_at, formula_at, own}
use Rattle.demand_spec.specs.Laws.{PartOf, In, Distinct}
use Rattle.shared_expressions.specs.Trees.{Trees, depth, depth_all}
use Rattle.workbook_core.specs.Books.{SharedBook}
use Rattle.formula_eval.specs.declared.work.Frame.{Frame}
use Rattle.formula_eval.specs.Stacks.{Stack, IsShut, dropped}
use Rattle.formula_eval.specs.Laws.{IsKept, StandsOn, StandsReady, DropsToBase}
use Rattle.demand_stack.specs.Open.{depth_of, depths, plan_of, AreOpen, IsReady, LiesOn, AnswersOn, is_need, tree_of, tree_or}

-- an evaluation stays open where more is known

pub evals_on : StandsOn → (p : Trees) (b : Book) (l m : Addr → Asked) (cs : List Addr) (fs : List Frame) → IsKept l m → AreOpen p b l cs fs → AreOpen p b m cs fs
evals_on on p b l m [] fs k h = h
evals_on on p b l m (a ∷ cs) fs k h = (
  h.0,
  record { needs = h.1.needs; stands = on p b.texts l m (length h.0 + depth_of b a) a (plan_of b a) h.1.needs fs h.0 k h.1.stands },
  evals_on on p b l m cs h.0 k h.2,
)

look_kept : (o : Option Expr) (u : Value) (x y : Option Value) (a : Addr) (v : Value) → ((w : Value) → x ≡ Some w → y ≡ Some w) → look_at o u x a ≡ Val v → look_at o u y a ≡ Val v
look_kept None u x y a v f h = h
look_kept (Some t) u None y a v f h = absurd (cc)
look_kept (Some t) u (Some w) y a v f h = rw (f w refl) h

pub kept_part : (b : Book) (e f : Known) → PartOf e f → IsKept (look b e) (look b f)
kept_part b e f h a v = look_kept (formula_at b a) (own b a) (e a) (f a) a v (h a)

-- the frames that are open are no more than the depths

pub evals_few : StandsReady → (p : Trees) (b : Book) (l : Addr → Asked) (cs : List Addr) (fs : List Frame) → AreOpen p b l cs fs → length fs ≤ depths b cs
evals_few ready p b l [] fs h = subst (λ (z : List Frame). length z ≤ 0) (sym h) (omega arith)
evals_few ready p b l (a ∷ cs) fs h =
    let few = evals_few ready p b l cs h.0 h.2 in
    let one = ready p b.texts l (length h.0 + depth_of b a) (length h.0 + depth_of b a) a (plan_of b a) h.1.needs fs h.0 h.1.stands (omega arith) in
    omega (arith, one.2)

pub evals_shut : StandsReady → (p : Trees) (b : Book) (l : Addr → Asked) (cs : List Addr) (fs : List Frame) → AreOpen p b l cs fs → IsShut fs
evals_shut ready p b l [] fs h = subst IsShut (sym h) tt
evals_shut ready p b l (a ∷ cs) fs h = (ready p b.texts l (length h.0 + depth_of b a) (length h.0 + depth_of b a) a (plan_of b a) h.1.needs fs h.0 h.1.stands (omega arith)).0

-- with the cell on top, or without it
abbrev pub on_top : Bool → Addr → List Addr → List Addr
on_top t a cs = cond t (a ∷ cs) cs

-- the top cell may be asked
pub top_ready : StandsReady → (w : SharedBook) (l : Addr → Asked) (a : Addr) (t : Bool) (cs : List Addr) (s : Stack) → AreOpen w.pool w.book l (on_top t a cs) s.frames → depths w.book (a ∷ cs) ≤ s.room → IsReady w a t s
top_ready ready w l a true cs s h r =
    let few = evals_few ready w.pool w.book l cs h.0 h.2 in
    (ready w.pool w.book.texts l (length h.0 + depth_of w.book a) s.room a (plan_of w.book a) h.1.needs s.frames h.0 h.1.stands (omega arith)).1
top_ready ready w l a false cs s h r = (
  evals_shut ready w.pool w.book l cs s.frames h,
  (let few = evals_few ready w.pool w.book l cs s.frames h in omega arith),
)

-- what lies below the top cell's evaluation
pub record Rests (p : Trees) (b : Book) (l : Addr → Asked) (a : Addr) (t : Bool) (cs : List Addr) (fs : List Frame) : Type 0 where
  pub base : List Frame
  pub lies : LiesOn p b l a t fs base
  pub below : AreOpen p b l cs base

pub rests : (p : Trees) (b : Book) (l : Addr → Asked) (a : Addr) (t : Bool) (cs : List Addr) (fs : List Frame) → AreOpen p b l (on_top t a cs) fs → Rests p b l a t cs fs
rests p b l a true cs fs h = record { base = h.0; lies = h.1; below = h.2 }
rests p b l a false cs fs h = record { base = fs; lies = refl; below = h }

-- the top cell was asked
pub top_asked : (p : Trees) (b : Book) (l : Addr → Asked) (a : Addr) (cs : List Addr) (base : List Frame) (r : Asked) (fs : List Frame) → AreOpen p b l cs base → AnswersOn p b l a base r fs → AreOpen p b l (on_top (is_need r) a cs) fs
top_asked p b l a cs base (Val v) fs h k = subst (AreOpen p b l cs) (sym k.1) h
top_asked p b l a cs base (Needs x) fs h k = (base, record { needs = x; stands = k.2 }, h)

-- the top cell's evaluation is abandoned
pub top_dropped : DropsToBase → (p : Trees) (b : Book) (l : Addr → Asked) (a : Addr) (cs : List Addr) (fs : List Frame) → AreOpen p b l (a ∷ cs) fs → AreOpen p b l cs (dropped fs)
top_dropped drops p b l a cs fs h = subst (AreOpen p b l cs) (sym (drops p b.texts l (length h.0 + depth_of b a) a (plan_of b a) h.1.needs fs h.0 h.1.stands)) h.2

-- distinct cells of a list are no deeper than all of it

record Without (b : Book) (x : Addr) (ys : List Addr) : Type 0 where
  left : List Addr
  less : depths b ys ≡ depth_of b x + depths b left
  still : (c : Addr) → In c ys → (c ≡ x → ⊥) → In c left

without : (b : Book) (x : Addr) (ys : List Addr) → In x ys → Without b x ys
without b x [] k = absurd k
without b x (y ∷ ys) (inl e) = record { left = ys; less = ap (λ z. depth_of b z + depths b ys) (sym e); still = λ c k n. ⊎_elim (λ (d : c ≡ y). absurd (n (d ∙ sym e))) (λ m. m) k }
without b x (y ∷ ys) (inr k) =
    let w = without b x ys k in
    record { left = y ∷ w.left; less = omega (arith, w.less); still = λ c m n. ⊎_elim (λ d. inl d) (λ q. inr (w.still c q n)) m }

-- cells with the same formulas have the same depths
pub same_depths : (b b' : Book) (cells : List Addr) → ((a : Addr) → In a cells → formula_at b' a ≡ formula_at b a) → depths b' cells ≡ depths b cells
unfolding tree_of
same_depths b b' [] h = refl
same_depths b b' (a ∷ cells) h = (let one = h a (inl refl) in let rest = same_depths b b' cells (λ c k. h c (inr k)) in λ i. depth (tree_or (one i)) + rest i)

pub few_depths : (b : Book) (xs ys : List Addr) → Distinct xs → ((c : Addr) → In c xs → In c ys) → depths b xs ≤ depths b ys
few_depths b [] ys d h = omega arith
few_depths b (x ∷ xs) ys d h =
    let w = without b x ys (h x (inl refl)) in
    let rest : depths b xs ≤ depths b w.left = few_depths b xs w.left d.1 (λ c k. w.still c (h c (inr k)) (λ e. d.0 (subst (λ z. In z xs) e k))) in
    omega (arith, w.less, rest)

-- a formula is no deeper than it has nodes

mutual
  pub depth_few : (e : Expr) → depth e ≤ nodes e
  depth_few (Expr.Unary s a) = omega (arith, depth_few a)
  depth_few (Expr.Binary o a b) = omega (arith, depth_few a, depth_few b)
  depth_few (Expr.Call f args) = omega (arith, depth_all_few args)
  depth_few (Expr.Number n) = omega arith
  depth_few (Expr.Text t) = omega arith
  depth_few (Expr.Truth b) = omega arith
  depth_few (Expr.Ref r) = omega arith
  depth_few (Expr.Range r s) = omega arith
  depth_few Expr.RefError = omega arith

  depth_all_few : (args : Exprs) → depth_all args ≤ nodes_of args
  depth_all_few End = omega arith
  depth_all_few (More a rest) = omega (arith, depth_few a, depth_all_few rest)
