-- `ask` as a plain recursion on the formula.
use Rattle.std.proofs.Common.{ℕ, zero, suc, pos, negsuc, nat_lt, not, ℤ, List, [], ◌∷◌, ◌≡◌, Bool, true, false, cond, Option, Some, None, Result, Ok, Err, refl, sym, ap, ◌∙◌, IsFalse}
use Rattle.cell_values.specs.declared.address.Addr.{Addr}
use Rattle.cell_values.specs.declared.address.Area.{Area}
use Rattle.cell_values.specs.declared.values.Code.{Code}
use Rattle.cell_values.specs.declared.values.Value.{Value}
use Rattle.cell_values.specs.Areas.{height, width, cell_of, row_of, column_of, walk}
use Rattle.cell_values.specs.Texts.{Texts}
use Rattle.formula_trees.specs.declared.tree.Fun.{Fun}
use Rattle.formula_trees.specs.declared.tree.Op.{Op}
use Rattle.formula_trees.specs.declared.tree.Sign.{Sign}
use Rattle.formula_trees.specs.Expr.{Expr, Exprs, Unary, Binary, Call, End, More}
use Rattle.formula_trees.specs.declared.place.Place.{Place}
use Rattle.formula_trees.specs.declared.place.Place.TheVariants.{Nowhere, Bad, Cells}
use Rattle.formula_trees.specs.Mentions.{place_of}
use Rattle.builtin_functions.specs.declared.operators.Op2.{Op2}
use Rattle.builtin_functions.specs.declared.operators.Sign2.{Sign2}
use Rattle.builtin_functions.specs.declared.folds.FoldKind.{FoldKind}
use Rattle.builtin_functions.specs.Tables.{table, sign_table, unary_value, binary_value, condition}
use Rattle.cell_values.specs.Values.{as_number, is_error}
use Rattle.builtin_functions.specs.Folds.{Total, taken}
use Rattle.demand_spec.specs.declared.Asked.{Asked}
use Rattle.demand_spec.specs.declared.Asked.TheVariants.{Val, Needs}
use Rattle.demand_spec.specs.Plan.{Plan, Give, Demand, after, run}
use Rattle.computed_text.specs.Computed.{joined, left_of, right_of, mid_of, length_of}
use Rattle.demand_spec.specs.Formula.{fails, unless_error, value_of, or_fail, condition_of, if_number, if_cells, if_up_to, and_plan, or_plan, from_one, chosen, go_on, fold_cells, fold_argument, fold_plan, is_found, search_plan, demand_of, operator_value, sign_value, value_at, plan, arguments}
use Rattle.demand_spec.specs.Book.{Book, Known, look, ask}
use Rattle.demand_spec.specs.Asks.{answer_of, ask_two, index_steps, match_steps, v_lookup_steps, h_lookup_steps, on_with, and_on, any_value, value_or_end, or_fails, condition_or_end, number_or_end, cells_or_end, up_to_or_end, found_or_end, if_error, argument_at, ask_argument, ask_chosen, fold_looks, fold_part, ask_fold, search_looks}
use Rattle.demand_spec.specs.Recursion.{LiteralGives, ReferenceGives}
use Rattle.demand_spec.proofs.Plans.{run-and_then}

-- the parts of plans

run-value_of : (l : Addr → Asked) (p : Plan) (f : Value → Plan) → run l (value_of p f) ≡ on_with (value_or_end (run l p)) (λ v. run l (f v))
run-value_of l p f = run-and_then l p (λ v. unless_error v f) ∙ go (run l p)
  where
    go : (r : Asked) → after r (λ v. run l (unless_error v f)) ≡ on_with (value_or_end r) (λ v. run l (f v))
    go (Needs x) = refl
    go (Val (Value.Error e)) = refl
    go (Val v) = refl

run-condition_of : (l : Addr → Asked) (p : Plan) (f : Bool → Plan) → run l (condition_of p f) ≡ on_with (condition_or_end (run l p)) (λ b. run l (f b))
run-condition_of l p f = run-and_then l p (λ v. or_fail (condition v) f) ∙ go (run l p)
  where
    by_condition : (r : Result Bool Code) → run l (or_fail r f) ≡ on_with (or_fails r) (λ b. run l (f b))
    by_condition (Ok q) = refl
    by_condition (Err c) = refl

    go : (r : Asked) → after r (λ v. run l (or_fail (condition v) f)) ≡ on_with (condition_or_end r) (λ b. run l (f b))
    go (Val v) = by_condition (condition v)
    go (Needs x) = refl

run-cond : (l : Addr → Asked) (b : Bool) (p q : Plan) → run l (cond b p q) ≡ cond b (run l p) (run l q)
run-cond l true p q = refl
run-cond l false p q = refl

run-if_number : (l : Addr → Asked) (o : Option ℤ) (f : ℤ → Plan) → run l (if_number o f) ≡ on_with (number_or_end o) (λ z. run l (f z))
run-if_number l (Some z) f = refl
run-if_number l None f = refl

run-if_cells : (l : Addr → Asked) (p : Place) (f : Area → Plan) → run l (if_cells p f) ≡ on_with (cells_or_end p) (λ r. run l (f r))
run-if_cells l (Cells r) f = refl
run-if_cells l Bad f = refl
run-if_cells l Nowhere f = refl

run-if_up_to : (l : Addr → Asked) (most : ℕ) (z : ℤ) (f : ℕ → Plan) → run l (if_up_to most z f) ≡ on_with (up_to_or_end most z) (λ n. run l (f n))
run-if_up_to l most (pos (suc n)) f = go (nat_lt n most)
  where
    go : (b : Bool) → run l (cond b (f n) (fails Code.Ref)) ≡ on_with (cond b (Ok n) (Err (Val (Value.Error Code.Ref)))) (λ n. run l (f n))
    go true = refl
    go false = refl
run-if_up_to l most (pos zero) f = refl
run-if_up_to l most (negsuc n) f = refl

run-demand : (l : Addr → Asked) (a : Addr) → run l (Demand a Give) ≡ l a
run-demand l a = go (l a)
  where
    go : (r : Asked) → after r (λ v. run l (Give v)) ≡ r
    go (Val v) = refl
    go (Needs x) = refl

-- the operators at values that are no errors
unary_is : (s : Sign2) (v : Value) → IsFalse (is_error v) → unary_value s v ≡ sign_table s v
unary_is s v h = ap (λ q. cond q v (sign_table s v)) h

pub binary_is : (ts : Texts) (o : Op2) (v w : Value) → IsFalse (is_error v) → IsFalse (is_error w) → binary_value ts o v w ≡ table ts o v w
binary_is ts o v w h k = ap (λ q. cond q v (cond (is_error w) w (table ts o v w))) h ∙ ap (λ q. cond q w (table ts o v w)) k

-- a value that is found is what a look gives
pub answer_any : (r : Asked) → answer_of (any_value r) ≡ r
answer_any (Val v) = refl
answer_any (Needs x) = refl

pub literal_gives : LiteralGives
literal_gives b e at = (λ n. refl, λ t. refl, λ q. refl, refl)

pub reference_gives : ReferenceGives
reference_gives b e at r = (λ a h. ap (λ o. run (look b e) (demand_of o)) h ∙ run-demand (look b e) a, λ h. ap (λ o. run (look b e) (demand_of o)) h)

pub ask_unary : (b : Book) (e : Known) (at : Addr) (s : Sign) (t : Expr) → ask b e at (Unary s t) ≡ on_with (value_or_end (ask b e at t)) (λ x. Val (sign_value s x))
ask_unary b e at s t = run-value_of (look b e) (plan b.texts at t) (λ x. Give (sign_value s x))

-- two values in turn, as an operator or a function of two takes them; and three
two_in_turn : (l : Addr → Asked) (p q : Plan) (f : Value → Value → Value) → run l (value_of p (λ x. value_of q (λ y. Give (f x y)))) ≡ on_with (value_or_end (run l p)) (λ x. on_with (value_or_end (run l q)) (λ y. Val (f x y)))
two_in_turn l p q f =
    run-value_of l p (λ x. value_of q (λ y. Give (f x y)))
    ∙ ap (on_with (value_or_end (run l p))) (λ i x. run-value_of l q (λ y. Give (f x y)) i)

three_in_turn : (l : Addr → Asked) (p q r : Plan) (f : Value → Value → Value → Value) → run l (value_of p (λ x. value_of q (λ y. value_of r (λ z. Give (f x y z))))) ≡ on_with (value_or_end (run l p)) (λ x. on_with (value_or_end (run l q)) (λ y. on_with (value_or_end (run l r)) (λ z. Val (f x y z))))
three_in_turn l p q r f =
    run-value_of l p (λ x. value_of q (λ y. value_of r (λ z. Give (f x y z))))
    ∙ ap (on_with (value_or_end (run l p))) (λ i x. two_in_turn l q r (f x) i)

pub ask_binary : (b : Book) (e : Known) (at : Addr) (o : Op) (t u : Expr) → ask b e at (Binary o t u) ≡ on_with (value_or_end (ask b e at t)) (λ x. on_with (value_or_end (ask b e at u)) (λ y. Val (operator_value b.texts o x y)))
ask_binary b e at o t u = two_in_turn (look b e) (plan b.texts at t) (plan b.texts at u) (operator_value b.texts o)

pub ask_mod : (b : Book) (e : Known) (at : Addr) (t u : Expr) → ask b e at (Call Fun.Mod (More t (More u End))) ≡ on_with (value_or_end (ask b e at t)) (λ x. on_with (value_or_end (ask b e at u)) (λ y. Val (table b.texts Op2.Mod x y)))
ask_mod b e at t u = two_in_turn (look b e) (plan b.texts at t) (plan b.texts at u) (table b.texts Op2.Mod)

pub ask_quotient : (b : Book) (e : Known) (at : Addr) (t u : Expr) → ask b e at (Call Fun.Quotient (More t (More u End))) ≡ on_with (value_or_end (ask b e at t)) (λ x. on_with (value_or_end (ask b e at u)) (λ y. Val (table b.texts Op2.Quotient x y)))
ask_quotient b e at t u = two_in_turn (look b e) (plan b.texts at t) (plan b.texts at u) (table b.texts Op2.Quotient)

pub ask_abs : (b : Book) (e : Known) (at : Addr) (t : Expr) → ask b e at (Call Fun.Abs (More t End)) ≡ on_with (value_or_end (ask b e at t)) (λ x. Val (sign_table Sign2.Abs x))
ask_abs b e at t = run-value_of (look b e) (plan b.texts at t) (λ x. Give (sign_table Sign2.Abs x))

-- computed texts

pub ask_left : (b : Book) (e : Known) (at : Addr) (t n : Expr) → ask b e at (Call Fun.Left (More t (More n End))) ≡ on_with (value_or_end (ask b e at t)) (λ x. on_with (value_or_end (ask b e at n)) (λ k. Val (left_of b.texts x k)))
ask_left b e at t n = two_in_turn (look b e) (plan b.texts at t) (plan b.texts at n) (left_of b.texts)

pub ask_left_one : (b : Book) (e : Known) (at : Addr) (t : Expr) → ask b e at (Call Fun.Left (More t End)) ≡ on_with (value_or_end (ask b e at t)) (λ x. Val (left_of b.texts x (Value.Number (pos 1))))
ask_left_one b e at t = two_in_turn (look b e) (plan b.texts at t) (Give (Value.Number (pos 1))) (left_of b.texts)

pub ask_right : (b : Book) (e : Known) (at : Addr) (t n : Expr) → ask b e at (Call Fun.Right (More t (More n End))) ≡ on_with (value_or_end (ask b e at t)) (λ x. on_with (value_or_end (ask b e at n)) (λ k. Val (right_of b.texts x k)))
ask_right b e at t n = two_in_turn (look b e) (plan b.texts at t) (plan b.texts at n) (right_of b.texts)

pub ask_right_one : (b : Book) (e : Known) (at : Addr) (t : Expr) → ask b e at (Call Fun.Right (More t End)) ≡ on_with (value_or_end (ask b e at t)) (λ x. Val (right_of b.texts x (Value.Number (pos 1))))
ask_right_one b e at t = two_in_turn (look b e) (plan b.texts at t) (Give (Value.Number (pos 1))) (right_of b.texts)

pub ask_mid : (b : Book) (e : Known) (at : Addr) (t s n : Expr) → ask b e at (Call Fun.Mid (More t (More s (More n End)))) ≡ on_with (value_or_end (ask b e at t)) (λ x. on_with (value_or_end (ask b e at s)) (λ i. on_with (value_or_end (ask b e at n)) (λ k. Val (mid_of b.texts x i k))))
ask_mid b e at t s n = three_in_turn (look b e) (plan b.texts at t) (plan b.texts at s) (plan b.texts at n) (mid_of b.texts)

pub ask_len : (b : Book) (e : Known) (at : Addr) (t : Expr) → ask b e at (Call Fun.Len (More t End)) ≡ on_with (value_or_end (ask b e at t)) (λ x. Val (length_of b.texts x))
ask_len b e at t = run-value_of (look b e) (plan b.texts at t) (λ x. Give (length_of b.texts x))

-- a condition, and then one of two plans
by_condition : (b : Book) (e : Known) (at : Addr) (t : Expr) (p q : Plan) → run (look b e) (condition_of (plan b.texts at t) (λ c. cond c p q)) ≡ on_with (condition_or_end (ask b e at t)) (λ c. cond c (run (look b e) p) (run (look b e) q))
by_condition b e at t p q =
    run-condition_of (look b e) (plan b.texts at t) (λ c. cond c p q)
    ∙ ap (on_with (condition_or_end (ask b e at t))) (λ i c. run-cond (look b e) c p q i)

pub ask_if_three : (b : Book) (e : Known) (at : Addr) (t u w : Expr) → ask b e at (Call Fun.If (More t (More u (More w End)))) ≡ on_with (condition_or_end (ask b e at t)) (λ c. cond c (ask b e at u) (ask b e at w))
ask_if_three b e at t u w = by_condition b e at t (plan b.texts at u) (plan b.texts at w)

pub ask_if_two : (b : Book) (e : Known) (at : Addr) (t u : Expr) → ask b e at (Call Fun.If (More t (More u End))) ≡ on_with (condition_or_end (ask b e at t)) (λ c. cond c (ask b e at u) (Val (Value.Bool false)))
ask_if_two b e at t u = by_condition b e at t (plan b.texts at u) (Give (Value.Bool false))

pub ask_and_more : (b : Book) (e : Known) (at : Addr) (t : Expr) (rest : Exprs) → ask b e at (Call Fun.And (More t rest)) ≡ on_with (condition_or_end (ask b e at t)) (λ c. cond c (ask b e at (Call Fun.And rest)) (Val (Value.Bool false)))
ask_and_more b e at t rest = by_condition b e at t (and_plan (arguments b.texts at rest)) (Give (Value.Bool false))

pub ask_or_more : (b : Book) (e : Known) (at : Addr) (t : Expr) (rest : Exprs) → ask b e at (Call Fun.Or (More t rest)) ≡ on_with (condition_or_end (ask b e at t)) (λ c. cond c (Val (Value.Bool true)) (ask b e at (Call Fun.Or rest)))
ask_or_more b e at t rest = by_condition b e at t (Give (Value.Bool true)) (or_plan (arguments b.texts at rest))

pub ask_not : (b : Book) (e : Known) (at : Addr) (t : Expr) → ask b e at (Call Fun.Not (More t End)) ≡ on_with (condition_or_end (ask b e at t)) (λ c. Val (Value.Bool (not c)))
ask_not b e at t = run-condition_of (look b e) (plan b.texts at t) (λ c. Give (Value.Bool (not c)))

pub ask_if_error : (b : Book) (e : Known) (at : Addr) (t u : Expr) → ask b e at (Call Fun.IfError (More t (More u End))) ≡ if_error (ask b e at t) (ask b e at u)
ask_if_error b e at t u = run-and_then (look b e) (plan b.texts at t) (λ v. cond (is_error v) (plan b.texts at u) (Give v)) ∙ go (ask b e at t)
  where
    go : (r : Asked) → after r (λ v. run (look b e) (cond (is_error v) (plan b.texts at u) (Give v))) ≡ if_error r (ask b e at u)
    go (Val v) = run-cond (look b e) (is_error v) (plan b.texts at u) (Give v)
    go (Needs x) = refl

pub ask_is_error : (b : Book) (e : Known) (at : Addr) (t : Expr) → ask b e at (Call Fun.IsError (More t End)) ≡ on_with (any_value (ask b e at t)) (λ v. Val (Value.Bool (is_error v)))
ask_is_error b e at t = run-and_then (look b e) (plan b.texts at t) (λ v. Give (Value.Bool (is_error v))) ∙ go (ask b e at t)
  where
    go : (r : Asked) → after r (λ v. Val (Value.Bool (is_error v))) ≡ on_with (any_value r) (λ v. Val (Value.Bool (is_error v)))
    go (Val v) = refl
    go (Needs x) = refl

-- the argument with a number
value_at_is : (b : Book) (e : Known) (at : Addr) (n : ℕ) (args : Exprs) → run (look b e) (value_at n (arguments b.texts at args)) ≡ ask_argument b e at (argument_at n args)
value_at_is b e at n End = refl
value_at_is b e at zero (More a rest) = refl
value_at_is b e at (suc n) (More a rest) = value_at_is b e at n rest

pub ask_choose : (b : Book) (e : Known) (at : Addr) (t : Expr) (rest : Exprs) → ask b e at (Call Fun.Choose (More t rest)) ≡ on_with (value_or_end (ask b e at t)) (λ v. on_with (number_or_end (as_number v)) (λ z. ask_chosen b e at (from_one z) rest))
ask_choose b e at t rest =
    run-value_of (look b e) (plan b.texts at t) (λ v. if_number (as_number v) (λ z. chosen (from_one z) (arguments b.texts at rest)))
    ∙ ap (on_with (value_or_end (ask b e at t))) (λ i v. by_number (as_number v) i)
  where
    by_chosen : (o : Option ℕ) → run (look b e) (chosen o (arguments b.texts at rest)) ≡ ask_chosen b e at o rest
    by_chosen (Some n) = value_at_is b e at n rest
    by_chosen None = refl

    by_number : (o : Option ℤ) → run (look b e) (if_number o (λ z. chosen (from_one z) (arguments b.texts at rest))) ≡ on_with (number_or_end o) (λ z. ask_chosen b e at (from_one z) rest)
    by_number (Some z) = by_chosen (from_one z)
    by_number None = refl

-- SUM, MIN, MAX, COUNT

run-fold_cells : (l : Addr → Asked) (k : FoldKind) (f : Total → Plan) (cs : List Addr) (t : Total) → run l (fold_cells k t cs f) ≡ on_with (fold_looks l k t cs) (λ u. run l (f u))
run-fold_cells l k f [] t = refl
run-fold_cells l k f (a ∷ cs) t = by_look (run-fold_cells l k f cs) (l a)
  where
    by_taken : ((u : Total) → run l (fold_cells k u cs f) ≡ on_with (fold_looks l k u cs) (λ u. run l (f u))) → (r : Result Total Code) → run l (go_on r (λ u. fold_cells k u cs f)) ≡ on_with (and_on (or_fails r) (λ u. fold_looks l k u cs)) (λ u. run l (f u))
    by_taken h (Ok u) = h u
    by_taken h (Err e) = refl

    by_look : ((u : Total) → run l (fold_cells k u cs f) ≡ on_with (fold_looks l k u cs) (λ u. run l (f u))) → (r : Asked) → after r (λ v. run l (go_on (taken k t true v) (λ u. fold_cells k u cs f))) ≡ on_with (and_on (any_value r) (λ v. and_on (or_fails (taken k t true v)) (λ u. fold_looks l k u cs))) (λ u. run l (f u))
    by_look h (Val v) = by_taken h (taken k t true v)
    by_look h (Needs x) = refl

pub ask_fold_more : (b : Book) (e : Known) (at : Addr) (k : FoldKind) (t : Total) (x : Expr) (rest : Exprs) → ask_fold b e at k t (More x rest) ≡ on_with (fold_part (look b e) k t (place_of at x) (ask b e at x)) (λ u. ask_fold b e at k u rest)
ask_fold_more b e at k t x rest = by_place (place_of at x)
  where
    by_taken : (f : Total → Plan) (r : Result Total Code) → run (look b e) (go_on r f) ≡ on_with (or_fails r) (λ u. run (look b e) (f u))
    by_taken f (Ok u) = refl
    by_taken f (Err c) = refl

    by_answer : (f : Total → Plan) (r : Asked) → after r (λ v. run (look b e) (go_on (taken k t false v) f)) ≡ on_with (and_on (any_value r) (λ v. or_fails (taken k t false v))) (λ u. run (look b e) (f u))
    by_answer f (Val v) = by_taken f (taken k t false v)
    by_answer f (Needs y) = refl

    by_place : (p : Place) → run (look b e) (fold_argument k t p (plan b.texts at x) (λ u. fold_plan k u (arguments b.texts at rest))) ≡ on_with (fold_part (look b e) k t p (ask b e at x)) (λ u. ask_fold b e at k u rest)
    by_place (Cells r) = run-fold_cells (look b e) k (λ u. fold_plan k u (arguments b.texts at rest)) (walk r) t
    by_place Bad = refl
    by_place Nowhere = run-and_then (look b e) (plan b.texts at x) (λ v. go_on (taken k t false v) (λ u. fold_plan k u (arguments b.texts at rest))) ∙ by_answer (λ u. fold_plan k u (arguments b.texts at rest)) (ask b e at x)

-- INDEX, MATCH, VLOOKUP, HLOOKUP: a step of the plan, and what follows it

then_value : (l : Addr → Asked) (p : Plan) (f : Value → Plan) (g : Value → Asked) → ((v : Value) → run l (f v) ≡ g v) → run l (value_of p f) ≡ on_with (value_or_end (run l p)) g
then_value l p f g h = run-value_of l p f ∙ ap (on_with (value_or_end (run l p))) (λ i v. h v i)

then_number : (l : Addr → Asked) (o : Option ℤ) (f : ℤ → Plan) (g : ℤ → Asked) → ((z : ℤ) → run l (f z) ≡ g z) → run l (if_number o f) ≡ on_with (number_or_end o) g
then_number l o f g h = run-if_number l o f ∙ ap (on_with (number_or_end o)) (λ i z. h z i)

then_cells : (l : Addr → Asked) (p : Place) (f : Area → Plan) (g : Area → Asked) → ((r : Area) → run l (f r) ≡ g r) → run l (if_cells p f) ≡ on_with (cells_or_end p) g
then_cells l p f g h = run-if_cells l p f ∙ ap (on_with (cells_or_end p)) (λ i r. h r i)

then_up_to : (l : Addr → Asked) (most : ℕ) (z : ℤ) (f : ℕ → Plan) (g : ℕ → Asked) → ((n : ℕ) → run l (f n) ≡ g n) → run l (if_up_to most z f) ≡ on_with (up_to_or_end most z) g
then_up_to l most z f g h = run-if_up_to l most z f ∙ ap (on_with (up_to_or_end most z)) (λ i n. h n i)

then_search : (l : Addr → Asked) (ts : Texts) (key : Value) (f : ℕ → Plan) (g : ℕ → Asked) → ((n : ℕ) → run l (f n) ≡ g n) → (cs : List Addr) (n : ℕ) → run l (search_plan ts key n cs f) ≡ on_with (search_looks l ts key n cs) (λ o. on_with (found_or_end o) g)
then_search l ts key f g h [] n = refl
then_search l ts key f g h (a ∷ cs) n = by_look (then_search l ts key f g h cs (suc n)) (l a)
  where
    by_found : run l (search_plan ts key (suc n) cs f) ≡ on_with (search_looks l ts key (suc n) cs) (λ o. on_with (found_or_end o) g) → (q : Bool) → run l (cond q (f n) (search_plan ts key (suc n) cs f)) ≡ on_with (cond q (Ok (Some n)) (search_looks l ts key (suc n) cs)) (λ o. on_with (found_or_end o) g)
    by_found k true = h n
    by_found k false = k

    by_look : run l (search_plan ts key (suc n) cs f) ≡ on_with (search_looks l ts key (suc n) cs) (λ o. on_with (found_or_end o) g) → (r : Asked) → after r (λ v. run l (cond (is_found ts key v) (f n) (search_plan ts key (suc n) cs f))) ≡ on_with (and_on (any_value r) (λ v. cond (is_found ts key v) (Ok (Some n)) (search_looks l ts key (suc n) cs))) (λ o. on_with (found_or_end o) g)
    by_look k (Val v) = by_found k (is_found ts key v)
    by_look k (Needs x) = refl

pub ask_index : (b : Book) (e : Known) (at : Addr) (range row col : Expr) → ask b e at (Call Fun.Index (More range (More row (More col End)))) ≡ on_with (value_or_end (ask b e at row)) (λ v. on_with (value_or_end (ask b e at col)) (λ w. on_with (number_or_end (as_number v)) (λ i. on_with (number_or_end (as_number w)) (λ j. on_with (cells_or_end (place_of at range)) (λ r. on_with (up_to_or_end (height r) i) (λ m. on_with (up_to_or_end (width r) j) (λ n. look b e (cell_of r m n))))))))
ask_index b e at range row col =
    then_value (look b e) (plan b.texts at row) _ _ (λ v. then_value (look b e) (plan b.texts at col) _ _ (λ w.
    then_number (look b e) (as_number v) _ _ (λ i. then_number (look b e) (as_number w) _ _ (λ j.
    then_cells (look b e) (place_of at range) _ _ (λ r. then_up_to (look b e) (height r) i _ _ (λ m. then_up_to (look b e) (width r) j _ _ (λ n.
    run-demand (look b e) (cell_of r m n))))))))

pub ask_match : (b : Book) (e : Known) (at : Addr) (key range : Expr) (rest : Exprs) → ask b e at (Call Fun.Match (More key (More range rest))) ≡ on_with (value_or_end (ask b e at key)) (λ k. on_with (cells_or_end (place_of at range)) (λ r. on_with (search_looks (look b e) b.texts k 0 (walk r)) (λ o. on_with (found_or_end o) (λ n. Val (Value.Number (pos (suc n)))))))
ask_match b e at key range rest =
    then_value (look b e) (plan b.texts at key) _ _ (λ k.
    then_cells (look b e) (place_of at range) _ _ (λ r.
    then_search (look b e) b.texts k (λ n. Give (Value.Number (pos (suc n)))) (λ n. Val (Value.Number (pos (suc n)))) (λ n. refl) (walk r) 0))

pub ask_v_lookup : (b : Book) (e : Known) (at : Addr) (key range col : Expr) (rest : Exprs) → ask b e at (Call Fun.VLookup (More key (More range (More col rest)))) ≡ on_with (value_or_end (ask b e at key)) (λ k. on_with (value_or_end (ask b e at col)) (λ v. on_with (number_or_end (as_number v)) (λ j. on_with (cells_or_end (place_of at range)) (λ r. on_with (up_to_or_end (width r) j) (λ n. on_with (search_looks (look b e) b.texts k 0 (column_of r 0)) (λ o. on_with (found_or_end o) (λ m. look b e (cell_of r m n))))))))
ask_v_lookup b e at key range col rest =
    then_value (look b e) (plan b.texts at key) _ _ (λ k. then_value (look b e) (plan b.texts at col) _ _ (λ v.
    then_number (look b e) (as_number v) _ _ (λ j. then_cells (look b e) (place_of at range) _ _ (λ r. then_up_to (look b e) (width r) j _ _ (λ n.
    then_search (look b e) b.texts k (λ m. Demand (cell_of r m n) Give) (λ m. look b e (cell_of r m n)) (λ m. run-demand (look b e) (cell_of r m n)) (column_of r 0) 0)))))

pub ask_h_lookup : (b : Book) (e : Known) (at : Addr) (key range row : Expr) (rest : Exprs) → ask b e at (Call Fun.HLookup (More key (More range (More row rest)))) ≡ on_with (value_or_end (ask b e at key)) (λ k. on_with (value_or_end (ask b e at row)) (λ v. on_with (number_or_end (as_number v)) (λ i. on_with (cells_or_end (place_of at range)) (λ r. on_with (up_to_or_end (height r) i) (λ m. on_with (search_looks (look b e) b.texts k 0 (row_of r 0)) (λ o. on_with (found_or_end o) (λ n. look b e (cell_of r m n))))))))
ask_h_lookup b e at key range row rest =
    then_value (look b e) (plan b.texts at key) _ _ (λ k. then_value (look b e) (plan b.texts at row) _ _ (λ v.
    then_number (look b e) (as_number v) _ _ (λ i. then_cells (look b e) (place_of at range) _ _ (λ r. then_up_to (look b e) (height r) i _ _ (λ m.
    then_search (look b e) b.texts k (λ n. Demand (cell_of r m n) Give) (λ n. look b e (cell_of r m n)) (λ n. run-demand (look b e) (cell_of r m n)) (row_of r 0) 0)))))

-- The same as evaluators take them: an operator at two values gives an error where one of them is one

pub on_value : (r : Asked) (f g : Value → Asked) → ((v : Value) → IsFalse (is_error v) → f v ≡ g v) → on_with (value_or_end r) f ≡ on_with (value_or_end r) g
on_value (Needs x) f g h = refl
on_value (Val (Value.Error e)) f g h = refl
on_value (Val v) f g h = h v refl

-- two values that are no errors
pub on_values : (r s : Asked) (f g : Value → Value → Value) → ((v w : Value) → IsFalse (is_error v) → IsFalse (is_error w) → f v w ≡ g v w) → on_with (value_or_end r) (λ x. on_with (value_or_end s) (λ y. Val (f x y))) ≡ on_with (value_or_end r) (λ x. on_with (value_or_end s) (λ y. Val (g x y)))
on_values r s f g h = on_value r _ _ (λ v k. on_value s _ _ (λ w l. ap Val (h v w k l)))

pub ask_join : (b : Book) (e : Known) (at : Addr) (t u : Expr) → ask b e at (Binary Op.Join t u) ≡ on_with (value_or_end (ask b e at t)) (λ x. on_with (value_or_end (ask b e at u)) (λ y. Val (joined b.texts x y)))
ask_join b e at t u = ask_binary b e at Op.Join t u ∙ on_values (ask b e at t) (ask b e at u) (operator_value b.texts Op.Join) (joined b.texts) (λ v w h k. ap (λ q. cond q v (cond (is_error w) w (joined b.texts v w))) h ∙ ap (λ q. cond q w (joined b.texts v w)) k)

pub ask_abs_all : (b : Book) (e : Known) (at : Addr) (t : Expr) → ask b e at (Call Fun.Abs (More t End)) ≡ on_with (value_or_end (ask b e at t)) (λ x. Val (unary_value Sign2.Abs x))
ask_abs_all b e at t = ask_abs b e at t ∙ on_value (ask b e at t) _ _ (λ v h. ap Val (sym (unary_is Sign2.Abs v h)))

pub ask_two_all : (b : Book) (e : Known) (at : Addr) (f g : Value → Value → Value) → ((v w : Value) → IsFalse (is_error v) → IsFalse (is_error w) → f v w ≡ g v w) → (t u : Expr) → ask_two b e at f (More t (More u End)) ≡ on_with (value_or_end (ask b e at t)) (λ x. on_with (value_or_end (ask b e at u)) (λ y. Val (g x y)))
ask_two_all b e at f g h t u = two_in_turn (look b e) (plan b.texts at t) (plan b.texts at u) f ∙ on_values (ask b e at t) (ask b e at u) f g h

pub ask_index_steps : (b : Book) (e : Known) (at : Addr) (range row col : Expr) → ask b e at (Call Fun.Index (More range (More row (More col End)))) ≡ on_with (value_or_end (ask b e at row)) (λ v. on_with (value_or_end (ask b e at col)) (λ w. index_steps (look b e) v w (place_of at range)))
ask_index_steps = ask_index

pub ask_match_steps : (b : Book) (e : Known) (at : Addr) (key range : Expr) (rest : Exprs) → ask b e at (Call Fun.Match (More key (More range rest))) ≡ on_with (value_or_end (ask b e at key)) (λ k. match_steps (look b e) b.texts k (place_of at range))
ask_match_steps = ask_match

pub ask_v_lookup_steps : (b : Book) (e : Known) (at : Addr) (key range col : Expr) (rest : Exprs) → ask b e at (Call Fun.VLookup (More key (More range (More col rest)))) ≡ on_with (value_or_end (ask b e at key)) (λ k. on_with (value_or_end (ask b e at col)) (λ v. v_lookup_steps (look b e) b.texts k v (place_of at range)))
ask_v_lookup_steps = ask_v_lookup

pub ask_h_lookup_steps : (b : Book) (e : Known) (at : Addr) (key range row : Expr) (rest : Exprs) → ask b e at (Call Fun.HLookup (More key (More range (More row rest)))) ≡ on_with (value_or_end (ask b e at key)) (λ k. on_with (value_or_end (ask b e at row)) (λ v. h_lookup_steps (look b e) b.texts k v (place_of at range)))
ask_h_lookup_steps = ask_h_lookup
