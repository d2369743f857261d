-- What frames leave of a formula's plan.
use Rattle.std.specs.Prelude.{◌≡◌, ℕ, zero, suc, ◌+◌, ◌-◌, ◌*◌, ◌<◌, ◌≤◌, ℤ, pos, negsuc, nat_lt, Bool, true, false, not, cond, if◌then◌else◌, Option, Some, None, List, [], ◌∷◌, length, drop}
use Rattle.cell_values.specs.declared.address.Addr.{Addr}
use Rattle.cell_values.specs.declared.address.Area.{Area}
use Rattle.cell_values.specs.declared.values.Code.{Code}
use Rattle.cell_values.specs.declared.values.Value.{Value}
use Rattle.cell_values.specs.Areas.{height, width, cell_of, row_of, column_of, walk, IsArea}
use Rattle.cell_values.specs.Texts.{Texts}
use Rattle.formula_trees.specs.declared.tree.Fun.{Fun}
use Rattle.formula_trees.specs.Expr.{Expr, Exprs, End, More}
use Rattle.formula_trees.specs.declared.place.Place.{Place}
use Rattle.formula_trees.specs.declared.place.Place.TheVariants.{Nowhere, Cells}
use Rattle.formula_trees.specs.Mentions.{cells_of, place_of}
use Rattle.formula_trees.specs.Sound.{nodes}
use Rattle.formula_trees.specs.declared.TheConstants.{MAX_NODES}
use Rattle.builtin_functions.specs.declared.operators.Op2.{Op2}
use Rattle.builtin_functions.specs.declared.operators.Sign2.{Sign2}
use Rattle.builtin_functions.specs.declared.folds.FoldKind.{FoldKind}
use Rattle.cell_values.specs.Values.{IsValueOf, is_error, as_number}
use Rattle.builtin_functions.specs.Tables.{condition, table, sign_table}
use Rattle.builtin_functions.specs.Folds.{Total, taken}
use Rattle.computed_text.specs.Computed.{left_of, right_of, mid_of, length_of}
use Rattle.demand_spec.specs.Plan.{Plan, Give, Demand, and_then}
use Rattle.demand_spec.specs.Formula.{fails, unless_error, or_fail, if_number, if_cells, if_up_to, and_plan, or_plan, from_one, chosen, go_on, fold_cells, fold_plan, is_found, search_plan, operator_value, sign_value, plan, arguments}
use Rattle.formula_trees.specs.TextNumbers.{TextsBelow}
use Rattle.shared_expressions.specs.declared.nodes.ExprId.{ExprId}
use Rattle.shared_expressions.specs.declared.nodes.Node.{Node}
use Rattle.shared_expressions.specs.Trees.{Trees, tree_at, root_of, nth, child_of, depth}
use Rattle.formula_eval.specs.declared.work.Work.{Work}
use Rattle.formula_eval.specs.declared.work.Work.TheVariants.{First, Second, Third, Turn, Argument, Cell, Search, Lookup}
use Rattle.formula_eval.specs.declared.work.Frame.{Frame}
use Rattle.formula_eval.specs.declared.work.Frame.TheVariants.{At, Opened}
use Rattle.formula_eval.specs.declared.work.Step.{Step}
use Rattle.formula_eval.specs.declared.site.FoldWalk.{FoldWalk}
use Rattle.formula_eval.specs.declared.site.SearchWalk.{SearchWalk}
use Rattle.formula_eval.specs.declared.site.LookupWalk.{LookupWalk}
use Rattle.formula_eval.specs.declared.site.Walk.{Walk}
use Rattle.formula_eval.specs.Stacks.{below}

-- an argument's plan, where there is one
abbrev pub plan_or : Plan → Texts → Addr → Option Expr → Plan
plan_or p ts at (Some e) = plan ts at e
plan_or p ts at None = p

abbrev pub place_named : Addr → Option Expr → Place
place_named at (Some e) = place_of at e
place_named at None = Nowhere

-- the cells of an argument
abbrev pub cells_named : Addr → Option Expr → List Addr
cells_named at o = cells_of (place_named at o)

-- Which arguments a call demands first and second

abbrev pub first_number : Fun → ℕ
first_number Fun.Index = 1
first_number _ = 0

abbrev pub second_number : Fun → ℕ
second_number Fun.Mod = 1
second_number Fun.Quotient = 1
second_number Fun.Left = 1
second_number Fun.Right = 1
second_number Fun.Mid = 1
second_number Fun.If = 2
second_number Fun.And = 2
second_number Fun.Or = 2
second_number Fun.Not = 2
second_number Fun.Choose = 2
second_number Fun.IfError = 2
second_number Fun.IsError = 2
second_number Fun.Sum = 2
second_number Fun.Min = 2
second_number Fun.Max = 2
second_number Fun.Count = 2
second_number Fun.Abs = 2
second_number Fun.Index = 2
second_number Fun.Match = 2
second_number Fun.VLookup = 2
second_number Fun.HLookup = 2
second_number Fun.Len = 2

-- the second value where no argument gives one: LEFT and RIGHT take one character
abbrev pub second_default : Fun → Value
second_default Fun.Left = Value.Number (pos 1)
second_default Fun.Right = Value.Number (pos 1)
second_default Fun.Mid = Value.Error Code.Value
second_default Fun.Len = Value.Error Code.Value
second_default Fun.Mod = Value.Error Code.Value
second_default Fun.Quotient = Value.Error Code.Value
second_default Fun.If = Value.Error Code.Value
second_default Fun.And = Value.Error Code.Value
second_default Fun.Or = Value.Error Code.Value
second_default Fun.Not = Value.Error Code.Value
second_default Fun.Choose = Value.Error Code.Value
second_default Fun.IfError = Value.Error Code.Value
second_default Fun.IsError = Value.Error Code.Value
second_default Fun.Sum = Value.Error Code.Value
second_default Fun.Min = Value.Error Code.Value
second_default Fun.Max = Value.Error Code.Value
second_default Fun.Count = Value.Error Code.Value
second_default Fun.Abs = Value.Error Code.Value
second_default Fun.Index = Value.Error Code.Value
second_default Fun.Match = Value.Error Code.Value
second_default Fun.VLookup = Value.Error Code.Value
second_default Fun.HLookup = Value.Error Code.Value

-- the number of a start, 0 where it is none: MID has no start there either
abbrev pub start_number : Option ℤ → ℤ
start_number (Some n) = n
start_number None = pos 0

-- an error, or what a function gives at the value
abbrev pub error_or : (Value → Value) → Value → Value
error_or f v = if is_error v then v else f v

-- a number from 1 to `most`, counted from 0
abbrev pub index_below : ℕ → ℤ → Option ℕ
index_below most (pos zero) = None
index_below most (pos (suc n)) = cond (nat_lt n most) (Some n) None
index_below most (negsuc n) = None

-- AND goes on while its conditions are TRUE, OR while they are FALSE
abbrev pub turn_of : Fun → Option Bool
turn_of Fun.And = Some true
turn_of Fun.Or = Some false
turn_of _ = None

abbrev pub fold_of : Fun → Option FoldKind
fold_of Fun.Sum = Some FoldKind.Sum
fold_of Fun.Min = Some FoldKind.Min
fold_of Fun.Max = Some FoldKind.Max
fold_of Fun.Count = Some FoldKind.Count
fold_of _ = None

abbrev pub is_lookup : Fun → Bool
is_lookup Fun.VLookup = true
is_lookup Fun.HLookup = true
is_lookup _ = false

-- the cells that a lookup searches: the first column or the first row
abbrev pub line_of : Fun → Area → List Addr
line_of Fun.HLookup r = row_of r 0
line_of _ r = column_of r 0

-- the cell of the answer, beside the cell with a number of that line
abbrev pub target_of : Fun → Area → ℕ → ℕ → Addr
target_of Fun.HLookup r m n = cell_of r m n
target_of _ r m n = cell_of r n m

-- how many columns or rows a lookup may name
abbrev pub across : Fun → Area → ℕ
across Fun.HLookup r = height r
across _ r = width r

-- What is left of a call

abbrev pub numbered : ℕ → Plan
numbered n = Give (Value.Number (pos (suc n)))

abbrev pub match_in : Texts → Value → Place → Plan
match_in ts k p = if_cells p (λ r. search_plan ts k 0 (walk r) numbered)

abbrev pub index_in : Value → Value → Place → Plan
index_in x w p =
    if_number (as_number x) (λ i. if_number (as_number w) (λ j.
    if_cells p (λ r. if_up_to (height r) i (λ m. if_up_to (width r) j (λ n.
    Demand (cell_of r m n) Give)))))

-- a lookup from the cell with a number on
abbrev pub lookup_from : Texts → Fun → Value → ℕ → ℕ → Area → Plan
lookup_from ts f k m n r = search_plan ts k n (drop n (line_of f r)) (λ i. Demand (target_of f r m i) Give)

abbrev pub lookup_in : Texts → Fun → Value → Value → Place → Plan
lookup_in ts f k w p = if_number (as_number w) (λ j. if_cells p (λ r. if_up_to (across f r) j (λ m. lookup_from ts f k m 0 r)))

abbrev pub turn_plan : Bool → Texts → Addr → ℕ → Exprs → Plan
turn_plan true ts at k args = and_plan (drop k (arguments ts at args))
turn_plan false ts at k args = or_plan (drop k (arguments ts at args))

-- the condition of an argument of AND or OR
abbrev pub turn_on : Bool → Bool → Plan → Plan
turn_on true b p = cond b p (Give (Value.Bool false))
turn_on false b p = cond b (Give (Value.Bool true)) p

abbrev pub fold_from : Texts → Addr → FoldKind → ℕ → Total → Exprs → Plan
fold_from ts at q k t args = fold_plan q t (drop k (arguments ts at args))

-- a fold from a cell of an argument on
abbrev pub fold_at : Texts → Addr → FoldKind → ℕ → ℕ → Total → Exprs → Plan
fold_at ts at q k n t args = fold_cells q t (drop n (cells_named at (nth k args))) (λ w. fold_from ts at q (k + 1) w args)

-- with two values of which none is an error
abbrev pub call_third : Texts → Fun → Value → ℤ → Value → Plan
call_third ts Fun.Mid x k v = unless_error v (λ z. Give (mid_of ts x (Value.Number k) z))
call_third ts f x k v = fails Code.Value

-- with a first value that is no error
abbrev pub call_second : Texts → Addr → Fun → Exprs → Value → Value → Plan
call_second ts at Fun.Mod args x v = unless_error v (λ y. Give (table ts Op2.Mod x y))
call_second ts at Fun.Quotient args x v = unless_error v (λ y. Give (table ts Op2.Quotient x y))
call_second ts at Fun.Index args x v = unless_error v (λ w. index_in x w (place_named at (nth 0 args)))
call_second ts at Fun.VLookup args x v = unless_error v (λ w. lookup_in ts Fun.VLookup x w (place_named at (nth 1 args)))
call_second ts at Fun.HLookup args x v = unless_error v (λ w. lookup_in ts Fun.HLookup x w (place_named at (nth 1 args)))
call_second ts at Fun.Left args x v = unless_error v (λ y. Give (left_of ts x y))
call_second ts at Fun.Right args x v = unless_error v (λ y. Give (right_of ts x y))
call_second ts at Fun.Mid args x v = unless_error v (λ y. and_then (plan_or (fails Code.Value) ts at (nth 2 args)) (call_third ts Fun.Mid x (start_number (as_number y))))
call_second ts at Fun.Len args x v = fails Code.Value
call_second ts at Fun.If args x v = fails Code.Value
call_second ts at Fun.And args x v = fails Code.Value
call_second ts at Fun.Or args x v = fails Code.Value
call_second ts at Fun.Not args x v = fails Code.Value
call_second ts at Fun.Choose args x v = fails Code.Value
call_second ts at Fun.IfError args x v = fails Code.Value
call_second ts at Fun.IsError args x v = fails Code.Value
call_second ts at Fun.Sum args x v = fails Code.Value
call_second ts at Fun.Min args x v = fails Code.Value
call_second ts at Fun.Max args x v = fails Code.Value
call_second ts at Fun.Count args x v = fails Code.Value
call_second ts at Fun.Abs args x v = fails Code.Value
call_second ts at Fun.Match args x v = fails Code.Value

-- a call of two values or three has its first
abbrev pub first_of_two : Texts → Addr → Fun → Exprs → Value → Plan
first_of_two ts at f args v = unless_error v (λ u. and_then (plan_or (Give (second_default f)) ts at (nth (second_number f) args)) (call_second ts at f args u))

abbrev pub call_first : Texts → Addr → Fun → Exprs → Value → Plan
call_first ts at Fun.If args v = or_fail (condition v) (λ b. cond b (plan_or (fails Code.Value) ts at (nth 1 args)) (plan_or (Give (Value.Bool false)) ts at (nth 2 args)))
call_first ts at Fun.Not args v = or_fail (condition v) (λ b. Give (Value.Bool (not b)))
call_first ts at Fun.Choose args v = unless_error v (λ u. if_number (as_number u) (λ n. chosen (from_one n) (drop 1 (arguments ts at args))))
call_first ts at Fun.IfError args v = cond (is_error v) (plan_or (fails Code.Value) ts at (nth 1 args)) (Give v)
call_first ts at Fun.IsError args v = Give (Value.Bool (is_error v))
call_first ts at Fun.Abs args v = unless_error v (λ x. Give (sign_table Sign2.Abs x))
call_first ts at Fun.Match args v = unless_error v (λ k. match_in ts k (place_named at (nth 1 args)))
call_first ts at Fun.Len args v = unless_error v (λ x. Give (length_of ts x))
call_first ts at Fun.Mod args v = first_of_two ts at Fun.Mod args v
call_first ts at Fun.Quotient args v = first_of_two ts at Fun.Quotient args v
call_first ts at Fun.Index args v = first_of_two ts at Fun.Index args v
call_first ts at Fun.VLookup args v = first_of_two ts at Fun.VLookup args v
call_first ts at Fun.HLookup args v = first_of_two ts at Fun.HLookup args v
call_first ts at Fun.Left args v = first_of_two ts at Fun.Left args v
call_first ts at Fun.Right args v = first_of_two ts at Fun.Right args v
call_first ts at Fun.Mid args v = first_of_two ts at Fun.Mid args v
call_first ts at Fun.And args v = first_of_two ts at Fun.And args v
call_first ts at Fun.Or args v = first_of_two ts at Fun.Or args v
call_first ts at Fun.Sum args v = first_of_two ts at Fun.Sum args v
call_first ts at Fun.Min args v = first_of_two ts at Fun.Min args v
call_first ts at Fun.Max args v = first_of_two ts at Fun.Max args v
call_first ts at Fun.Count args v = first_of_two ts at Fun.Count args v

abbrev pub turn_frame : Texts → Addr → Option Bool → ℕ → Exprs → Value → Plan
turn_frame ts at (Some q) k args v = or_fail (condition v) (λ b. turn_on q b (turn_plan q ts at k args))
turn_frame ts at None k args v = fails Code.Value

abbrev pub argument_frame : Texts → Addr → Option FoldKind → ℕ → Total → Exprs → Value → Plan
argument_frame ts at (Some q) k t args v = go_on (taken q t false v) (λ u. fold_from ts at q k u args)
argument_frame ts at None k t args v = fails Code.Value

abbrev pub cell_frame : Texts → Addr → Option FoldKind → ℕ → ℕ → Total → Exprs → Value → Plan
cell_frame ts at (Some q) k n t args v = go_on (taken q t true v) (λ u. fold_at ts at q k n u args)
cell_frame ts at None k n t args v = fails Code.Value

abbrev pub search_frame : Texts → Fun → ℕ → Value → List Addr → Value → Plan
search_frame ts Fun.Match n k cells v = cond (is_found ts k v) (Give (Value.Number (pos n))) (search_plan ts k n (drop n cells) numbered)
search_frame ts f n k cells v = fails Code.Value

abbrev pub lookup_at : Texts → Fun → ℕ → ℕ → Value → Place → Value → Plan
lookup_at ts f m n k (Cells r) v = cond (is_found ts k v) (Demand (target_of f r m n) Give) (lookup_from ts f k m (suc n) r)
lookup_at ts f m n k p v = fails Code.Value

abbrev pub lookup_frame : Bool → Plan → Plan
lookup_frame true p = p
lookup_frame false p = fails Code.Value

-- what a call does with the value that it waits for
abbrev pub call_frame : Texts → Addr → Fun → Exprs → Work → Value → Plan
call_frame ts at f args First v = call_first ts at f args v
call_frame ts at f args (Second x) v = call_second ts at f args x v
call_frame ts at f args (Third x k) v = call_third ts f x k v
call_frame ts at f args (Turn k) v = turn_frame ts at (turn_of f) k args v
call_frame ts at f args (Argument k t) v = argument_frame ts at (fold_of f) k t args v
call_frame ts at f args (Cell k n t) v = cell_frame ts at (fold_of f) k n t args v
call_frame ts at f args (Search n k) v = search_frame ts f n k (cells_named at (nth 1 args)) v
call_frame ts at f args (Lookup m n k) v = lookup_frame (is_lookup f) (lookup_at ts f m n k (place_named at (nth 1 args)) v)

-- what a node does with the value that it waits for
abbrev pub frame_plan : Texts → Addr → Expr → Work → Value → Plan
frame_plan ts at (Expr.Unary s a) First v = unless_error v (λ x. Give (sign_value s x))
frame_plan ts at (Expr.Binary o a b) First v = unless_error v (λ x. and_then (plan ts at b) (λ w. unless_error w (λ y. Give (operator_value ts o x y))))
frame_plan ts at (Expr.Binary o a b) (Second x) v = unless_error v (λ y. Give (operator_value ts o x y))
frame_plan ts at (Expr.Call f args) w v = call_frame ts at f args w v
frame_plan ts at e w v = fails Code.Value

-- what the frames of the evaluation at work do with a value
abbrev pub unwind : Trees → Texts → Addr → List Frame → Value → Plan
unwind p ts at [] v = Give v
unwind p ts at (At id w ∷ fs) v = and_then (frame_plan ts at (tree_at p id) w v) (unwind p ts at fs)
unwind p ts at (Opened a x ∷ fs) v = Give v

abbrev pub meaning : Trees → Texts → Addr → Step → List Frame → Plan
meaning p ts at (Step.Eval id) fs = and_then (plan ts at (tree_at p id)) (unwind p ts at fs)
meaning p ts at (Step.Give v) fs = unwind p ts at fs v
meaning p ts at (Step.Look a) fs = Demand a (unwind p ts at fs)

-- How many steps are left at most

-- how many cells a fold or a search may look at
abbrev pub span : Place → ℕ
span (Cells r) = length (walk r) + (length (column_of r 0) + length (row_of r 0))
span _ = 0

abbrev mutual
  pub cost : Addr → Expr → ℕ
  cost at (Expr.Unary s a) = 2 + cost at a
  cost at (Expr.Binary o a b) = 4 + (cost at a + cost at b)
  cost at (Expr.Call f args) = 2 + costs at args
  cost at _ = 2

  pub costs : Addr → Exprs → ℕ
  costs at End = 0
  costs at (More a rest) = (2 + (cost at a + 2 * span (place_of at a))) + costs at rest

abbrev pub costs_from : Addr → ℕ → Exprs → ℕ
costs_from at k End = 0
costs_from at zero (More a rest) = costs at (More a rest)
costs_from at (suc k) (More a rest) = costs_from at k rest

-- all arguments but one
abbrev pub costs_but : Addr → ℕ → Exprs → ℕ
costs_but at k End = 0
costs_but at zero (More a rest) = costs at rest
costs_but at (suc k) (More a rest) = (2 + (cost at a + 2 * span (place_of at a))) + costs_but at k rest

-- the range of INDEX and of the lookups
abbrev pub range_number : Fun → ℕ
range_number Fun.Index = 0
range_number _ = 1

abbrev pub line_left : Fun → Place → ℕ → ℕ
line_left f (Cells r) n = 2 * (length (line_of f r) - suc n)
line_left f p n = 0

-- with a first value: MID's third argument, or the cells of a range
abbrev pub second_left : Addr → Fun → Exprs → ℕ
second_left at Fun.Mid args = 2 + costs_from at 2 args
second_left at f args = 2 + 2 * span (place_named at (nth (range_number f) args))

abbrev pub call_left : Addr → Fun → Exprs → Work → ℕ
call_left at f args First = 3 + costs_but at (first_number f) args
call_left at f args (Second x) = second_left at f args
call_left at f args (Third x k) = 1
call_left at f args (Turn k) = 1 + costs_from at k args
call_left at f args (Argument k t) = 1 + costs_from at k args
call_left at f args (Cell k n t) = 1 + (2 * (length (cells_named at (nth k args)) - n) + costs_from at (k + 1) args)
call_left at f args (Search n k) = 1 + 2 * (length (cells_named at (nth 1 args)) - n)
call_left at f args (Lookup m n k) = 2 + line_left f (place_named at (nth 1 args)) n

abbrev pub frame_left : Addr → Expr → Work → ℕ
frame_left at (Expr.Binary o a b) First = 3 + cost at b
frame_left at (Expr.Call f args) w = call_left at f args w
frame_left at e w = 1

abbrev pub frames_left : Trees → Addr → List Frame → ℕ
frames_left p at [] = 0
frames_left p at (At id w ∷ fs) = frame_left at (tree_at p id) w + frames_left p at fs
frames_left p at (Opened a x ∷ fs) = 0

abbrev pub step_left : Trees → Addr → Step → ℕ
step_left p at (Step.Eval id) = cost at (tree_at p id)
step_left p at (Step.Give v) = 0
step_left p at (Step.Look a) = 1

abbrev pub left : Trees → Addr → Step → List Frame → ℕ
left p at s fs = step_left p at s + frames_left p at fs

-- Which formulas and frames there are

-- a call has the arguments that its function takes
abbrev pub IsCall : Fun → Exprs → Type 0
IsCall Fun.If (More c (More t End)) = Unit {0}
IsCall Fun.If (More c (More t (More e End))) = Unit {0}
IsCall Fun.If _ = ⊥
IsCall Fun.Not (More a End) = Unit {0}
IsCall Fun.Not _ = ⊥
IsCall Fun.Choose (More i (More a rest)) = Unit {0}
IsCall Fun.Choose _ = ⊥
IsCall Fun.IfError (More a (More b End)) = Unit {0}
IsCall Fun.IfError _ = ⊥
IsCall Fun.IsError (More a End) = Unit {0}
IsCall Fun.IsError _ = ⊥
IsCall Fun.Abs (More a End) = Unit {0}
IsCall Fun.Abs _ = ⊥
IsCall Fun.Mod (More a (More b End)) = Unit {0}
IsCall Fun.Mod _ = ⊥
IsCall Fun.Quotient (More a (More b End)) = Unit {0}
IsCall Fun.Quotient _ = ⊥
IsCall Fun.Index (More r (More a (More b End))) = Unit {0}
IsCall Fun.Index _ = ⊥
IsCall Fun.Match (More k (More r rest)) = Unit {0}
IsCall Fun.Match _ = ⊥
IsCall Fun.VLookup (More k (More r (More c rest))) = Unit {0}
IsCall Fun.VLookup _ = ⊥
IsCall Fun.HLookup (More k (More r (More c rest))) = Unit {0}
IsCall Fun.HLookup _ = ⊥
IsCall Fun.Left (More t End) = Unit {0}
IsCall Fun.Left (More t (More n End)) = Unit {0}
IsCall Fun.Left _ = ⊥
IsCall Fun.Right (More t End) = Unit {0}
IsCall Fun.Right (More t (More n End)) = Unit {0}
IsCall Fun.Right _ = ⊥
IsCall Fun.Mid (More t (More s (More n End))) = Unit {0}
IsCall Fun.Mid _ = ⊥
IsCall Fun.Len (More t End) = Unit {0}
IsCall Fun.Len _ = ⊥
IsCall Fun.And args = Unit {0}
IsCall Fun.Or args = Unit {0}
IsCall Fun.Sum args = Unit {0}
IsCall Fun.Min args = Unit {0}
IsCall Fun.Max args = Unit {0}
IsCall Fun.Count args = Unit {0}

abbrev mutual
  pub IsCovered : Expr → Type 0
  IsCovered (Expr.Unary s a) = IsCovered a
  IsCovered (Expr.Binary o a b) = IsCovered a × IsCovered b
  IsCovered (Expr.Call f args) = IsCall f args × AreCovered args
  IsCovered _ = Unit {0}

  pub AreCovered : Exprs → Type 0
  AreCovered End = Unit {0}
  AreCovered (More a rest) = IsCovered a × AreCovered rest

-- an expression over so many frames
pub record Holds (limit n : ℕ) (e : Expr) : Type 0 where
  pub deep : n + depth e ≤ limit
  pub covered : IsCovered e
  pub small : nodes e ≤ MAX_NODES

-- the texts of an expression are these texts'
abbrev pub IsMeant : Texts → Expr → Type 0
IsMeant ts e = TextsBelow (λ i. i < length ts) e

-- a value that is no error, of these texts
abbrev pub IsOperand : Texts → Value → Type 0
IsOperand ts v = IsValueOf ts v × (is_error v ≡ false)

-- a column or row that the range has, and a cell of the line that is searched
abbrev pub HasLine : Fun → ℕ → ℕ → Place → Type 0
HasLine f m n (Cells r) = (m < across f r) × (n < length (line_of f r))
HasLine f m n p = Unit {0}

abbrev pub range_of : Addr → Expr → Place
range_of at (Expr.Call f args) = place_named at (nth 1 args)
range_of at e = Nowhere

abbrev pub fun_of : Expr → Fun
fun_of (Expr.Call f args) = f
fun_of e = Fun.If

-- what a node has so far fits it
abbrev pub WorkFits : Texts → Addr → Expr → Work → Type 0
WorkFits ts at e (Second x) = IsOperand ts x
WorkFits ts at e (Third x k) = IsOperand ts x
WorkFits ts at e (Search n k) = IsOperand ts k
WorkFits ts at e (Lookup m n k) = IsOperand ts k × HasLine (fun_of e) m n (range_of at e)
WorkFits ts at e w = Unit {0}

abbrev pub AllFit : Trees → Texts → Addr → ℕ → List Frame → Type 0
AllFit p ts at limit [] = Unit {0}
AllFit p ts at limit (At id w ∷ fs) = Holds limit (length fs) (tree_at p id) × IsMeant ts (tree_at p id) × WorkFits ts at (tree_at p id) w × AllFit p ts at limit fs
AllFit p ts at limit (Opened a x ∷ fs) = Unit {0}

abbrev pub StepFits : Trees → Texts → ℕ → Step → List Frame → Type 0
StepFits p ts limit (Step.Eval id) fs = Holds limit (length fs) (tree_at p id) × IsMeant ts (tree_at p id)
StepFits p ts limit (Step.Give v) fs = IsValueOf ts v
StepFits p ts limit (Step.Look a) fs = length fs < limit

pub record Fits (p : Trees) (ts : Texts) (at : Addr) (limit : ℕ) (s : Step) (fs : List Frame) : Type 0 where
  pub step : StepFits p ts limit s fs
  pub frames : AllFit p ts at limit fs

-- a node has come to a step: the step and the frames do what `q` and the frames below do
pub record Goes (p : Trees) (ts : Texts) (at : Addr) (e : Expr) (q : Plan) (budget : ℕ) (fs : List Frame) (s : Step) (fs' : List Frame) : Type 0 where
  pub same : meaning p ts at s fs' ≡ and_then q (unwind p ts at fs)
  pub less : left p at s fs' < budget + frames_left p at fs
  pub fits : (limit : ℕ) → Holds limit (length fs) e → IsMeant ts e → AllFit p ts at limit fs → Fits p ts at limit s fs'
  pub beneath : below fs' ≡ below fs

-- an expression is begun
abbrev pub Starts : Trees → Texts → Addr → ExprId → List Frame → Step → List Frame → Type 0
Starts p ts at id fs s fs' = Goes p ts at (tree_at p id) (plan ts at (tree_at p id)) (cost at (tree_at p id)) fs s fs'

-- a node goes on with a value
abbrev pub GoesOn : Trees → Texts → Addr → ExprId → Work → Value → List Frame → Step → List Frame → Type 0
GoesOn p ts at id w v fs s fs' = Goes p ts at (tree_at p id) (frame_plan ts at (tree_at p id) w v) (frame_left at (tree_at p id) w) fs s fs'

abbrev pub arguments_of : Expr → Exprs
arguments_of (Expr.Call f args) = args
arguments_of e = End

-- AND or OR goes on from an argument
abbrev pub TurnGoesOn : Trees → Texts → Addr → ExprId → Bool → ℕ → List Frame → Step → List Frame → Type 0
TurnGoesOn p ts at id q k fs s fs' = Goes p ts at (tree_at p id) (turn_plan q ts at k (arguments_of (tree_at p id))) (1 + costs_from at k (arguments_of (tree_at p id))) fs s fs'

-- a fold goes on from an argument
abbrev pub FoldGoesOn : Trees → Texts → Addr → ExprId → FoldKind → ℕ → Total → List Frame → Step → List Frame → Type 0
FoldGoesOn p ts at id q k t fs s fs' = Goes p ts at (tree_at p id) (fold_from ts at q k t (arguments_of (tree_at p id))) (1 + costs_from at k (arguments_of (tree_at p id))) fs s fs'

-- a fold goes on from a cell of an argument
abbrev pub CellsGoOn : Trees → Texts → Addr → ExprId → FoldKind → ℕ → ℕ → Total → List Frame → Step → List Frame → Type 0
CellsGoOn p ts at id q k n t fs s fs' = Goes p ts at (tree_at p id) (fold_at ts at q k n t (arguments_of (tree_at p id))) (1 + (2 * (length (cells_named at (nth k (arguments_of (tree_at p id)))) - n) + costs_from at (k + 1) (arguments_of (tree_at p id)))) fs s fs'

-- MATCH goes on from a cell
abbrev pub SearchGoesOn : Trees → Texts → Addr → ExprId → Value → ℕ → List Frame → Step → List Frame → Type 0
SearchGoesOn p ts at id k n fs s fs' = Goes p ts at (tree_at p id) (search_plan ts k n (drop n (cells_named at (nth 1 (arguments_of (tree_at p id))))) numbered) (1 + 2 * (length (cells_named at (nth 1 (arguments_of (tree_at p id)))) - n)) fs s fs'

-- a lookup goes on from a cell of its line
abbrev pub LookupGoesOn : Trees → Texts → Addr → ExprId → Fun → Area → Value → ℕ → ℕ → List Frame → Step → List Frame → Type 0
LookupGoesOn p ts at id f r k m n fs s fs' = Goes p ts at (tree_at p id) (lookup_from ts f k m n r) (2 + 2 * (length (line_of f r) - n)) fs s fs'

-- a child is waited for, where there is one
abbrev pub Waits : Trees → ExprId → Work → Option Expr → List Frame → Step → List Frame → Type 0
Waits p id w None fs s fs' = (s ≡ Step.Give (Value.Error Code.Value)) × (fs' ≡ fs)
Waits p id w (Some a) fs s fs' = (c : ExprId) × (s ≡ Step.Eval c) × (tree_at p c ≡ a) × (fs' ≡ At id w ∷ fs)

-- a child is waited for; where there is none, the node has this value in its place
abbrev pub WaitsOr : Trees → ExprId → Work → Value → Option Expr → List Frame → Step → List Frame → Type 0
WaitsOr p id w v None fs s fs' = (s ≡ Step.Give v) × (fs' ≡ At id w ∷ fs)
WaitsOr p id w v (Some a) fs s fs' = (c : ExprId) × (s ≡ Step.Eval c) × (tree_at p c ≡ a) × (fs' ≡ At id w ∷ fs)

abbrev pub Instead : Trees → Option Expr → Value → Step → Type 0
Instead p None v s = s ≡ Step.Give v
Instead p (Some a) v s = (c : ExprId) × (s ≡ Step.Eval c) × (tree_at p c ≡ a)

-- the first of some cells, and the others
abbrev pub FirstCell : List Addr → List Addr → Option Addr → Type 0
FirstCell cs rest None = cs ≡ []
FirstCell cs rest (Some a) = cs ≡ a ∷ rest

-- a step that needs no frame does what the plan does
abbrev pub Does : Plan → Step → Type 0
Does q (Step.Eval c) = ⊥
Does q (Step.Give v) = (q ≡ Give v) × (is_error v ≡ true)
Does q (Step.Look a) = q ≡ Demand a Give

-- a fold within a range, and the cells of the range
pub record IsFoldWalk (p : Trees) (at : Addr) (on : FoldWalk) : Type 0 where
  pub fold : fold_of (fun_of (tree_at p on.id)) ≡ Some on.kind
  pub argument : Some (tree_at p on.child) ≡ child_of on.k (tree_at p on.id)
  pub range : place_of at (tree_at p on.child) ≡ Cells on.area
  pub within : IsArea on.area

-- MATCH within its range
pub record IsSearchWalk (p : Trees) (at : Addr) (on : SearchWalk) : Type 0 where
  pub call : root_of (tree_at p on.id) ≡ Node.Call Fun.Match
  pub argument : Some (tree_at p on.child) ≡ child_of 1 (tree_at p on.id)
  pub range : place_of at (tree_at p on.child) ≡ Cells on.area
  pub within : IsArea on.area

-- a lookup within its line
pub record IsLookupWalk (p : Trees) (at : Addr) (on : LookupWalk) : Type 0 where
  pub call : root_of (tree_at p on.call.id) ≡ Node.Call on.call.fun
  pub lookup : is_lookup on.call.fun ≡ true
  pub range : range_of at (tree_at p on.call.id) ≡ Cells on.area
  pub within : IsArea on.area

-- the walk that a node is on
abbrev pub IsWalkOf : Trees → Addr → ExprId → Work → Option Walk → Type 0
IsWalkOf p at id w None = Unit {0}
IsWalkOf p at id w (Some (Walk.Fold on)) = (id ≡ on.id) × (w ≡ Cell on.k on.n on.total) × IsFoldWalk p at on
IsWalkOf p at id w (Some (Walk.Search on)) = (id ≡ on.id) × (w ≡ Search on.n on.key) × IsSearchWalk p at on
IsWalkOf p at id w (Some (Walk.Lookup on)) = (id ≡ on.call.id) × (w ≡ Lookup on.m on.n on.key) × IsLookupWalk p at on
