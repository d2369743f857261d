-- What each formula does, demand by demand.
use Rattle.std.specs.Prelude.{ℕ, zero, suc, Bool, true, false, cond, not, if◌then◌else◌, ℤ, pos, negsuc, nat_lt, Option, Some, None, Result, Ok, Err, List, [], ◌∷◌}
use Rattle.cell_values.specs.declared.address.Addr.{Addr}
use Rattle.cell_values.specs.declared.address.Area.{Area}
use Rattle.cell_values.specs.declared.values.Code.{Code}
use Rattle.cell_values.specs.declared.values.Value.{Value}
use Rattle.cell_values.specs.Areas.{height, width, cell_of, row_of, column_of, walk}
use Rattle.cell_values.specs.Texts.{Texts}
use Rattle.formula_trees.specs.declared.tree.Fun.{Fun}
use Rattle.formula_trees.specs.declared.tree.Op.{Op}
use Rattle.formula_trees.specs.declared.tree.Sign.{Sign}
use Rattle.formula_trees.specs.Expr.{Expr, Exprs, Number, Text, Truth, Ref, Range, RefError, Unary, Binary, Call, End, More}
use Rattle.formula_trees.specs.References.{resolve}
use Rattle.formula_trees.specs.declared.place.Place.{Place}
use Rattle.formula_trees.specs.declared.place.Place.TheVariants.{Nowhere, Bad, Cells}
use Rattle.formula_trees.specs.Mentions.{place_of}
use Rattle.builtin_functions.specs.declared.operators.Op2.{Op2}
use Rattle.builtin_functions.specs.declared.operators.Sign2.{Sign2}
use Rattle.builtin_functions.specs.declared.folds.FoldKind.{FoldKind}
use Rattle.builtin_functions.specs.Tables.{same, table, sign_table, unary_value, condition}
use Rattle.cell_values.specs.Values.{is_error, as_number}
use Rattle.builtin_functions.specs.Folds.{Total, so_far, taken}
use Rattle.computed_text.specs.Computed.{joined, left_of, right_of, mid_of, length_of}
use Rattle.demand_spec.specs.Plan.{Plan, Give, Demand, and_then}

abbrev pub fails : Code → Plan
fails e = Give (Value.Error e)

-- the value goes on, an error ends the formula
abbrev pub unless_error : Value → (Value → Plan) → Plan
unless_error v f = if is_error v then Give v else f v

abbrev pub value_of : Plan → (Value → Plan) → Plan
value_of p f = and_then p (λ v. unless_error v f)

abbrev pub or_fail : Result Bool Code → (Bool → Plan) → Plan
or_fail (Ok b) f = f b
or_fail (Err e) f = fails e

abbrev pub condition_of : Plan → (Bool → Plan) → Plan
condition_of p f = and_then p (λ v. or_fail (condition v) f)

-- A place argument: the number, and `#VALUE!` at Text and Bool
abbrev pub if_number : Option ℤ → (ℤ → Plan) → Plan
if_number (Some n) f = f n
if_number None f = fails Code.Value

-- An argument: what it does as an expression, and where it stands in the sheet.
pub record Argument : Type 0 where
  pub value : Plan
  pub place : Place

abbrev pub if_cells : Place → (Area → Plan) → Plan
if_cells (Cells r) f = f r
if_cells Bad f = fails Code.Ref
if_cells Nowhere f = fails Code.Ref

-- a number from 1 to `most`, which goes on counted from 0
abbrev pub if_up_to : ℕ → ℤ → (ℕ → Plan) → Plan
if_up_to most (pos (suc n)) f = cond (nat_lt n most) (f n) (fails Code.Ref)
if_up_to most (pos zero) f = fails Code.Ref
if_up_to most (negsuc n) f = fails Code.Ref

-- IF

abbrev pub if_plan : List Argument → Plan
if_plan (c ∷ t ∷ []) = condition_of c.value (λ b. cond b t.value (Give (Value.Bool false)))
if_plan (c ∷ t ∷ e ∷ []) = condition_of c.value (λ b. cond b t.value e.value)
if_plan _ = fails Code.Value

-- AND, OR, NOT

abbrev pub and_plan : List Argument → Plan
and_plan [] = Give (Value.Bool true)
and_plan (a ∷ rest) = condition_of a.value (λ b. cond b (and_plan rest) (Give (Value.Bool false)))

abbrev pub or_plan : List Argument → Plan
or_plan [] = Give (Value.Bool false)
or_plan (a ∷ rest) = condition_of a.value (λ b. cond b (Give (Value.Bool true)) (or_plan rest))

abbrev pub not_plan : List Argument → Plan
not_plan (a ∷ []) = condition_of a.value (λ b. Give (Value.Bool (not b)))
not_plan _ = fails Code.Value

-- CHOOSE

abbrev pub value_at : ℕ → List Argument → Plan
value_at n [] = fails Code.Value
value_at zero (a ∷ rest) = a.value
value_at (suc n) (a ∷ rest) = value_at n rest

-- a number from 1 on, counted from 0
abbrev pub from_one : ℤ → Option ℕ
from_one (pos (suc n)) = Some n
from_one (pos zero) = None
from_one (negsuc n) = None

abbrev pub chosen : Option ℕ → List Argument → Plan
chosen (Some n) args = value_at n args
chosen None args = fails Code.Value

abbrev pub choose_plan : List Argument → Plan
choose_plan [] = fails Code.Value
choose_plan (i ∷ rest) = value_of i.value (λ v. if_number (as_number v) (λ n. chosen (from_one n) rest))

-- IFERROR, ISERROR

abbrev pub if_error_plan : List Argument → Plan
if_error_plan (a ∷ b ∷ []) = and_then a.value (λ v. cond (is_error v) b.value (Give v))
if_error_plan _ = fails Code.Value

abbrev pub is_error_plan : List Argument → Plan
is_error_plan (a ∷ []) = and_then a.value (λ v. Give (Value.Bool (is_error v)))
is_error_plan _ = fails Code.Value

-- SUM, MIN, MAX, COUNT

abbrev pub go_on : Result Total Code → (Total → Plan) → Plan
go_on (Ok t) f = f t
go_on (Err e) f = fails e

abbrev pub fold_cells : FoldKind → Total → List Addr → (Total → Plan) → Plan
fold_cells k t [] f = f t
fold_cells k t (a ∷ rest) f = Demand a (λ v. go_on (taken k t true v) (λ u. fold_cells k u rest f))

abbrev pub fold_argument : FoldKind → Total → Place → Plan → (Total → Plan) → Plan
fold_argument k t (Cells r) p f = fold_cells k t (walk r) f
fold_argument k t Bad p f = fails Code.Ref
fold_argument k t Nowhere p f = and_then p (λ v. go_on (taken k t false v) f)

abbrev pub fold_plan : FoldKind → Total → List Argument → Plan
fold_plan k t [] = Give (Value.Number (so_far t))
fold_plan k t (a ∷ rest) = fold_argument k t a.place a.value (λ u. fold_plan k u rest)

-- ABS and LEN, MOD and QUOTIENT, MID: functions of one value, of two, of three

abbrev pub one_value : (Value → Value) → List Argument → Plan
one_value f (a ∷ []) = value_of a.value (λ x. Give (f x))
one_value f _ = fails Code.Value

abbrev pub two_values : (Value → Value → Value) → List Argument → Plan
two_values f (a ∷ b ∷ []) = value_of a.value (λ x. value_of b.value (λ y. Give (f x y)))
two_values f _ = fails Code.Value

abbrev pub three_values : (Value → Value → Value → Value) → List Argument → Plan
three_values f (a ∷ b ∷ c ∷ []) = value_of a.value (λ x. value_of b.value (λ y. value_of c.value (λ z. Give (f x y z))))
three_values f _ = fails Code.Value

-- LEFT and RIGHT: 1 stands for a count that is not given
abbrev pub with_one : List Argument → List Argument
with_one (t ∷ []) = t ∷ record { value = Give (Value.Number (pos 1)); place = Nowhere } ∷ []
with_one args = args

-- INDEX, MATCH, VLOOKUP, HLOOKUP

-- an error or Blank is passed over
abbrev pub is_found : Texts → Value → Value → Bool
is_found ts key (Value.Error e) = false
is_found ts key Value.Blank = false
is_found ts key (Value.Number n) = same ts (Value.Number n) key
is_found ts key (Value.Text t) = same ts (Value.Text t) key
is_found ts key (Value.Short t) = same ts (Value.Short t) key
is_found ts key (Value.Bool b) = same ts (Value.Bool b) key

-- the cells in order up to the first that is equal; its number in the list goes on, counted from 0
abbrev pub search_plan : Texts → Value → ℕ → List Addr → (ℕ → Plan) → Plan
search_plan ts key n [] f = fails Code.Na
search_plan ts key n (a ∷ rest) f = Demand a (λ v. cond (is_found ts key v) (f n) (search_plan ts key (suc n) rest f))

abbrev pub index_plan : List Argument → Plan
index_plan (range ∷ row ∷ col ∷ []) =
    value_of row.value (λ v. value_of col.value (λ w.
    if_number (as_number v) (λ i. if_number (as_number w) (λ j.
    if_cells range.place (λ r. if_up_to (height r) i (λ m. if_up_to (width r) j (λ n.
    Demand (cell_of r m n) Give)))))))
index_plan _ = fails Code.Value

abbrev pub match_plan : Texts → List Argument → Plan
match_plan ts (key ∷ range ∷ rest) =
    value_of key.value (λ k.
    if_cells range.place (λ r. search_plan ts k 0 (walk r) (λ n. Give (Value.Number (pos (suc n))))))
match_plan ts _ = fails Code.Value

abbrev pub v_lookup_plan : Texts → List Argument → Plan
v_lookup_plan ts (key ∷ range ∷ col ∷ rest) =
    value_of key.value (λ k. value_of col.value (λ v.
    if_number (as_number v) (λ j.
    if_cells range.place (λ r. if_up_to (width r) j (λ n.
    search_plan ts k 0 (column_of r 0) (λ m. Demand (cell_of r m n) Give))))))
v_lookup_plan ts _ = fails Code.Value

abbrev pub h_lookup_plan : Texts → List Argument → Plan
h_lookup_plan ts (key ∷ range ∷ row ∷ rest) =
    value_of key.value (λ k. value_of row.value (λ v.
    if_number (as_number v) (λ i.
    if_cells range.place (λ r. if_up_to (height r) i (λ m.
    search_plan ts k 0 (row_of r 0) (λ n. Demand (cell_of r m n) Give))))))
h_lookup_plan ts _ = fails Code.Value

abbrev pub call_plan : Texts → Fun → List Argument → Plan
call_plan ts Fun.If args = if_plan args
call_plan ts Fun.And args = and_plan args
call_plan ts Fun.Or args = or_plan args
call_plan ts Fun.Not args = not_plan args
call_plan ts Fun.Choose args = choose_plan args
call_plan ts Fun.IfError args = if_error_plan args
call_plan ts Fun.IsError args = is_error_plan args
call_plan ts Fun.Sum args = fold_plan FoldKind.Sum None args
call_plan ts Fun.Min args = fold_plan FoldKind.Min None args
call_plan ts Fun.Max args = fold_plan FoldKind.Max None args
call_plan ts Fun.Count args = fold_plan FoldKind.Count None args
call_plan ts Fun.Abs args = one_value (sign_table Sign2.Abs) args
call_plan ts Fun.Mod args = two_values (table ts Op2.Mod) args
call_plan ts Fun.Quotient args = two_values (table ts Op2.Quotient) args
call_plan ts Fun.Index args = index_plan args
call_plan ts Fun.Match args = match_plan ts args
call_plan ts Fun.VLookup args = v_lookup_plan ts args
call_plan ts Fun.HLookup args = h_lookup_plan ts args
call_plan ts Fun.Left args = two_values (left_of ts) (with_one args)
call_plan ts Fun.Right args = two_values (right_of ts) (with_one args)
call_plan ts Fun.Mid args = three_values (mid_of ts) args
call_plan ts Fun.Len args = one_value (length_of ts) args

abbrev pub demand_of : Option Addr → Plan
demand_of (Some a) = Demand a Give
demand_of None = fails Code.Ref

-- the operator of the table, none for `&`
abbrev pub op_of : Op → Option Op2
op_of Op.Add = Some Op2.Add
op_of Op.Sub = Some Op2.Sub
op_of Op.Mul = Some Op2.Mul
op_of Op.Div = Some Op2.Div
op_of Op.Eq = Some Op2.Eq
op_of Op.Ne = Some Op2.Ne
op_of Op.Lt = Some Op2.Lt
op_of Op.Le = Some Op2.Le
op_of Op.Gt = Some Op2.Gt
op_of Op.Ge = Some Op2.Ge
op_of Op.Join = None

abbrev pub sign_of : Sign → Sign2
sign_of Sign.Minus = Sign2.Minus
sign_of Sign.Plus = Sign2.Plus

-- an operator at two values of which none is an error: that of the table, or else the texts joined
abbrev pub operator_table : Texts → Option Op2 → Value → Value → Value
operator_table ts (Some op) a b = table ts op a b
operator_table ts None a b = joined ts a b

-- what a two-sided operator gives at any two values, and a sign at one; an error is the answer, the left one before the right one
abbrev pub operator_value : Texts → Op → Value → Value → Value
operator_value ts o a b = if is_error a then a else if is_error b then b else operator_table ts (op_of o) a b

abbrev pub sign_value : Sign → Value → Value
sign_value s a = unary_value (sign_of s) a

-- a literal is its value; a reference demands its cell; a range that stands where none may is `#VALUE!`
abbrev mutual
  pub plan : Texts → Addr → Expr → Plan
  plan ts at (Number n) = Give (Value.Number n)
  plan ts at (Text t) = Give (Value.Text t)
  plan ts at (Truth b) = Give (Value.Bool b)
  plan ts at (Ref r) = demand_of (resolve at r)
  plan ts at (Range r s) = fails Code.Value
  plan ts at RefError = fails Code.Ref
  plan ts at (Unary s a) = value_of (plan ts at a) (λ x. Give (sign_value s x))
  plan ts at (Binary o a b) = value_of (plan ts at a) (λ x. value_of (plan ts at b) (λ y. Give (operator_value ts o x y)))
  plan ts at (Call f args) = call_plan ts f (arguments ts at args)

  pub arguments : Texts → Addr → Exprs → List Argument
  arguments ts at End = []
  arguments ts at (More a rest) = record { value = plan ts at a; place = place_of at a } ∷ arguments ts at rest
