-- What asking a formula is, from asking its parts, left to right: the formulas as a plain recursion.
use Rattle.std.specs.Prelude.{◌≡◌, ℤ, suc, pos, Bool, not, cond, false, true, Some, None}
use Rattle.cell_values.specs.declared.address.Addr.{Addr}
use Rattle.cell_values.specs.declared.interned.TextId.{TextId}
use Rattle.cell_values.specs.declared.values.Code.{Code}
use Rattle.cell_values.specs.declared.values.Value.{Value}
use Rattle.cell_values.specs.Areas.{height, width, cell_of, row_of, column_of, walk}
use Rattle.formula_trees.specs.declared.tree.Fun.{Fun}
use Rattle.formula_trees.specs.declared.tree.Op.{Op}
use Rattle.formula_trees.specs.declared.tree.Reference.{Reference}
use Rattle.formula_trees.specs.declared.tree.Sign.{Sign}
use Rattle.formula_trees.specs.Expr.{Expr, Exprs, Number, Text, Truth, Ref, RefError, Unary, Binary, Call, End, More}
use Rattle.formula_trees.specs.Mentions.{place_of}
use Rattle.formula_trees.specs.References.{resolve}
use Rattle.builtin_functions.specs.declared.operators.Op2.{Op2}
use Rattle.builtin_functions.specs.declared.operators.Sign2.{Sign2}
use Rattle.builtin_functions.specs.declared.folds.FoldKind.{FoldKind}
use Rattle.builtin_functions.specs.Tables.{table, sign_table}
use Rattle.cell_values.specs.Values.{as_number, is_error}
use Rattle.builtin_functions.specs.Folds.{Total, end_value}
use Rattle.demand_spec.specs.declared.Asked.TheVariants.{Val}
use Rattle.computed_text.specs.Computed.{joined, left_of, right_of, mid_of, length_of}
use Rattle.demand_spec.specs.Formula.{from_one, operator_value, sign_value}
use Rattle.demand_spec.specs.Book.{Book, Known, look, ask}
use Rattle.demand_spec.specs.Asks.{on_with, any_value, value_or_end, condition_or_end, number_or_end, cells_or_end, up_to_or_end, found_or_end, if_error, ask_chosen, fold_part, ask_fold, search_looks}

-- a literal is its value
abbrev pub LiteralGives : Type 0
LiteralGives = (b : Book) (e : Known) (at : Addr) →
    ((n : ℤ) → ask b e at (Number n) ≡ Val (Value.Number n))
    × ((t : TextId) → ask b e at (Text t) ≡ Val (Value.Text t))
    × ((q : Bool) → ask b e at (Truth q) ≡ Val (Value.Bool q))
    × (ask b e at RefError ≡ Val (Value.Error Code.Ref))

-- a reference demands its cell; outside the sheet it is `#REF!`
abbrev pub ReferenceGives : Type 0
ReferenceGives = (b : Book) (e : Known) (at : Addr) (r : Reference) →
    ((a : Addr) → resolve at r ≡ Some a → ask b e at (Ref r) ≡ look b e a)
    × (resolve at r ≡ None → ask b e at (Ref r) ≡ Val (Value.Error Code.Ref))

-- a sign
abbrev pub SignGives : Type 0
SignGives = (b : Book) (e : Known) (at : Addr) (s : Sign) (t : Expr) → ask b e at (Unary s t) ≡ on_with (value_or_end (ask b e at t)) (λ x. Val (sign_value s x))

-- a two-sided operator
abbrev pub OperatorGives : Type 0
OperatorGives = (b : Book) (e : Known) (at : Addr) (o : Op) (t u : Expr) → ask b e at (Binary o t u) ≡ on_with (value_or_end (ask b e at t)) (λ x. on_with (value_or_end (ask b e at u)) (λ y. Val (operator_value b.texts o x y)))

-- `&`
abbrev pub JoinGives : Type 0
JoinGives = (b : Book) (e : Known) (at : Addr) (t u : Expr) → ask b e at (Binary Op.Join t u) ≡ on_with (value_or_end (ask b e at t)) (λ x. on_with (value_or_end (ask b e at u)) (λ y. Val (joined b.texts x y)))

-- LEFT
abbrev pub LeftGives : Type 0
LeftGives = (b : Book) (e : Known) (at : Addr) (t n : Expr) → ask b e at (Call Fun.Left (More t (More n End))) ≡ on_with (value_or_end (ask b e at t)) (λ x. on_with (value_or_end (ask b e at n)) (λ k. Val (left_of b.texts x k)))

-- LEFT without a count
abbrev pub ShortLeftGives : Type 0
ShortLeftGives = (b : Book) (e : Known) (at : Addr) (t : Expr) → ask b e at (Call Fun.Left (More t End)) ≡ on_with (value_or_end (ask b e at t)) (λ x. Val (left_of b.texts x (Value.Number (pos 1))))

-- RIGHT
abbrev pub RightGives : Type 0
RightGives = (b : Book) (e : Known) (at : Addr) (t n : Expr) → ask b e at (Call Fun.Right (More t (More n End))) ≡ on_with (value_or_end (ask b e at t)) (λ x. on_with (value_or_end (ask b e at n)) (λ k. Val (right_of b.texts x k)))

-- RIGHT without a count
abbrev pub ShortRightGives : Type 0
ShortRightGives = (b : Book) (e : Known) (at : Addr) (t : Expr) → ask b e at (Call Fun.Right (More t End)) ≡ on_with (value_or_end (ask b e at t)) (λ x. Val (right_of b.texts x (Value.Number (pos 1))))

-- MID
abbrev pub MidGives : Type 0
MidGives = (b : Book) (e : Known) (at : Addr) (t s n : Expr) → ask b e at (Call Fun.Mid (More t (More s (More n End)))) ≡ on_with (value_or_end (ask b e at t)) (λ x. on_with (value_or_end (ask b e at s)) (λ i. on_with (value_or_end (ask b e at n)) (λ k. Val (mid_of b.texts x i k))))

-- LEN
abbrev pub LenGives : Type 0
LenGives = (b : Book) (e : Known) (at : Addr) (t : Expr) → ask b e at (Call Fun.Len (More t End)) ≡ on_with (value_or_end (ask b e at t)) (λ x. Val (length_of b.texts x))

-- MOD
abbrev pub ModGives : Type 0
ModGives = (b : Book) (e : Known) (at : Addr) (t u : Expr) → ask b e at (Call Fun.Mod (More t (More u End))) ≡ on_with (value_or_end (ask b e at t)) (λ x. on_with (value_or_end (ask b e at u)) (λ y. Val (table b.texts Op2.Mod x y)))

-- QUOTIENT
abbrev pub QuotientGives : Type 0
QuotientGives = (b : Book) (e : Known) (at : Addr) (t u : Expr) → ask b e at (Call Fun.Quotient (More t (More u End))) ≡ on_with (value_or_end (ask b e at t)) (λ x. on_with (value_or_end (ask b e at u)) (λ y. Val (table b.texts Op2.Quotient x y)))

-- ABS
abbrev pub AbsGives : Type 0
AbsGives = (b : Book) (e : Known) (at : Addr) (t : Expr) → ask b e at (Call Fun.Abs (More t End)) ≡ on_with (value_or_end (ask b e at t)) (λ x. Val (sign_table Sign2.Abs x))

-- IF
abbrev pub IfGives : Type 0
IfGives = (b : Book) (e : Known) (at : Addr) (t u w : Expr) → ask b e at (Call Fun.If (More t (More u (More w End)))) ≡ on_with (condition_or_end (ask b e at t)) (λ c. cond c (ask b e at u) (ask b e at w))

-- IF without a third argument
abbrev pub ShortIfGives : Type 0
ShortIfGives = (b : Book) (e : Known) (at : Addr) (t u : Expr) → ask b e at (Call Fun.If (More t (More u End))) ≡ on_with (condition_or_end (ask b e at t)) (λ c. cond c (ask b e at u) (Val (Value.Bool false)))

-- AND: its first argument, and then the same of the others
abbrev pub AndGives : Type 0
AndGives = (b : Book) (e : Known) (at : Addr) (t : Expr) (rest : Exprs) → ask b e at (Call Fun.And (More t rest)) ≡ on_with (condition_or_end (ask b e at t)) (λ c. cond c (ask b e at (Call Fun.And rest)) (Val (Value.Bool false)))

-- AND of no argument, and OR
abbrev pub NoneGive : Type 0
NoneGive = (b : Book) (e : Known) (at : Addr) →
    (ask b e at (Call Fun.And End) ≡ Val (Value.Bool true)) × (ask b e at (Call Fun.Or End) ≡ Val (Value.Bool false))

-- OR: its first argument, and then the same of the others
abbrev pub OrGives : Type 0
OrGives = (b : Book) (e : Known) (at : Addr) (t : Expr) (rest : Exprs) → ask b e at (Call Fun.Or (More t rest)) ≡ on_with (condition_or_end (ask b e at t)) (λ c. cond c (Val (Value.Bool true)) (ask b e at (Call Fun.Or rest)))

-- NOT
abbrev pub NotGives : Type 0
NotGives = (b : Book) (e : Known) (at : Addr) (t : Expr) → ask b e at (Call Fun.Not (More t End)) ≡ on_with (condition_or_end (ask b e at t)) (λ c. Val (Value.Bool (not c)))

-- IFERROR
abbrev pub IfErrorGives : Type 0
IfErrorGives = (b : Book) (e : Known) (at : Addr) (t u : Expr) → ask b e at (Call Fun.IfError (More t (More u End))) ≡ if_error (ask b e at t) (ask b e at u)

-- ISERROR
abbrev pub IsErrorGives : Type 0
IsErrorGives = (b : Book) (e : Known) (at : Addr) (t : Expr) → ask b e at (Call Fun.IsError (More t End)) ≡ on_with (any_value (ask b e at t)) (λ v. Val (Value.Bool (is_error v)))

-- CHOOSE: the argument with the number, and no other
abbrev pub ChooseGives : Type 0
ChooseGives = (b : Book) (e : Known) (at : Addr) (t : Expr) (rest : Exprs) → ask b e at (Call Fun.Choose (More t rest)) ≡ on_with (value_or_end (ask b e at t)) (λ v. on_with (number_or_end (as_number v)) (λ z. ask_chosen b e at (from_one z) rest))

-- SUM, MIN, MAX and COUNT: the first argument, and then the same of the others
abbrev pub FoldGives : Type 0
FoldGives = (b : Book) (e : Known) (at : Addr) (k : FoldKind) (t : Total) (x : Expr) (rest : Exprs) → ask_fold b e at k t (More x rest) ≡ on_with (fold_part (look b e) k t (place_of at x) (ask b e at x)) (λ u. ask_fold b e at k u rest)

-- INDEX
abbrev pub IndexGives : Type 0
IndexGives = (b : Book) (e : Known) (at : Addr) (range row col : Expr) → ask b e at (Call Fun.Index (More range (More row (More col End)))) ≡ on_with (value_or_end (ask b e at row)) (λ v. on_with (value_or_end (ask b e at col)) (λ w. on_with (number_or_end (as_number v)) (λ i. on_with (number_or_end (as_number w)) (λ j. on_with (cells_or_end (place_of at range)) (λ r. on_with (up_to_or_end (height r) i) (λ m. on_with (up_to_or_end (width r) j) (λ n. look b e (cell_of r m n))))))))

-- MATCH
abbrev pub MatchGives : Type 0
MatchGives = (b : Book) (e : Known) (at : Addr) (key range : Expr) (rest : Exprs) → ask b e at (Call Fun.Match (More key (More range rest))) ≡ on_with (value_or_end (ask b e at key)) (λ k. on_with (cells_or_end (place_of at range)) (λ r. on_with (search_looks (look b e) b.texts k 0 (walk r)) (λ o. on_with (found_or_end o) (λ n. Val (Value.Number (pos (suc n)))))))

-- VLOOKUP
abbrev pub VLookupGives : Type 0
VLookupGives = (b : Book) (e : Known) (at : Addr) (key range col : Expr) (rest : Exprs) → ask b e at (Call Fun.VLookup (More key (More range (More col rest)))) ≡ on_with (value_or_end (ask b e at key)) (λ k. on_with (value_or_end (ask b e at col)) (λ v. on_with (number_or_end (as_number v)) (λ j. on_with (cells_or_end (place_of at range)) (λ r. on_with (up_to_or_end (width r) j) (λ n. on_with (search_looks (look b e) b.texts k 0 (column_of r 0)) (λ o. on_with (found_or_end o) (λ m. look b e (cell_of r m n))))))))

-- HLOOKUP
abbrev pub HLookupGives : Type 0
HLookupGives = (b : Book) (e : Known) (at : Addr) (key range row : Expr) (rest : Exprs) → ask b e at (Call Fun.HLookup (More key (More range (More row rest)))) ≡ on_with (value_or_end (ask b e at key)) (λ k. on_with (value_or_end (ask b e at row)) (λ v. on_with (number_or_end (as_number v)) (λ i. on_with (cells_or_end (place_of at range)) (λ r. on_with (up_to_or_end (height r) i) (λ m. on_with (search_looks (look b e) b.texts k 0 (row_of r 0)) (λ o. on_with (found_or_end o) (λ n. look b e (cell_of r m n))))))))

-- each fold begins with no total, and ends with its total
abbrev pub FoldEnds : Type 0
FoldEnds = (b : Book) (e : Known) (at : Addr) (args : Exprs) →
    (ask b e at (Call Fun.Sum args) ≡ ask_fold b e at FoldKind.Sum None args)
    × (ask b e at (Call Fun.Min args) ≡ ask_fold b e at FoldKind.Min None args)
    × (ask b e at (Call Fun.Max args) ≡ ask_fold b e at FoldKind.Max None args)
    × (ask b e at (Call Fun.Count args) ≡ ask_fold b e at FoldKind.Count None args)
    × ((k : FoldKind) (t : Total) → ask_fold b e at k t End ≡ Val (end_value t))
