-- What the parts of a formula give: something to go on with, or what the whole formula gives.
use Rattle.std.specs.Prelude.{ℕ, zero, suc, ℤ, pos, negsuc, nat_lt, List, [], ◌∷◌, Bool, true, false, cond, if◌then◌else◌, Option, Some, None, option_and_then, Result, Ok, Err}
use Rattle.cell_values.specs.declared.address.Addr.{Addr}
use Rattle.cell_values.specs.declared.address.Area.{Area}
use Rattle.cell_values.specs.declared.values.Code.{Code}
use Rattle.cell_values.specs.declared.values.Value.{Value}
use Rattle.cell_values.specs.Areas.{height, width, cell_of, row_of, column_of, walk}
use Rattle.cell_values.specs.Texts.{Texts}
use Rattle.formula_trees.specs.Expr.{Expr, Exprs, End, More}
use Rattle.formula_trees.specs.declared.place.Place.{Place}
use Rattle.formula_trees.specs.declared.place.Place.TheVariants.{Nowhere, Bad, Cells}
use Rattle.builtin_functions.specs.declared.folds.FoldKind.{FoldKind}
use Rattle.builtin_functions.specs.Tables.{condition}
use Rattle.cell_values.specs.Values.{as_number, is_error}
use Rattle.builtin_functions.specs.Folds.{Total, taken}
use Rattle.demand_spec.specs.declared.Asked.{Asked}
use Rattle.demand_spec.specs.declared.Asked.TheVariants.{Val, Needs}
use Rattle.demand_spec.specs.Plan.{run}
use Rattle.demand_spec.specs.Formula.{fold_plan, two_values, arguments, is_found}
use Rattle.demand_spec.specs.Book.{Book, Known, look, ask}

-- what was found goes on; else the formula has ended
abbrev pub on_with : {T : Type 0} → Result T Asked → (T → Asked) → Asked
on_with (Ok x) f = f x
on_with (Err ended) f = ended

-- the same on the way to something else
abbrev pub and_on : {T U : Type 0} → Result T Asked → (T → Result U Asked) → Result U Asked
and_on (Ok x) f = f x
and_on (Err ended) f = Err ended

-- the formula gives what was found
abbrev pub answer_of : Result Value Asked → Asked
answer_of r = on_with r Val

-- the formula ends with an error
abbrev pub fails_with : {T : Type 0} → Code → Result T Asked
fails_with e = Err (Val (Value.Error e))

-- a value; a need ends the formula
abbrev pub any_value : Asked → Result Value Asked
any_value (Val v) = Ok v
any_value (Needs x) = Err (Needs x)

-- a value that is no error; an error or a need ends the formula
abbrev pub value_or_end : Asked → Result Value Asked
value_or_end (Val v) = if is_error v then Err (Val v) else Ok v
value_or_end (Needs x) = Err (Needs x)

abbrev pub or_fails : {T : Type 0} → Result T Code → Result T Asked
or_fails (Ok b) = Ok b
or_fails (Err e) = fails_with e

-- a condition; a Text, an error or a need ends the formula
abbrev pub condition_or_end : Asked → Result Bool Asked
condition_or_end r = and_on (any_value r) (λ v. or_fails (condition v))

-- a number; `#VALUE!` where the value has none
abbrev pub number_or_end : Option ℤ → Result ℤ Asked
number_or_end (Some n) = Ok n
number_or_end None = fails_with Code.Value

-- cells; `#REF!` where an argument names none
abbrev pub cells_or_end : Place → Result Area Asked
cells_or_end (Cells r) = Ok r
cells_or_end Bad = fails_with Code.Ref
cells_or_end Nowhere = fails_with Code.Ref

-- a number from 1 to `most`, counted from 0; else `#REF!`
abbrev pub up_to_or_end : ℕ → ℤ → Result ℕ Asked
up_to_or_end most (pos (suc n)) = cond (nat_lt n most) (Ok n) (fails_with Code.Ref)
up_to_or_end most (pos zero) = fails_with Code.Ref
up_to_or_end most (negsuc n) = fails_with Code.Ref

-- a place in a walk; `#N/A` where nothing was found
abbrev pub found_or_end : Option ℕ → Result ℕ Asked
found_or_end (Some n) = Ok n
found_or_end None = fails_with Code.Na

-- IFERROR: the other value where the first is an error; a need is no error
abbrev pub if_error : Asked → Asked → Asked
if_error (Val v) other = cond (is_error v) other (Val v)
if_error (Needs x) other = Needs x

-- the argument with a number, counted from 0
abbrev pub argument_at : ℕ → Exprs → Option Expr
argument_at n End = None
argument_at zero (More a rest) = Some a
argument_at (suc n) (More a rest) = argument_at n rest

-- what an argument gives; `#VALUE!` where there is none
abbrev pub ask_argument : Book → Known → Addr → Option Expr → Asked
ask_argument b e at (Some t) = ask b e at t
ask_argument b e at None = Val (Value.Error Code.Value)

-- what the argument with a number gives, if it is one
abbrev pub ask_chosen : Book → Known → Addr → Option ℕ → Exprs → Asked
ask_chosen b e at o args = ask_argument b e at (option_and_then (λ n. argument_at n args) o)

-- a fold over cells
abbrev pub fold_looks : (Addr → Asked) → FoldKind → Total → List Addr → Result Total Asked
fold_looks l k t [] = Ok t
fold_looks l k t (a ∷ rest) = and_on (any_value (l a)) (λ v. and_on (or_fails (taken k t true v)) (λ u. fold_looks l k u rest))

-- a fold over an argument: the cells of a range, or one value
abbrev pub fold_part : (Addr → Asked) → FoldKind → Total → Place → Asked → Result Total Asked
fold_part l k t (Cells r) value = fold_looks l k t (walk r)
fold_part l k t Bad value = fails_with Code.Ref
fold_part l k t Nowhere value = and_on (any_value value) (λ v. or_fails (taken k t false v))

-- a fold over arguments
abbrev pub ask_fold : Book → Known → Addr → FoldKind → Total → Exprs → Asked
ask_fold b e at k t args = run (look b e) (fold_plan k t (arguments b.texts at args))

-- a search over cells, numbered from `n` on: the number of the first that is equal
abbrev pub search_looks : (Addr → Asked) → Texts → Value → ℕ → List Addr → Result (Option ℕ) Asked
search_looks l ts key n [] = Ok None
search_looks l ts key n (a ∷ rest) = and_on (any_value (l a)) (λ v. cond (is_found ts key v) (Ok (Some n)) (search_looks l ts key (suc n) rest))

-- a function of two values over its arguments
abbrev pub ask_two : Book → Known → Addr → (Value → Value → Value) → Exprs → Asked
ask_two b e at f args = run (look b e) (two_values f (arguments b.texts at args))

-- INDEX, MATCH, VLOOKUP and HLOOKUP behind the values that they take

abbrev pub index_steps : (Addr → Asked) → Value → Value → Place → Asked
index_steps l row col range =
    on_with (number_or_end (as_number row)) (λ i. on_with (number_or_end (as_number col)) (λ j.
    on_with (cells_or_end range) (λ r. on_with (up_to_or_end (height r) i) (λ m. on_with (up_to_or_end (width r) j) (λ n.
    l (cell_of r m n))))))

abbrev pub match_steps : (Addr → Asked) → Texts → Value → Place → Asked
match_steps l ts key range =
    on_with (cells_or_end range) (λ r.
    on_with (search_looks l ts key 0 (walk r)) (λ o. on_with (found_or_end o) (λ n.
    Val (Value.Number (pos (suc n))))))

abbrev pub v_lookup_steps : (Addr → Asked) → Texts → Value → Value → Place → Asked
v_lookup_steps l ts key col range =
    on_with (number_or_end (as_number col)) (λ j.
    on_with (cells_or_end range) (λ r. on_with (up_to_or_end (width r) j) (λ n.
    on_with (search_looks l ts key 0 (column_of r 0)) (λ o. on_with (found_or_end o) (λ m.
    l (cell_of r m n))))))

abbrev pub h_lookup_steps : (Addr → Asked) → Texts → Value → Value → Place → Asked
h_lookup_steps l ts key row range =
    on_with (number_or_end (as_number row)) (λ i.
    on_with (cells_or_end range) (λ r. on_with (up_to_or_end (height r) i) (λ m.
    on_with (search_looks l ts key 0 (row_of r 0)) (λ o. on_with (found_or_end o) (λ n.
    l (cell_of r m n))))))
