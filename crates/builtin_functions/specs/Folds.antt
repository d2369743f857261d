-- SUM, MIN, MAX and COUNT over values.
use Rattle.std.specs.Prelude.{Bool, true, false, cond, ℤ, pos, ◌+ℤ◌, int_lt, Option, Some, None, Result, Ok, Err, List, [], ◌∷◌}
use Rattle.cell_values.specs.declared.values.Code.{Code}
use Rattle.cell_values.specs.declared.values.Value.{Value}
use Rattle.cell_values.specs.Numbers.{fits}
use Rattle.builtin_functions.specs.declared.folds.FoldKind.{FoldKind}
use Rattle.builtin_functions.specs.declared.folds.Fold.{Fold}
use Rattle.builtin_functions.specs.declared.folds.Go.{Go}

-- the numbers so far in one number, none before the first
abbrev pub Total : Type 0
Total = Option ℤ

abbrev pub so_far : Total → ℤ
so_far (Some x) = x
so_far None = pos 0

abbrev pub lesser : ℤ → ℤ → ℤ
lesser x y = cond (int_lt y x) y x

abbrev pub greater : ℤ → ℤ → ℤ
greater x y = cond (int_lt y x) x y

abbrev pub best : (ℤ → ℤ → ℤ) → Total → ℤ → Total
best choose (Some x) n = Some (choose x n)
best choose None n = Some n

-- a number on; `#NUM!` where the sum does not fit
abbrev pub counted : FoldKind → Total → ℤ → Result Total Code
counted FoldKind.Sum t n = cond (fits (so_far t +ℤ n)) (Ok (Some (so_far t +ℤ n))) (Err Code.Num)
counted FoldKind.Min t n = Ok (best lesser t n)
counted FoldKind.Max t n = Ok (best greater t n)
counted FoldKind.Count t n = Ok (Some (cond (fits (so_far t +ℤ pos 1)) (so_far t +ℤ pos 1) (so_far t)))

-- a Text or Bool outside a range: COUNT passes it over
abbrev pub stops : FoldKind → Total → Result Total Code
stops FoldKind.Sum t = Err Code.Value
stops FoldKind.Min t = Err Code.Value
stops FoldKind.Max t = Err Code.Value
stops FoldKind.Count t = Ok t

-- a value on, from a cell of a range or from an argument of its own: the total, or why the walk ends
abbrev pub taken : FoldKind → Total → Bool → Value → Result Total Code
taken k t in_range (Value.Error e) = Err e
taken k t in_range (Value.Number n) = counted k t n
taken k t in_range Value.Blank = Ok t
taken k t true (Value.Text s) = Ok t
taken k t false (Value.Text s) = stops k t
taken k t true (Value.Short s) = Ok t
taken k t false (Value.Short s) = stops k t
taken k t true (Value.Bool b) = Ok t
taken k t false (Value.Bool b) = stops k t

-- a fold with the total after a value; as before where the walk ends
abbrev pub fold_after : Fold → Result Total Code → Fold
fold_after f (Ok t) = record f { total = t }
fold_after f (Err e) = f

-- whether the walk goes on after a value
abbrev pub goes_on : Result Total Code → Go
goes_on (Ok t) = Go.More
goes_on (Err e) = Go.Stop e

-- the walk goes on with the total, unless it has ended
abbrev pub and_then_take : Result Total Code → (Total → Result Total Code) → Result Total Code
and_then_take (Ok t) f = f t
and_then_take (Err e) f = Err e

-- values on, one after the other, each from a range or not
abbrev pub taken_all : FoldKind → Total → List (Value × Bool) → Result Total Code
taken_all k t [] = Ok t
taken_all k t (v ∷ rest) = and_then_take (taken k t v.1 v.0) (λ u. taken_all k u rest)

-- what the fold gives at its end: 0 of no number
abbrev pub end_value : Total → Value
end_value t = Value.Number (so_far t)

-- what a walk gives: what the fold gives at its end, or the error that ends it
abbrev pub walk_value : Result Total Code → Value
walk_value (Ok t) = end_value t
walk_value (Err e) = Value.Error e

-- what the fold gives of values, each from a range or not
abbrev pub fold_value : FoldKind → List (Value × Bool) → Value
fold_value k vs = walk_value (taken_all k None vs)
