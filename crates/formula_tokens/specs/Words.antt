-- The words of formulas: references, functions, and `TRUE` and `FALSE`.
use Rattle.std.specs.Prelude.{ℕ, Bool, true, false, ◌&&◌, ◌||◌, ◌==◌, nat_lt, if◌then◌else◌, List, [], ◌∷◌, length, map, take, drop, min, Option, Some, None, codes}
use Rattle.std.specs.List.{prefix_len}
use Rattle.std.specs.Char.{is_ascii_alphabetic, is_ascii_alphanumeric, to_ascii_uppercase}
use Rattle.std.specs.Str.{bytes_eq, all_ascii_digits}
use Rattle.std.specs.Str.Parse.{digits_value}
use Rattle.cell_values.specs.CellText.{column_number}
use Rattle.formula_trees.specs.declared.tree.Fun.{Fun}
use Rattle.formula_tokens.specs.declared.token.Coordinate.{Coordinate}
use Rattle.formula_tokens.specs.declared.token.Corner.{Corner}

-- a byte that a word may begin with, and one that it may go on with
abbrev pub begins_word : ℕ → Bool
begins_word b = is_ascii_alphabetic b || b == 95 || b == 36

abbrev pub is_word_byte : ℕ → Bool
is_word_byte b = is_ascii_alphanumeric b || b == 95 || b == 36

-- the bytes of a kind that a text begins with, and what stands behind them
abbrev pub leading : (ℕ → Bool) → List ℕ → List ℕ
leading p text = take (prefix_len p text) text

abbrev pub behind : (ℕ → Bool) → List ℕ → List ℕ
behind p text = drop (prefix_len p text) text

abbrev pub begins_with : ℕ → List ℕ → Bool
begins_with c [] = false
begins_with c (b ∷ rest) = b == c

-- without one `$` in front
abbrev pub without_dollar : List ℕ → List ℕ
without_dollar text = if begins_with 36 text then drop 1 text else text

-- numbers above the greatest that 32 bits hold count as that
abbrev pub clipped : ℕ → ℕ
clipped n = min n 4294967295

abbrev pub coordinate : Bool → ℕ → Coordinate
coordinate absolute n = record { number = clipped n; absolute = absolute }

-- letters, and then a row's text: digits with or without a `$` in front
abbrev pub corner_from : Bool → List ℕ → List ℕ → Option Corner
corner_from absolute letters row = let digits = without_dollar row in
    if nat_lt 0 (length letters) && nat_lt 0 (length digits) && all_ascii_digits digits
    then Some (record { col = coordinate absolute (column_number letters); row = coordinate (begins_with 36 row) (digits_value 10 digits) })
    else None

-- the cell that a word of the form `$A$1` names, with or without each `$`
unfoldable pub corner_of : List ℕ → Option Corner
corner_of word = let bare = without_dollar word in
    corner_from (begins_with 36 word) (leading is_ascii_alphabetic bare) (behind is_ascii_alphabetic bare)

abbrev pub upper : List ℕ → List ℕ
upper word = map to_ascii_uppercase word

-- `TRUE` or `FALSE`, in either case
unfoldable pub truth_of : List ℕ → Option Bool
truth_of word = if bytes_eq (upper word) (codes "TRUE") then Some true
    else (if bytes_eq (upper word) (codes "FALSE") then Some false else None)

-- the name of a function
abbrev pub function_name : Fun → List ℕ
function_name Fun.If = codes "IF"
function_name Fun.And = codes "AND"
function_name Fun.Or = codes "OR"
function_name Fun.Not = codes "NOT"
function_name Fun.Choose = codes "CHOOSE"
function_name Fun.IfError = codes "IFERROR"
function_name Fun.IsError = codes "ISERROR"
function_name Fun.Sum = codes "SUM"
function_name Fun.Min = codes "MIN"
function_name Fun.Max = codes "MAX"
function_name Fun.Count = codes "COUNT"
function_name Fun.Abs = codes "ABS"
function_name Fun.Mod = codes "MOD"
function_name Fun.Quotient = codes "QUOTIENT"
function_name Fun.Index = codes "INDEX"
function_name Fun.Match = codes "MATCH"
function_name Fun.VLookup = codes "VLOOKUP"
function_name Fun.HLookup = codes "HLOOKUP"
function_name Fun.Left = codes "LEFT"
function_name Fun.Right = codes "RIGHT"
function_name Fun.Mid = codes "MID"
function_name Fun.Len = codes "LEN"

abbrev pub all_functions : List Fun
all_functions = Fun.If ∷ Fun.And ∷ Fun.Or ∷ Fun.Not ∷ Fun.Choose ∷ Fun.IfError ∷ Fun.IsError ∷ Fun.Sum ∷ Fun.Min ∷ Fun.Max ∷ Fun.Count ∷ Fun.Abs ∷ Fun.Mod ∷ Fun.Quotient ∷ Fun.Index ∷ Fun.Match ∷ Fun.VLookup ∷ Fun.HLookup ∷ Fun.Left ∷ Fun.Right ∷ Fun.Mid ∷ Fun.Len ∷ []

abbrev pub named_in : List Fun → List ℕ → Option Fun
named_in [] name = None
named_in (f ∷ rest) name = if bytes_eq name (function_name f) then Some f else named_in rest name

-- the function with this name, in either case
unfoldable pub function_named : List ℕ → Option Fun
function_named word = named_in all_functions (upper word)
