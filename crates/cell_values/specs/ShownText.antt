-- The texts that values show.
use Rattle.std.specs.Prelude.{ℕ, ℤ, Bool, true, false, List, [], ◌++◌, codes}
use Rattle.std.specs.Fmt.{decimal, signed_decimal}
use Rattle.cell_values.specs.declared.values.Code.{Code}
use Rattle.cell_values.specs.declared.values.Value.{Value}
use Rattle.cell_values.specs.declared.values.Shown.{Shown}
use Rattle.cell_values.specs.Texts.{Texts, text_at}
use Rattle.cell_values.specs.ShortTexts.{short_bytes}

-- the decimal digits, with `-` in front where the number is negative
abbrev pub int_text : ℤ → List ℕ
int_text n = signed_decimal n

abbrev pub bool_text : Bool → List ℕ
bool_text true = codes "TRUE"
bool_text false = codes "FALSE"

abbrev pub code_text : Code → List ℕ
code_text Code.Div = codes "#DIV/0!"
code_text Code.Value = codes "#VALUE!"
code_text Code.Ref = codes "#REF!"
code_text Code.Num = codes "#NUM!"
code_text Code.Na = codes "#N/A"

abbrev pub value_text : Texts → Value → List ℕ
value_text ts (Value.Number n) = int_text n
value_text ts (Value.Text t) = text_at ts t
value_text ts (Value.Short t) = short_bytes t
value_text ts (Value.Bool b) = bool_text b
value_text ts Value.Blank = []
value_text ts (Value.Error c) = code_text c

-- a cycle's mark tells how many cells the cycle has
abbrev pub shown_text : Texts → Shown → List ℕ
shown_text ts (Shown.Val v) = value_text ts v
shown_text ts (Shown.Cycle n) = codes "#CYCLE(" ++ (decimal n ++ codes ")!")
shown_text ts Shown.ToCycle = codes "#TOCYCLE!"
