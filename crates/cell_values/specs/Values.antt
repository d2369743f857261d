-- Values: which texts they name, and what arithmetic and comparison take them as.
use Rattle.std.specs.Prelude.{ℕ, ℤ, pos, Bool, true, false, ⊤, List, Option, Some, None}
use Rattle.cell_values.specs.declared.values.Value.{Value}
use Rattle.cell_values.specs.declared.values.Shown.{Shown}
use Rattle.cell_values.specs.Texts.{Texts, text_at, IsTextOf}
use Rattle.cell_values.specs.ShortTexts.{short_bytes, IsShort}

-- a text's number is one of these texts, and a short text has its bytes in itself
abbrev pub IsValueOf : Texts → Value → Type 0
IsValueOf ts (Value.Number n) = ⊤
IsValueOf ts (Value.Text t) = IsTextOf ts t
IsValueOf ts (Value.Short t) = IsShort t
IsValueOf ts (Value.Bool b) = ⊤
IsValueOf ts Value.Blank = ⊤
IsValueOf ts (Value.Error c) = ⊤

abbrev pub IsShownOf : Texts → Shown → Type 0
IsShownOf ts (Shown.Val v) = IsValueOf ts v
IsShownOf ts (Shown.Cycle n) = ⊤
IsShownOf ts Shown.ToCycle = ⊤

abbrev pub is_error : Value → Bool
is_error (Value.Number n) = false
is_error (Value.Text t) = false
is_error (Value.Short t) = false
is_error (Value.Bool b) = false
is_error Value.Blank = false
is_error (Value.Error c) = true

-- what arithmetic takes a value as: Blank is 0, and Text and Bool have no number
abbrev pub as_number : Value → Option ℤ
as_number (Value.Number n) = Some n
as_number (Value.Text t) = None
as_number (Value.Short t) = None
as_number (Value.Bool b) = None
as_number Value.Blank = Some (pos 0)
as_number (Value.Error c) = None

-- the bytes of a text, of either kind; other values have none
abbrev pub text_of : Texts → Value → Option (List ℕ)
text_of ts (Value.Number n) = None
text_of ts (Value.Text t) = Some (text_at ts t)
text_of ts (Value.Short t) = Some (short_bytes t)
text_of ts (Value.Bool b) = None
text_of ts Value.Blank = None
text_of ts (Value.Error c) = None
