-- Fields of a sheet, as read.
use Rattle.std.specs.Prelude.{ℕ, ℤ, pos, neg_ℤ, true, false, ⊤, ◌&&◌, ◌==◌, nat_lt, if◌then◌else◌, List, [], ◌∷◌, length, drop, Option, Some, None, codes}
use Rattle.std.specs.Str.{bytes_eq, all_ascii_digits}
use Rattle.std.specs.Str.Parse.{digits_value, starts_with_minus}
use Rattle.cell_values.specs.declared.fields.Raw.{Raw}
use Rattle.cell_values.specs.Numbers.{fits}
use Rattle.cell_values.specs.Texts.{Texts, IsTextOf}
use Rattle.cell_values.specs.Interned.{interned}

-- the number that one digit or more write under a sign, if it fits
abbrev pub signed_number : (ℕ → ℤ) → List ℕ → Option ℤ
signed_number sign digits = if nat_lt 0 (length digits) && all_ascii_digits digits && fits (sign (digits_value 10 digits)) then Some (sign (digits_value 10 digits)) else None

-- the number of a field of digits, with or without a `-` in front
unfoldable pub number_of_field : List ℕ → Option ℤ
number_of_field field = if starts_with_minus field then signed_number (λ n. neg_ℤ (pos n)) (drop 1 field) else signed_number pos field

abbrev pub text_raw : Texts → List ℕ → Texts × Raw
text_raw ts text = ((interned ts text).0, Raw.Text (interned ts text).1)

-- a field that begins with no sign of its kind, and the number that it writes, if it does
abbrev pub plain_raw : Texts → List ℕ → Option ℤ → Texts × Raw
plain_raw ts field (Some n) = (ts, Raw.Number n)
plain_raw ts field None = if bytes_eq field (codes "TRUE") then (ts, Raw.Bool true)
    else (if bytes_eq field (codes "FALSE") then (ts, Raw.Bool false) else text_raw ts field)

-- a field by the first rule that applies, and the texts with its text: nothing, `=` and a formula, `'` and a text,
-- a number, `TRUE` or `FALSE`, a text
abbrev pub raw_of : Texts → List ℕ → Texts × Raw
raw_of ts [] = (ts, Raw.Nothing)
raw_of ts (c ∷ rest) = if c == 61 then (ts, Raw.Formula (c ∷ rest))
    else (if c == 39 then text_raw ts rest else plain_raw ts (c ∷ rest) (number_of_field (c ∷ rest)))

-- a text's number is one of these texts
abbrev pub IsRawOf : Texts → Raw → Type 0
IsRawOf ts Raw.Nothing = ⊤
IsRawOf ts (Raw.Number n) = ⊤
IsRawOf ts (Raw.Text t) = IsTextOf ts t
IsRawOf ts (Raw.Bool b) = ⊤
IsRawOf ts (Raw.Formula text) = ⊤
