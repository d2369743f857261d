-- Texts that are computed of values: `&`, LEFT, RIGHT, MID and LEN.
use Rattle.std.specs.Prelude.{ℕ, zero, suc, ◌-◌, ℤ, pos, negsuc, List, ◌++◌, length, take, drop, encode_utf8_all, Option, Some, None, option_and_then, if◌then◌else◌}
use Rattle.std.specs.Str.{chars}
use Rattle.cell_values.specs.declared.values.Code.{Code}
use Rattle.cell_values.specs.declared.values.Value.{Value}
use Rattle.cell_values.specs.Texts.{Texts}
use Rattle.cell_values.specs.ShownText.{value_text}
use Rattle.cell_values.specs.ShortTexts.{is_short, short_text}
use Rattle.cell_values.specs.Values.{as_number}

-- the text with these bytes, `#VALUE!` where they are too many for a short text
abbrev pub short_or_fail : List ℕ → Value
short_or_fail bs = if is_short bs then Value.Short (short_text bs) else Value.Error Code.Value

-- `n` characters from number `from` on, counted from 0, or those that there are
abbrev pub part : List ℕ → ℕ → ℕ → List ℕ
part xs from n = encode_utf8_all (take n (drop from (chars xs)))

-- the text of `a` followed by that of `b`
abbrev pub joined : Texts → Value → Value → Value
joined ts a b = short_or_fail (value_text ts a ++ value_text ts b)

abbrev pub not_negative : Option ℤ → Option ℕ
not_negative (Some (pos n)) = Some n
not_negative (Some (negsuc n)) = None
not_negative None = None

-- how many characters a value asks for: Blank is 0; no negative number, no Text and no Bool is a count
abbrev pub count_of : Value → Option ℕ
count_of v = not_negative (as_number v)

abbrev pub one_less : ℕ → Option ℕ
one_less zero = None
one_less (suc n) = Some n

-- the character, counted from 0, that a value names, counting from 1
abbrev pub start_of : Value → Option ℕ
start_of v = option_and_then one_less (count_of v)

-- `#VALUE!` where there is no such count
abbrev pub with_count : Option ℕ → (ℕ → Value) → Value
with_count (Some n) f = f n
with_count None f = Value.Error Code.Value

-- the first `n` characters of the text, or all
abbrev pub left_of : Texts → Value → Value → Value
left_of ts t n = with_count (count_of n) (λ k. short_or_fail (part (value_text ts t) 0 k))

-- the last `n` characters, or all
abbrev pub right_of : Texts → Value → Value → Value
right_of ts t n = with_count (count_of n) (λ k. short_or_fail (part (value_text ts t) (length (chars (value_text ts t)) - k) k))

-- at most `n` characters from the `s`-th on, counted from 1, and the empty text past the end
abbrev pub mid_of : Texts → Value → Value → Value → Value
mid_of ts t s n = with_count (start_of s) (λ i. with_count (count_of n) (λ k. short_or_fail (part (value_text ts t) i k)))

-- the number of characters
abbrev pub length_of : Texts → Value → Value
length_of ts t = Value.Number (pos (length (chars (value_text ts t))))
