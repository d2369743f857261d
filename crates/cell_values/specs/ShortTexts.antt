-- Short texts: at most 48 bytes of UTF-8, and zeros behind them.
use Rattle.std.specs.Prelude.{◌≡◌, ℕ, ◌-◌, Bool, ◌&&◌, nat_le, if◌then◌else◌, List, ◌++◌, length, take, replicate, Option, Some, None, IsTrue}
use Rattle.std.specs.Str.{is_utf8, bytes_eq}
use Rattle.cell_values.specs.declared.TheConstants.{MAX_SHORT_BYTES}
use Rattle.cell_values.specs.declared.short.ShortText.{ShortText}

-- few enough bytes, and UTF-8
abbrev pub is_short : List ℕ → Bool
is_short bs = nat_le (length bs) MAX_SHORT_BYTES && is_utf8 bs

-- the bytes, and zeros behind them
abbrev pub padded : List ℕ → List ℕ
padded bs = bs ++ replicate (MAX_SHORT_BYTES - length bs) 0

-- the short text with these bytes
abbrev pub short_text : List ℕ → ShortText
short_text bs = record { len = length bs; bytes = padded bs }

-- the bytes of a short text
abbrev pub short_bytes : ShortText → List ℕ
short_bytes t = take t.len t.bytes

-- the short text with these bytes, if they are those of one
abbrev pub short_of : List ℕ → Option ShortText
short_of bs = if is_short bs then Some (short_text bs) else None

-- the short text with this length and these bytes, zeros behind them, if there is one
abbrev pub padded_of : ℕ → List ℕ → Option ShortText
padded_of len bytes = if nat_le len MAX_SHORT_BYTES && bytes_eq (padded (take len bytes)) bytes then short_of (take len bytes) else None

-- its bytes are those of a short text, and zeros stand behind them
pub record IsShort (t : ShortText) : Type 0 where
  pub padding : t ≡ short_text (short_bytes t)
  pub short : IsTrue (is_short (short_bytes t))

-- the short text has this length and these bytes, zeros behind them
pub record IsPadded (len : ℕ) (bytes : List ℕ) (t : ShortText) : Type 0 where
  pub same_len : t.len ≡ len
  pub same_bytes : t.bytes ≡ bytes
  pub short : IsShort t

-- two short texts with the same bytes are one
abbrev pub AreOneByBytes : Type 0
AreOneByBytes = (t u : ShortText) → IsShort t → IsShort u → short_bytes t ≡ short_bytes u → t ≡ u
