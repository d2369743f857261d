-- Texts, each kept once under a number.
use Rattle.std.specs.Prelude.{◌≡◌, ℕ, ◌<◌, List, [], ◌∷◌, ◌++◌, length, take, slice_index_or, Option, Some, None, position}
use Rattle.std.specs.Str.{bytes_eq}
use Rattle.cell_values.specs.declared.interned.TextId.{TextId}
use Rattle.cell_values.specs.Texts.{Texts}

-- the number of a text, if it is there
unfoldable pub number_of : Texts → List ℕ → Option ℕ
number_of ts text = position (bytes_eq text) ts

abbrev pub with_number : Texts → List ℕ → Option ℕ → Texts × TextId
with_number ts text (Some n) = (ts, record { 0 = n })
with_number ts text None = (ts ++ text ∷ [], record { 0 = length ts })

-- the texts and the text's number after interning it: a text that is not there gets the next number
abbrev pub interned : Texts → List ℕ → Texts × TextId
interned ts text = with_number ts text (number_of ts text)

-- different numbers have different texts
pub record AreDistinct (ts : Texts) : Type 0 where
  pub one_number : (i j : ℕ) → i < length ts → j < length ts → slice_index_or ts i [] ≡ slice_index_or ts j [] → i ≡ j

-- the new texts begin with the old ones, so each number keeps its text
abbrev pub KeepsTexts : Texts → Texts → Type 0
KeepsTexts old new = take (length old) new ≡ old
