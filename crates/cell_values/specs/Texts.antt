-- Interned texts.
use Rattle.std.specs.Prelude.{ℕ, ◌<◌, List, [], length, slice_index_or}
use Rattle.cell_values.specs.declared.interned.TextId.{TextId}

-- the bytes of the texts, each with its number
abbrev pub Texts : Type 0
Texts = List (List ℕ)

abbrev pub text_at : Texts → TextId → List ℕ
text_at ts t = slice_index_or ts t.0 []

-- the number is one of the texts'
abbrev pub IsTextOf : Texts → TextId → Type 0
IsTextOf ts t = t.0 < length ts
