-- The field that a cell is saved as.
use Rattle.std.specs.Prelude.{ℕ, Bool, false, not, ◌&&◌, nat_eq, nat_lt, if◌then◌else◌, Option, Some, None, List, [], ◌∷◌, length}
use Rattle.std.specs.List.{starts_with}
use Rattle.std.specs.Str.{bytes_eq}
use Rattle.cell_values.specs.declared.address.Addr.{Addr}
use Rattle.cell_values.specs.declared.fields.Raw.{Raw}
use Rattle.cell_values.specs.Fields.{raw_of}
use Rattle.cell_values.specs.Order.{entry_at}
use Rattle.cell_values.specs.ShownText.{bool_text, int_text}
use Rattle.cell_values.specs.Texts.{Texts, text_at}
use Rattle.formula_trees.specs.declared.TheConstants.{MAX_FORMULA_BYTES}
use Rattle.formula_grammar.specs.Printed.{printed}
use Rattle.demand_spec.specs.Book.{Book, Content}

-- the byte order mark, U+FEFF in UTF-8, which a reader of CSV drops at the start of a sheet
abbrev pub byte_order_mark : List ℕ
byte_order_mark = 239 ∷ 187 ∷ 191 ∷ []

abbrev pub begins_with_mark : List ℕ → Bool
begins_with_mark bytes = starts_with nat_eq bytes byte_order_mark

-- a field was read as the text of these bytes
abbrev pub is_text : List ℕ → Texts × Raw → Bool
is_text bytes (ts, Raw.Nothing) = false
is_text bytes (ts, Raw.Number n) = false
is_text bytes (ts, Raw.Text t) = bytes_eq (text_at ts t) bytes
is_text bytes (ts, Raw.Bool b) = false
is_text bytes (ts, Raw.Formula text) = false

-- the bytes as a field are read as a text, and as this one
abbrev pub reads_as_text : List ℕ → Bool
reads_as_text bytes = is_text bytes (raw_of [] bytes)

-- a text as it is, or behind a `'` where it would be read as something else, or its mark dropped
abbrev pub saved_text : List ℕ → List ℕ
saved_text bytes = if reads_as_text bytes && not (begins_with_mark bytes) then bytes else 39 ∷ bytes

-- the field of what a cell holds: a number in decimal, TRUE or FALSE, a text, or the formula as it is printed there
abbrev pub saved_field : List (List ℕ) → Texts → Addr → Content → List ℕ
saved_field names ts at (Content.Number n) = int_text n
saved_field names ts at (Content.Text t) = saved_text (text_at ts t)
saved_field names ts at (Content.Truth b) = bool_text b
saved_field names ts at (Content.Formula tree) = printed names ts at tree

-- an empty cell has the empty field
abbrev pub field_or_empty : List (List ℕ) → Texts → Addr → Option Content → List ℕ
field_or_empty names ts at None = []
field_or_empty names ts at (Some c) = saved_field names ts at c

-- the field of a cell of the book
abbrev pub saved_cell : List (List ℕ) → Book → Addr → List ℕ
saved_cell names b a = field_or_empty names b.texts a (entry_at b.cells a)

-- a formula that prints to more than 1,024 bytes, which no sheet may hold
abbrev pub is_long : List (List ℕ) → Texts → Addr → Content → Bool
is_long names ts at (Content.Number n) = false
is_long names ts at (Content.Text t) = false
is_long names ts at (Content.Truth b) = false
is_long names ts at (Content.Formula tree) = nat_lt MAX_FORMULA_BYTES (length (printed names ts at tree))
