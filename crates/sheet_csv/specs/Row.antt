-- How a row is written as CSV.
use Rattle.std.specs.Prelude.{ℕ, Bool, ◌||◌, ◌==◌, if◌then◌else◌, List, [], ◌∷◌, ◌++◌, map}
use Rattle.std.specs.List.{flat_map, join_with_byte, list_any}

-- a comma, a double quote, a carriage return or a line feed
abbrev pub is_special : ℕ → Bool
is_special b = (b == 44) || (b == 34) || (b == 13) || (b == 10)

-- each double quote twice
abbrev pub doubled : List ℕ → List ℕ
doubled field = flat_map (λ b. if b == 34 then 34 ∷ 34 ∷ [] else b ∷ []) field

-- a field, in double quotes where it has a special byte
abbrev pub field_text : List ℕ → List ℕ
field_text field = if list_any is_special field then 34 ∷ (doubled field ++ 34 ∷ []) else field

-- the fields with commas between them; a row of one empty field is two double quotes
abbrev pub fields_text : List (List ℕ) → List ℕ
fields_text ([] ∷ []) = 34 ∷ 34 ∷ []
fields_text fields = join_with_byte 44 (map field_text fields)

-- the row and its line feed
abbrev pub row_text : List (List ℕ) → List ℕ
row_text fields = fields_text fields ++ 10 ∷ []
