-- The names of the sheets.
use Rattle.std.specs.Prelude.{◌≡◌, ℕ, ◌+◌, ◌-◌, ◌≤◌, ⊤, Bool, false, not, ◌&&◌, ◌||◌, ◌==◌, nat_eq, nat_lt, nat_le, if◌then◌else◌, is_none, List, [], ◌∷◌, ◌++◌, length, take, Option, Some, None, codes}
use Rattle.std.specs.List.{after_last, ends_with, list_all, AllPass}
use Rattle.std.specs.Char.{is_ascii_alphabetic, is_ascii_alphanumeric, is_ascii_control}
use Rattle.cell_values.specs.declared.names.NameFault.{NameFault}
use Rattle.cell_values.specs.Interned.{number_of, AreDistinct}

-- what stands behind the last `/`
abbrev pub file_name : List ℕ → List ℕ
file_name path = after_last (λ c. c == 47) path

-- without one `.csv` at the end
abbrev pub without_csv : List ℕ → List ℕ
without_csv name = if ends_with nat_eq name (codes ".csv") then take (length name - 4) name else name

-- the name of a file's sheet
unfoldable pub sheet_name : List ℕ → List ℕ
sheet_name path = without_csv (file_name path)

-- no `'`, no `!` and no control character
abbrev pub is_name_byte : ℕ → Bool
is_name_byte c = not (c == 39) && not (c == 33) && not (is_ascii_control c)

-- 1 to 64 bytes that may stand in a name
unfoldable pub is_good_name : List ℕ → Bool
is_good_name name = nat_lt 0 (length name) && nat_le (length name) 64 && list_all is_name_byte name

-- a name that is good and equals no earlier one
unfoldable pub is_new_name : List (List ℕ) → List ℕ → Bool
is_new_name earlier name = is_good_name name && is_none (number_of earlier name)

-- the number, counted from 1, of the first name that is bad or equals an earlier one
abbrev pub first_bad : List (List ℕ) → List (List ℕ) → Option ℕ
first_bad earlier [] = None
first_bad earlier (name ∷ rest) = if is_new_name earlier name then first_bad (earlier ++ name ∷ []) rest else Some (length earlier + 1)

abbrev pub bad_name : List (List ℕ) → Option ℕ
bad_name names = first_bad [] names

-- why a name is refused behind earlier ones; want of memory may come at any time
abbrev pub IsRefusalOf : List (List ℕ) → List ℕ → NameFault → Type 0
IsRefusalOf earlier name (NameFault.Bad k) = (k ≡ length earlier + 1) × (is_new_name earlier name ≡ false)
IsRefusalOf earlier name NameFault.OutOfMemory = ⊤

-- why names are refused; want of memory may come at any time
abbrev pub IsFaultOf : List (List ℕ) → NameFault → Type 0
IsFaultOf names (NameFault.Bad k) = bad_name names ≡ Some k
IsFaultOf names NameFault.OutOfMemory = ⊤

-- the names of 1 to 16 sheets: each is good, and no two are equal
pub record AreSheetNames (names : List (List ℕ)) : Type 0 where
  pub some : 1 ≤ length names
  pub few : length names ≤ 16
  pub good : AllPass is_good_name names
  pub distinct : AreDistinct names

-- a letter or `_`, and then letters, digits and `_`
unfoldable pub is_plain_name : List ℕ → Bool
is_plain_name [] = false
is_plain_name (c ∷ rest) = (is_ascii_alphabetic c || c == 95) && list_all (λ d. is_ascii_alphanumeric d || d == 95) rest

-- the name and `!`; a name that is not plain stands in single quotes
abbrev pub prefix_text : List ℕ → List ℕ
prefix_text name = if is_plain_name name then name ++ codes "!" else codes "'" ++ (name ++ codes "'!")
