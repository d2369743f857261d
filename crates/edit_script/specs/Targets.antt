-- The cells, areas and sheets that a line names.
use Rattle.std.specs.Prelude.{ℕ, ◌*◌, ◌<◌, ◌≤◌, length, Bool, ◌==◌, nat_le, List, [], ◌∷◌, Option, Some, None, option_map, option_and_then, if◌then◌else◌}
use Rattle.std.specs.List.{list_any, before_first, after_first}
use Rattle.cell_values.specs.declared.TheConstants.{MAX_RANGE_CELLS}
use Rattle.cell_values.specs.declared.address.Addr.{Addr}
use Rattle.cell_values.specs.declared.address.Area.{Area}
use Rattle.cell_values.specs.Addresses.{IsOnSheet}
use Rattle.cell_values.specs.Areas.{between_cells, one_cell, height, width, IsArea}
use Rattle.cell_values.specs.CellText.{read_addr}
use Rattle.cell_values.specs.Interned.{number_of}
use Rattle.cell_values.specs.Names.{is_plain_name}

-- the names of the sheets
abbrev pub Names : Type 0
Names = List (List ℕ)

abbrev pub is_quote : ℕ → Bool
is_quote c = c == 39

abbrev pub is_bang : ℕ → Bool
is_bang c = c == 33

abbrev pub is_colon : ℕ → Bool
is_colon c = c == 58

-- a cell of one of the sheets
pub record IsCellOf (names : Names) (a : Addr) : Type 0 where
  pub on_sheet : IsOnSheet a
  pub of_sheets : a.sheet < length names

-- an area of one of the sheets, with no more cells than a range may have
pub record IsAreaOf (names : Names) (r : Area) : Type 0 where
  pub area : IsArea r
  pub of_sheets : r.sheet < length names
  pub few : height r * width r ≤ MAX_RANGE_CELLS

-- a text, cut behind a name in single quotes in front, if one stands there: the name, and the rest
abbrev pub quoted : List ℕ → Option (List ℕ) × List ℕ
quoted [] = (None, [])
quoted (c ∷ text) = if is_quote c then (Some (before_first is_quote text), after_first is_quote text) else (None, c ∷ text)

-- the cell that a text names on the sheet, if there is this sheet
abbrev pub on_sheet : Option ℕ → List ℕ → Option Addr
on_sheet sheet text = option_and_then (λ s. read_addr s text) sheet

-- the cell behind a quoted name, at once behind a `!`
abbrev pub behind_bang : Names → List ℕ → List ℕ → Option Addr
behind_bang names name [] = None
behind_bang names name (c ∷ text) = if is_bang c then on_sheet (number_of names name) text else None

-- the cell with or without a plain name in front and `!`; without one it is on the first sheet
abbrev pub plain_target : Names → List ℕ → Option Addr
plain_target names text =
    if list_any is_bang text then (if is_plain_name (before_first is_bang text) then on_sheet (number_of names (before_first is_bang text)) (after_first is_bang text) else None)
    else read_addr 0 text

abbrev pub target : Names → Option (List ℕ) → List ℕ → Option Addr
target names (Some name) rest = behind_bang names name rest
target names None rest = plain_target names rest

-- the cell that a text names
abbrev pub target_in : Names → List ℕ → Option Addr
target_in names text = target names (quoted text).0 (quoted text).1

-- the cell in front of the first such character behind a quoted name
abbrev pub target_before : (ℕ → Bool) → Names → List ℕ → Option Addr
target_before mark names text = target names (quoted text).0 (before_first mark (quoted text).1)

-- what stands behind that character
abbrev pub behind_target : (ℕ → Bool) → List ℕ → List ℕ
behind_target mark text = after_first mark (quoted text).1

-- the area, if it has no more cells than a range may have
abbrev pub if_few : Area → Option Area
if_few r = if nat_le (height r * width r) MAX_RANGE_CELLS then Some r else None

-- a cell; or two of one sheet with a colon between them, and then the rectangle between them
abbrev pub area_in : Names → List ℕ → Option Area
area_in names text =
    if list_any is_colon (quoted text).1
    then option_and_then (λ a. option_and_then (λ b. if_few (between_cells a b)) (read_addr a.sheet (behind_target is_colon text))) (target_before is_colon names text)
    else option_map one_cell (target_in names text)

-- the sheet with the name; the first one without a name
abbrev pub sheet_in : Names → List ℕ → Option ℕ
sheet_in names [] = Some 0
sheet_in names (c ∷ rest) = number_of names (c ∷ rest)
