-- The rows that are saved of a sheet, and why it is not saved.
use Rattle.std.specs.Prelude.{◌≡◌, ℕ, true, ◌==◌, Option, Some, None, option_map, List, [], ◌∷◌, map}
use Rattle.std.specs.List.{filter, filter_map, flat_map}
use Rattle.std.specs.Str.{is_utf8}
use Rattle.cell_values.specs.declared.address.Addr.{Addr}
use Rattle.cell_values.specs.Areas.{numbers_from}
use Rattle.cell_values.specs.Order.{entry_at}
use Rattle.cell_values.specs.Texts.{Texts}
use Rattle.demand_spec.specs.Book.{Book}
use Rattle.demand_spec.specs.Edits.{Cells}
use Rattle.demand_spec.specs.Sheets.{last_column, last_row}
use Rattle.sheet_csv.specs.Row.{row_text}
use Rattle.book_save.specs.declared.faults.SaveFault.{SaveFault}
use Rattle.book_save.specs.Fields.{is_long, saved_cell}

abbrev pub place : ℕ → ℕ → ℕ → Addr
place sheet row col = record { sheet = sheet; row = row; col = col }

-- the first cells of a row, from column A on
abbrev pub row_places : ℕ → ℕ → ℕ → List Addr
row_places sheet columns row = map (place sheet row) (numbers_from 1 columns)

-- the fields of the first cells of a row
abbrev pub row_fields : List (List ℕ) → Book → ℕ → ℕ → ℕ → List (List ℕ)
row_fields names b sheet columns row = map (saved_cell names b) (row_places sheet columns row)

-- a row of the sheet from column A to the last one that any row uses
unfoldable pub saved_row : List (List ℕ) → Book → ℕ → ℕ → List ℕ
saved_row names b sheet row = row_text (row_fields names b sheet (last_column sheet b.cells) row)

-- the sheet's rows, from row 1 to the last one that holds a cell
abbrev pub saved_rows : List (List ℕ) → Book → ℕ → List (List ℕ)
saved_rows names b sheet = map (saved_row names b sheet) (numbers_from 1 (last_row sheet b.cells))

-- the cells of a sheet, in order
abbrev pub cells_on : ℕ → Cells → Cells
cells_on sheet cells = filter (λ c. c.0.sheet == sheet) cells

abbrev pub first_address : Cells → Option Addr
first_address [] = None
first_address (c ∷ rest) = Some c.0

-- the first of these cells whose formula is too long
abbrev pub first_long_in : List (List ℕ) → Texts → Cells → Option Addr
first_long_in names ts cells = first_address (filter (λ c. is_long names ts c.0 c.1) cells)

-- the first cell of the sheet whose formula is too long
abbrev pub first_long : List (List ℕ) → Book → ℕ → Option Addr
first_long names b sheet = first_long_in names b.texts (cells_on sheet b.cells)

-- the fault is that of the first formula that is too long, unless memory ran out
abbrev pub IsSaveFault : Option Addr → SaveFault → Type 0
IsSaveFault first (SaveFault.TooLong at) = first ≡ Some at
IsSaveFault first SaveFault.OutOfMemory = Unit {0}

-- each field of the sheet is UTF-8
abbrev pub AreUtf8 : List (List ℕ) → Book → ℕ → Type 0
AreUtf8 names b sheet = (row col : ℕ) → is_utf8 (saved_cell names b (place sheet row col)) ≡ true

-- the cells that stand at these places, in their order
abbrev pub cells_at : Cells → List Addr → Cells
cells_at cells places = filter_map (λ a. option_map (λ c. (a, c)) (entry_at cells a)) places

-- the places of the first rows and columns, row by row
abbrev pub places : ℕ → ℕ → ℕ → List Addr
places sheet columns rows = flat_map (row_places sheet columns) (numbers_from 1 rows)

-- the first formula at these places that is too long
abbrev pub first_long_at : List (List ℕ) → Book → List Addr → Option Addr
first_long_at names b at = first_long_in names b.texts (cells_at b.cells at)

-- the fields at these places are UTF-8
abbrev pub HaveUtf8 : List (List ℕ) → Book → Addr → Type 0
HaveUtf8 names b a = is_utf8 (saved_cell names b a) ≡ true
