-- How a sheet is read from CSV.
use Rattle.std.specs.Prelude.{ℕ, ◌-◌, Bool, not, ◌&&◌, ◌==◌, nat_le, if◌then◌else◌, List, [], ◌∷◌, ◌++◌, length, map, fold, Option, Some, None}
use Rattle.std.specs.List.{enumerate_from, flat_map}
use Rattle.std.specs.Str.{is_utf8}
use Rattle.csv.specs.Reading.{default_config, records, strip_bom}
use Rattle.cell_values.specs.declared.TheConstants.{LAST_COLUMN, LAST_ROW}
use Rattle.cell_values.specs.declared.address.Addr.{Addr}
use Rattle.cell_values.specs.declared.fields.Raw.{Raw}
use Rattle.cell_values.specs.Texts.{Texts}
use Rattle.cell_values.specs.Fields.{raw_of}
use Rattle.sheet_csv.specs.declared.reading.SheetFault.{SheetFault}

-- a field with its row and its column, both from 1
pub record Field : Type 0 where
  pub row : ℕ
  pub col : ℕ
  pub bytes : List ℕ

-- the fields of a record, each in its column
abbrev pub row_fields : ℕ × List (List ℕ) → List Field
row_fields (row, fields) = map (λ (col, bytes). record { row = row; col = col; bytes = bytes }) (enumerate_from 1 fields)

-- the fields of records from a row on, row by row
unfoldable pub fields_from : ℕ → List (List (List ℕ)) → List Field
fields_from row rows = flat_map row_fields (enumerate_from row rows)

-- the fields of a text of CSV without headers, behind a byte order mark if it has one, in order
abbrev pub sheet_fields : List ℕ → List Field
sheet_fields bytes = fields_from 1 (records default_config (strip_bom bytes))

abbrev pub is_empty : Field → Bool
is_empty f = length f.bytes == 0

abbrev pub is_in_sheet : Field → Bool
is_in_sheet f = nat_le f.row LAST_ROW && nat_le f.col LAST_COLUMN

-- the first cause, in this order, why a field is refused where so many more cells may come
unfoldable pub fault_of : ℕ → Field → Option SheetFault
fault_of room f =
    if not (is_utf8 f.bytes) then Some (SheetFault.NotUtf8 f.row f.col)
    else if is_empty f then None
    else if not (is_in_sheet f) then Some (SheetFault.OutOfSheet f.row f.col)
    else if room == 0 then Some (SheetFault.TooManyCells f.row f.col)
    else None

abbrev pub or_first : Option SheetFault → Option SheetFault → Option SheetFault
or_first (Some fault) other = Some fault
or_first None other = other

-- how many more cells may come behind a field
abbrev pub room_after : ℕ → Field → ℕ
room_after room f = if is_empty f then room else room - 1

-- the fault of the first field that is refused; each field before it that is not empty took a cell's room
unfoldable pub first_fault : ℕ → List Field → Option SheetFault
first_fault room [] = None
first_fault room (f ∷ rest) = or_first (fault_of room f) (first_fault (room_after room f) rest)

-- the texts and the cells so far
abbrev pub Sheet : Type 0
Sheet = Texts × List (Addr × Raw)

abbrev pub cell_at : ℕ → Field → Addr
cell_at sheet f = record { sheet = sheet; row = f.row; col = f.col }

-- one more field: it is a cell where it is not empty, and its text is interned
unfoldable pub with_field : ℕ → Sheet → Field → Sheet
with_field sheet (ts, cells) f =
    if is_empty f then (ts, cells)
    else ((raw_of ts f.bytes).0, cells ++ (cell_at sheet f, (raw_of ts f.bytes).1) ∷ [])

-- the cells of the fields in order, and the texts with theirs interned in order
abbrev pub cells_of : ℕ → Texts → List Field → Sheet
cells_of sheet ts fields = fold (with_field sheet) (ts, []) fields
