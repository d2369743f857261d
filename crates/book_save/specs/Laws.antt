-- What is saved is read back.
use Rattle.std.specs.Prelude.{◌≡◌, ℕ, ◌<◌, ◌≤◌, false, Some, None, List, [], ◌∷◌, length, map, All}
use Rattle.std.specs.List.{concat, flat_map}
use Rattle.cell_values.specs.declared.address.Addr.{Addr}
use Rattle.cell_values.specs.declared.fields.Raw.{Raw}
use Rattle.cell_values.specs.Fields.{raw_of, text_raw}
use Rattle.cell_values.specs.Interned.{AreDistinct}
use Rattle.cell_values.specs.Names.{AreSheetNames}
use Rattle.cell_values.specs.Order.{entry_at}
use Rattle.cell_values.specs.Texts.{Texts}
use Rattle.csv.specs.Reading.{default_config, records, strip_bom}
use Rattle.sheet_csv.specs.Row.{row_text}
use Rattle.sheet_csv.specs.Sheet.{cells_of, fields_from, first_fault, sheet_fields}
use Rattle.formula_grammar.specs.Printed.{printed}
use Rattle.demand_spec.specs.Book.{Book, Content}
use Rattle.workbook_core.specs.Books.{IsWorkbook, SharedBook}
use Rattle.workbook_core.specs.Edits.{Puts, with_field}
use Rattle.book_save.specs.Fields.{begins_with_mark, is_long, saved_text}
use Rattle.book_save.specs.Rows.{AreUtf8, cells_on, saved_rows}

-- ---- rows

-- the first field of the first row, if there is one
abbrev pub first_field : List (List (List ℕ)) → List ℕ
first_field [] = []
first_field ([] ∷ rows) = []
first_field ((field ∷ fields) ∷ rows) = field

-- the rows as text, one after the other
abbrev pub rows_text : List (List (List ℕ)) → List ℕ
rows_text rows = flat_map row_text rows

-- each row has a field, and the first field would not be taken for the byte order mark
pub record AreWritable (rows : List (List (List ℕ))) : Type 0 where
  pub some : All (λ row. 0 < length row) rows
  pub no_mark : begins_with_mark (first_field rows) ≡ false

-- the records of what is written of rows are the rows
abbrev pub RowsReadBack : Type 0
RowsReadBack = (rows : List (List (List ℕ))) → AreWritable rows → records default_config (strip_bom (rows_text rows)) ≡ rows

-- and its fields are those of the rows, the first row being row 1
abbrev pub FieldsReadBack : Type 0
FieldsReadBack = (rows : List (List (List ℕ))) → AreWritable rows → sheet_fields (rows_text rows) ≡ fields_from 1 rows

-- ---- texts

-- a saved text is read as that text, among any texts
abbrev pub TextReadsBack : Type 0
TextReadsBack = (ts : Texts) (bytes : List ℕ) → raw_of ts (saved_text bytes) ≡ text_raw ts bytes

-- ---- sheets

-- the field of what a cell holds, as it is read
abbrev pub field_read : List (List ℕ) → Texts → Addr → Content → Raw
field_read names ts at (Content.Number n) = Raw.Number n
field_read names ts at (Content.Text t) = Raw.Text t
field_read names ts at (Content.Truth b) = Raw.Bool b
field_read names ts at (Content.Formula tree) = Raw.Formula (printed names ts at tree)

-- the cells of a sheet in order, each with its field as it is read
abbrev pub fields_on : List (List ℕ) → Book → ℕ → List (Addr × Raw)
fields_on names b sheet = map (λ c. (c.0, field_read names b.texts c.0 c.1)) (cells_on sheet b.cells)

-- these bytes are read as the cells of the sheet over the book's texts, which stay as they are, and no field is refused
-- where so many cells may come
pub record IsReadBack (names : List (List ℕ)) (b : Book) (sheet room : ℕ) (bytes : List ℕ) : Type 0 where
  pub cells : cells_of sheet b.texts (sheet_fields bytes) ≡ (b.texts, fields_on names b sheet)
  pub taken : first_fault room (sheet_fields bytes) ≡ None

-- so are the saved rows of a sheet, one after the other
abbrev pub SheetReadsBack : Type 0
SheetReadsBack = (w : SharedBook) (sheet room : ℕ) → IsWorkbook w → AreDistinct w.book.texts → AreUtf8 w.names w.book sheet →
    length (cells_on sheet w.book.cells) ≤ room → IsReadBack w.names w.book sheet room (concat (saved_rows w.names w.book sheet))

-- the field of each cell, where its formula is not too long, puts into the cell what it holds, and interns nothing: a
-- formula is read as its tree
abbrev pub CellReadsBack : Type 0
CellReadsBack = (w : SharedBook) → IsWorkbook w → AreSheetNames w.names → AreDistinct w.book.texts → (a : Addr) (c : Content) →
    entry_at w.book.cells a ≡ Some c → is_long w.names w.book.texts a c ≡ false →
    Puts w.names w.book.texts a (field_read w.names w.book.texts a c) (Some c) × (with_field w.names w.book.texts (field_read w.names w.book.texts a c) ≡ w.book.texts)
