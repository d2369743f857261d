-- How sheets become a book.
use Rattle.std.specs.Prelude.{ℕ, ◌+◌, ◌-◌, nat_lt, cond, List, [], ◌∷◌, ◌++◌, length, fold, Option, Some, None, Result, Ok, Err}
use Rattle.std.specs.Result.{result_map_both}
use Rattle.cell_values.specs.declared.TheConstants.{MAX_BOOK_CELLS}
use Rattle.cell_values.specs.Texts.{Texts}
use Rattle.formula_grammar.specs.Reading.{Reading}
use Rattle.sheet_csv.specs.declared.reading.SheetFault.{SheetFault}
use Rattle.sheet_csv.specs.Sheet.{Sheet, sheet_fields, first_fault, cells_of}
use Rattle.demand_spec.specs.Book.{Book}
use Rattle.sheet_loading.specs.declared.TheConstants.{SHEET_BYTES}
use Rattle.sheet_loading.specs.declared.faults.FieldFault.{FieldFault}
use Rattle.sheet_loading.specs.declared.faults.SheetRefusal.{SheetRefusal}
use Rattle.sheet_loading.specs.Contents.{Names, fields_read}

-- the refusal for a field's fault; want of memory is no fault of a sheet's, and what stands here for it is never due
abbrev pub refusal_of : SheetFault → SheetRefusal
refusal_of (SheetFault.NotUtf8 row col) = SheetRefusal.Field row col FieldFault.NotUtf8
refusal_of (SheetFault.OutOfSheet row col) = SheetRefusal.Field row col FieldFault.OutOfSheet
refusal_of (SheetFault.TooManyCells row col) = SheetRefusal.Field row col FieldFault.TooManyCells
refusal_of SheetFault.OutOfMemory = SheetRefusal.TooLong

abbrev pub unless_fault : Option SheetFault → Result Book SheetRefusal → Result Book SheetRefusal
unless_fault (Some fault) b = Err (refusal_of fault)
unless_fault None b = b

abbrev pub book_of_sheet : Reading → Names → Sheet → Result Book SheetRefusal
book_of_sheet read names (ts, cells) = fields_read read names ts cells

-- the cells of the sheet with this number, with its texts behind these, or the first refusal: that of a field where so
-- many cells may come, and then that of a formula
unfoldable pub sheet_read : Reading → Names → ℕ → Texts → ℕ → List ℕ → Result Book SheetRefusal
sheet_read read names sheet ts room bytes =
    unless_fault (first_fault room (sheet_fields bytes)) (book_of_sheet read names (cells_of sheet ts (sheet_fields bytes)))

-- the cells of a sheet behind those of the book
abbrev pub with_sheet : Book → Book → Book
with_sheet b more = record { cells = b.cells ++ more.cells; texts = more.texts }

-- the book with one more sheet, where so many bytes may still come; all sheets share the cells that a book may have
unfoldable pub sheet_added : Reading → Names → ℕ → ℕ → Book → List ℕ → Result Book SheetRefusal
sheet_added read names sheet left b bytes =
    cond (nat_lt left (length bytes)) (Err SheetRefusal.TooLong)
    (result_map_both (with_sheet b) (λ why. why) (sheet_read read names sheet b.texts (MAX_BOOK_CELLS - length b.cells) bytes))

abbrev pub then_sheets : ℕ → Result Book SheetRefusal → (Book → Result Book (ℕ × SheetRefusal)) → Result Book (ℕ × SheetRefusal)
then_sheets sheet (Ok b) others = others b
then_sheets sheet (Err why) others = Err (sheet, why)

-- the book with more sheets, numbered from `sheet` on, or the number of the first that is refused, and why
unfoldable pub add_sheets : Reading → Names → ℕ → ℕ → Book → List (List ℕ) → Result Book (ℕ × SheetRefusal)
add_sheets read names sheet left b [] = Ok b
add_sheets read names sheet left b (bytes ∷ rest) =
    then_sheets sheet (sheet_added read names sheet left b bytes) (λ c. add_sheets read names (sheet + 1) (left - length bytes) c rest)

-- the bytes that may still come behind sheets
abbrev pub left_behind : ℕ → List (List ℕ) → ℕ
left_behind left sheets = fold (λ n bytes. n - length bytes) left sheets

abbrev pub no_cells : Book
no_cells = record { cells = []; texts = [] }

-- the book of all sheets in order, or the number of the first that is refused, and why
unfoldable pub sheets_read : Reading → Names → List (List ℕ) → Result Book (ℕ × SheetRefusal)
sheets_read read names sheets = add_sheets read names 0 SHEET_BYTES no_cells sheets
