-- The sheets of files, as one book.
use Rattle.std.specs.Prelude.{◌≡◌, ℕ, ◌+◌, ◌-◌, List, [], ◌∷◌, length, Option, Some, None, IsSomeAnd, Result, Ok, Err, string_bytes}
use Rattle.byte_streams.specs.Folders.{StoredFile, file_named}
use Rattle.demand_spec.specs.Book.{Book}
use Rattle.formula_grammar.specs.Reading.{Reading, IsReading}
use Rattle.sheet_loading.specs.declared.TheConstants.{SHEET_BYTES}
use Rattle.sheet_loading.specs.declared.faults.SheetRefusal.{SheetRefusal}
use Rattle.sheet_loading.specs.Contents.{Names}
use Rattle.sheet_loading.specs.Loaded.{LoadedSheets, book_of}
use Rattle.sheet_loading.specs.Sheets.{no_cells, sheet_added}
use Rattle.puncalc_program.specs.declared.files.Loaded.{Loaded}
use Rattle.puncalc_program.specs.declared.stop.Stop.{Stop}
use Rattle.puncalc_program.specs.Refusals.{sheet_refused}

-- the book of all sheets; or a sheet is refused; or the folder lacks a file
pub data Load : Type 0 where
  Whole : Book → Load
  Refused : ℕ → SheetRefusal → Load
  Lacking : Load

-- with the bytes of a file, if it is there
abbrev pub with_file : Option (List ℕ) → (List ℕ → Load) → Load
with_file (Some bytes) next = next bytes
with_file None next = Lacking

-- with the book that has one sheet more, if that is not refused
abbrev pub of_sheet : ℕ → Result Book SheetRefusal → (Book → Load) → Load
of_sheet sheet (Ok b) next = next b
of_sheet sheet (Err why) next = Refused sheet why

-- the sheets of files in order behind those of a book, from this number on, where so many bytes may still come
unfoldable pub add_files : Reading → Names → List StoredFile → ℕ → ℕ → Book → List (List ℕ) → Load
add_files read names folder sheet left b [] = Whole b
add_files read names folder sheet left b (file ∷ files) =
    with_file (file_named folder file) (λ bytes. of_sheet sheet (sheet_added read names sheet left b bytes) (λ more. add_files read names folder (sheet + 1) (left - length bytes) more files))

-- the sheets of all files; all sheets share 64 MiB
abbrev pub files_loaded : Reading → Names → List StoredFile → List (List ℕ) → Load
files_loaded read names folder files = add_files read names folder 0 SHEET_BYTES no_cells files

-- the workbook has this book, and these names
abbrev pub IsWhole : Names → Book → Loaded → Type 0
IsWhole names b (Loaded.Whole w) = (w.book ≡ b) × (w.names ≡ names)
IsWhole names b (Loaded.Refused what) = ⊥

-- the text tells why the sheet is refused
abbrev pub IsRefusalOf : Names → ℕ → SheetRefusal → Loaded → Type 0
IsRefusalOf names sheet why (Loaded.Whole w) = ⊥
IsRefusalOf names sheet why (Loaded.Refused what) = string_bytes what ≡ sheet_refused names sheet why

-- one sheet was loaded as is due
abbrev pub IsSheetOf : Names → Result Book SheetRefusal → Loaded → Type 0
IsSheetOf names (Ok b) loaded = IsWhole names b loaded
IsSheetOf names (Err why) loaded = IsRefusalOf names 0 why loaded

-- files were loaded as is due
abbrev pub IsLoadOf : Names → Load → Loaded → Type 0
IsLoadOf names (Whole b) loaded = IsWhole names b loaded
IsLoadOf names (Refused sheet why) loaded = IsRefusalOf names sheet why loaded
IsLoadOf names Lacking loaded = ⊥

-- a workbook that was loaded has these names
abbrev pub HasNames : Names → Loaded → Type 0
HasNames names (Loaded.Whole w) = w.names ≡ names
HasNames names (Loaded.Refused what) = Unit {0}

-- one file more was loaded
pub record AddsFile (read : Reading) (folder : List StoredFile) (file : List ℕ) (old new : LoadedSheets) : Type 0 where
  pub bytes : List ℕ
  pub there : file_named folder file ≡ Some bytes
  pub added : sheet_added read old.names old.sheet old.left (book_of read old) bytes ≡ Ok (book_of read new)
  pub left : new.left + length bytes ≡ old.left
  pub sheet : new.sheet ≡ old.sheet + 1

-- its sheet is refused
pub record RefusesFile (read : Reading) (folder : List StoredFile) (file : List ℕ) (old : LoadedSheets) (what : List ℕ) : Type 0 where
  pub bytes : List ℕ
  pub there : file_named folder file ≡ Some bytes
  pub why : SheetRefusal
  pub refused : sheet_added read old.names old.sheet old.left (book_of read old) bytes ≡ Err why
  pub text : what ≡ sheet_refused old.names old.sheet why

-- the folder tells its files, and lacks this one
abbrev pub LacksFile : Option (List StoredFile) → List ℕ → Type 0
LacksFile told file = IsSomeAnd told (λ folder. file_named folder file ≡ None)

-- it lacks one that comes before the first refusal
abbrev pub LacksFiles : Names → Option (List StoredFile) → List (List ℕ) → Type 0
LacksFiles names told files = IsSomeAnd told (λ folder. (read : Reading) → IsReading names read → files_loaded read names folder files ≡ Lacking)

-- it stopped for this cause, or for want of memory
abbrev pub StopsReading : {A : Type 0} → Type 0 → Result A Stop → Type 0
StopsReading Cause (Ok _) = Unit {0}
StopsReading Cause (Err Stop.Read) = Cause
StopsReading Cause (Err Stop.Write) = ⊥
StopsReading Cause (Err Stop.Memory) = Unit {0}
