-- Why sheets are not loaded.
use Rattle.std.specs.Prelude.{◌≡◌, ℕ, Result, Err}
use Rattle.cell_values.specs.Addresses.{IsOnSheet}
use Rattle.sheet_csv.specs.declared.reading.SheetFault.{SheetFault}
use Rattle.demand_spec.specs.Book.{Book}
use Rattle.sheet_loading.specs.declared.faults.FieldFault.{FieldFault}
use Rattle.sheet_loading.specs.declared.faults.SheetRefusal.{SheetRefusal}
use Rattle.sheet_loading.specs.declared.faults.LoadFault.{LoadFault}
use Rattle.sheet_loading.specs.declared.faults.SheetsFault.{SheetsFault}

-- a field's fault, as that of a sheet
abbrev pub load_fault_of : SheetFault → LoadFault
load_fault_of (SheetFault.NotUtf8 row col) = LoadFault.Refused (SheetRefusal.Field row col FieldFault.NotUtf8)
load_fault_of (SheetFault.OutOfSheet row col) = LoadFault.Refused (SheetRefusal.Field row col FieldFault.OutOfSheet)
load_fault_of (SheetFault.TooManyCells row col) = LoadFault.Refused (SheetRefusal.Field row col FieldFault.TooManyCells)
load_fault_of SheetFault.OutOfMemory = LoadFault.OutOfMemory

-- the fault is the sheet's refusal, unless memory ran out
abbrev pub IsLoadFault : LoadFault → Result Book SheetRefusal → Type 0
IsLoadFault (LoadFault.Refused why) due = due ≡ Err why
IsLoadFault LoadFault.OutOfMemory due = Unit {0}

-- a sheet's fault, as that of several sheets
abbrev pub sheets_fault_of : ℕ → LoadFault → SheetsFault
sheets_fault_of sheet (LoadFault.Refused why) = SheetsFault.Refused sheet why
sheets_fault_of sheet LoadFault.OutOfMemory = SheetsFault.OutOfMemory

-- the fault is the refusal of the first sheet that is refused, unless memory ran out
abbrev pub IsSheetsFault : SheetsFault → Result Book (ℕ × SheetRefusal) → Type 0
IsSheetsFault (SheetsFault.Refused sheet why) due = due ≡ Err (sheet, why)
IsSheetsFault SheetsFault.OutOfMemory due = Unit {0}

-- a formula that is refused stands in this sheet
abbrev pub IsInSheet : ℕ → SheetRefusal → Type 0
IsInSheet sheet (SheetRefusal.Formula at place kind) = IsOnSheet at × (at.sheet ≡ sheet)
IsInSheet sheet _ = Unit {0}

abbrev pub IsFaultInSheet : ℕ → LoadFault → Type 0
IsFaultInSheet sheet (LoadFault.Refused why) = IsInSheet sheet why
IsFaultInSheet sheet LoadFault.OutOfMemory = Unit {0}
