-- What single steps of loading tell.
use Rattle.std.specs.Prelude.{◌≡◌, ◌+◌, ℕ, List, Ok, Err}
use Rattle.std.specs.List.{All, AllByRecursion}
use Rattle.cell_values.specs.declared.address.Addr.{Addr}
use Rattle.cell_values.specs.declared.fields.Raw.{Raw}
use Rattle.cell_values.specs.Addresses.{IsOnSheet}
use Rattle.cell_values.specs.Order.{InOrder, addresses}
use Rattle.cell_values.specs.Texts.{Texts}
use Rattle.formula_grammar.specs.Reading.{Reading, IsReading}
use Rattle.sheet_loading.specs.declared.faults.LoadFault.{LoadFault}
use Rattle.sheet_loading.specs.declared.faults.SheetRefusal.{SheetRefusal}
use Rattle.sheet_loading.specs.Contents.{Names, content_read, fields_read}
use Rattle.sheet_loading.specs.Loaded.{HasTree, HaveTrees, IsPlaced, cells_in, held_by}
use Rattle.sheet_loading.specs.Sheets.{sheet_read}

-- a field was read, with its texts behind the old ones
pub record ReadsField (names : Names) (old new : Texts) (at : Addr) (raw : Raw) : Type 0 where
  pub made : (read : Reading) → IsReading names read → content_read read names old at raw ≡ Ok (new, held_by read new at raw)
  pub tree : HasTree names new at raw

-- the fault is that of the field's formula, unless memory ran out
abbrev pub IsFieldFault : Names → Texts → Addr → Raw → LoadFault → Type 0
IsFieldFault names ts at raw (LoadFault.Refused why) = (read : Reading) → IsReading names read →
    (fault : _) × (content_read read names ts at raw ≡ Err fault) × (why ≡ SheetRefusal.Formula at fault.0 fault.1)
IsFieldFault names ts at raw LoadFault.OutOfMemory = Unit {0}

-- fields were read, with their texts behind the old ones
pub record ReadsFields (names : Names) (old new : Texts) (fields : List (Addr × Raw)) : Type 0 where
  pub made : (read : Reading) → IsReading names read → fields_read read names old fields ≡ Ok (record { cells = cells_in read new fields; texts = new })
  pub trees : HaveTrees names new fields

-- a sheet was read: its fields in order, with its texts behind the old ones
pub record ReadsSheet (names : Names) (sheet : ℕ) (old new : Texts) (room : ℕ) (bytes : List ℕ) (fields : List (Addr × Raw)) : Type 0 where
  pub made : (read : Reading) → IsReading names read → sheet_read read names sheet old room bytes ≡ Ok (record { cells = cells_in read new fields; texts = new })
  pub trees : HaveTrees names new fields
  pub placed : AllByRecursion (IsPlaced new (sheet + 1)) fields
  pub order : InOrder (addresses fields)
  pub here : All (λ c. IsOnSheet c.0 × (c.0.sheet ≡ sheet)) fields
