-- What single steps of an edit tell.
use Rattle.std.specs.Prelude.{◌≡◌, ℕ, ◌≤◌, Option, None, option_map, List, length}
use Rattle.cell_values.specs.declared.TheConstants.{MAX_BOOK_CELLS}
use Rattle.cell_values.specs.declared.address.Addr.{Addr}
use Rattle.cell_values.specs.declared.fields.Raw.{Raw}
use Rattle.cell_values.specs.Texts.{Texts}
use Rattle.cell_values.specs.Order.{entry_at}
use Rattle.formula_grammar.specs.declared.faults.FormulaFault.{FormulaFault}
use Rattle.shared_expressions.specs.Trees.{Trees}
use Rattle.workbook_core.specs.declared.Content.{Content as Held}
use Rattle.workbook_core.specs.declared.edits.EditFault.{EditFault}
use Rattle.workbook_core.specs.Books.{MayHold}
use Rattle.workbook_core.specs.Edits.{FieldHasFault, Puts, with_field}
use Rattle.workbook_core.specs.Held.{content_in}

-- a formula's fault, as that of an edit
abbrev pub edit_fault_of : FormulaFault → EditFault
edit_fault_of (FormulaFault.Bad place k) = EditFault.BadFormula place k
edit_fault_of FormulaFault.OutOfMemory = EditFault.OutOfMemory

-- why a field is not read
abbrev pub IsFieldFault : List (List ℕ) → Texts → Raw → EditFault → Type 0
IsFieldFault names ts raw (EditFault.BadFormula place k) = FieldHasFault names ts raw place k
IsFieldFault names ts raw EditFault.TooManyCells = ⊥
IsFieldFault names ts raw EditFault.OutOfMemory = Unit {0}

abbrev pub IsOutOfMemory : EditFault → Type 0
IsOutOfMemory e = e ≡ EditFault.OutOfMemory

-- what a field puts into a cell is held in this pool and may stand there, over texts with those of the field
pub record IsRead (names : List (List ℕ)) (ts us : Texts) (p : Trees) (at : Addr) (raw : Raw) (held : Option Held) : Type 0 where
  pub puts : Puts names ts at raw (option_map (content_in p) held)
  pub may : MayHold us (length names) p at held
  pub texts : us ≡ with_field names ts raw

-- the cell is empty and there is no room for another, unless memory ran out
abbrev pub IsWithoutRoom : List (Addr × Held) → Addr → EditFault → Type 0
IsWithoutRoom es at (EditFault.BadFormula place k) = ⊥
IsWithoutRoom es at EditFault.TooManyCells = (entry_at es at ≡ None) × (MAX_BOOK_CELLS ≤ length es)
IsWithoutRoom es at EditFault.OutOfMemory = Unit {0}
