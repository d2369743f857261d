-- The lines that tell of a refusal.
use Rattle.std.specs.Prelude.{ℕ, List, [], ◌∷◌, ◌++◌, codes}
use Rattle.std.specs.Fmt.{decimal}
use Rattle.formula_grammar.specs.declared.faults.FaultKind.{FaultKind}
use Rattle.formula_grammar.specs.FaultKinds.{number_of}
use Rattle.sheet_loading.specs.declared.faults.FieldFault.{FieldFault}
use Rattle.sheet_loading.specs.declared.faults.SheetRefusal.{SheetRefusal}
use Rattle.puncalc_program.specs.declared.refusals.LineRefusal.{LineRefusal}
use Rattle.sheet_loading.specs.Contents.{Names}
use Rattle.puncalc_program.specs.Cells.{name_of, cell_name}

-- the name of a field's fault
abbrev pub field_fault_name : FieldFault → List ℕ
field_fault_name FieldFault.NotUtf8 = codes "S1"
field_fault_name FieldFault.OutOfSheet = codes "S2"
field_fault_name FieldFault.TooManyCells = codes "S3"

-- where a formula has its fault, counted in bytes from 0 at the `=`, and the fault's name
abbrev pub formula_fault : ℕ → FaultKind → List ℕ
formula_fault place kind = codes " at " ++ decimal place ++ codes ": F" ++ decimal (number_of kind)

-- a sheet's name is bad; the names are counted from 1
abbrev pub name_refused : ℕ → List ℕ
name_refused number = codes "sheet " ++ decimal number ++ codes ": S5"

-- what of a sheet is refused, and why
abbrev pub sheet_refused : Names → ℕ → SheetRefusal → List ℕ
sheet_refused names sheet SheetRefusal.TooLong = name_of names sheet ++ codes ": S4"
sheet_refused names sheet (SheetRefusal.Field row col fault) =
    name_of names sheet ++ codes " row " ++ decimal row ++ codes " column " ++ decimal col ++ codes ": " ++ field_fault_name fault
sheet_refused names sheet (SheetRefusal.Formula at place kind) = cell_name names at ++ formula_fault place kind

-- why a line is refused
abbrev pub line_fault : LineRefusal → List ℕ
line_fault LineRefusal.UnknownCommand = codes ": E1"
line_fault LineRefusal.BadReference = codes ": E2"
line_fault (LineRefusal.BadFormula place kind) = formula_fault place kind
line_fault LineRefusal.TooManyCells = codes ": E4"
line_fault LineRefusal.NotUtf8 = codes ": E5"
line_fault LineRefusal.RowsFull = codes ": E7"
line_fault LineRefusal.FormulaTooLong = codes ": E8"

-- a line is refused; the lines are counted from 1
abbrev pub line_refused : ℕ → LineRefusal → List ℕ
line_refused number why = codes "line " ++ decimal number ++ line_fault why

-- the line that tells what is refused, with its end
unfoldable pub refusal_line : List ℕ → List ℕ
refusal_line what = codes "refused " ++ what ++ 10 ∷ []
