-- What an edit of a workbook means, and why it is refused.
use Rattle.std.specs.Prelude.{◌≡◌, ℕ, ◌*◌, ◌<◌, ◌≤◌, ◌⊎◌, Option, None, List, length}
use Rattle.cell_values.specs.declared.TheConstants.{MAX_RANGE_CELLS}
use Rattle.cell_values.specs.declared.address.Addr.{Addr}
use Rattle.cell_values.specs.declared.address.Area.{Area}
use Rattle.cell_values.specs.Addresses.{IsOnSheet}
use Rattle.cell_values.specs.Areas.{one_cell, height, width, is_inside, IsArea}
use Rattle.cell_values.specs.Fields.{IsRawOf}
use Rattle.cell_values.specs.Texts.{Texts}
use Rattle.formula_grammar.specs.declared.faults.FaultKind.{FaultKind}
use Rattle.demand_spec.specs.Book.{Content, formulas}
use Rattle.demand_spec.specs.Edits as book
use Rattle.demand_spec.specs.Edits.{applied, pending_after, IsTooLarge}
use Rattle.workbook_core.specs.declared.edits.EditFault.{EditFault}
use Rattle.workbook_core.specs.Books.{SharedBook}
use Rattle.workbook_core.specs.Edits.{Puts, with_field, FieldHasFault, IsField}
use Rattle.recalculation.specs.declared.edit.Edit.{Edit}
use Rattle.recalculation.specs.Calculations.{Calculation}

-- the area that the edit writes
abbrev pub area_of : Edit → Area
area_of (Edit.Put at raw) = one_cell at
area_of (Edit.Clear at) = one_cell at
area_of (Edit.Copy from to) = to

-- an edit of the workbook: it writes cells of its sheets, what is put is a field over its texts, and a copied area has
-- at most 65,536 cells
abbrev pub IsEditOf : SharedBook → Edit → Type 0
IsEditOf w (Edit.Put at raw) = IsOnSheet at × (at.sheet < length w.names) × IsRawOf w.book.texts raw × IsField raw
IsEditOf w (Edit.Clear at) = IsOnSheet at
IsEditOf w (Edit.Copy from to) = IsArea to × (to.sheet < length w.names) × (height to * width to ≤ MAX_RANGE_CELLS)

-- what the edit does with the cells of the workbook: a field puts its value, or the tree that its formula means there
abbrev pub Means : SharedBook → Edit → book.Edit → Type 0
Means w (Edit.Put at raw) e = (held : Option Content) × Puts w.names w.book.texts at raw held × (e ≡ book.Put at held)
Means w (Edit.Clear at) e = e ≡ book.Put at None
Means w (Edit.Copy from to) e = e ≡ book.Copy from to

-- the texts after the edit: those of a put formula come behind the others
abbrev pub texts_with : SharedBook → Edit → Texts
texts_with w (Edit.Put at raw) = with_field w.names w.book.texts raw
texts_with w _ = w.book.texts

-- the edit makes the new workbook of the old one
pub record IsEdited (old : SharedBook) (edit : Edit) (new : SharedBook) : Type 0 where
  pub cells : (e : book.Edit) × Means old edit e × (new.book.cells ≡ applied e old.book.cells)
  pub texts : new.book.texts ≡ texts_with old edit

-- the edit puts a formula with this fault
abbrev pub PutsFault : SharedBook → Edit → ℕ → FaultKind → Type 0
PutsFault w (Edit.Put at raw) place kind = FieldHasFault w.names w.book.texts raw place kind
PutsFault w _ place kind = ⊥

-- after the edit there are more cells than a book may have
abbrev pub MakesTooLarge : SharedBook → Edit → Type 0
MakesTooLarge w edit = (e : book.Edit) × Means w edit e × IsTooLarge e w.book.cells

-- why the edit is refused
abbrev pub IsFaultOf : SharedBook → Edit → EditFault → Type 0
IsFaultOf w edit (EditFault.BadFormula place kind) = PutsFault w edit place kind
IsFaultOf w edit EditFault.TooManyCells = MakesTooLarge w edit
IsFaultOf w edit EditFault.OutOfMemory = Unit {0}

-- the formula cells that an edit of the area leaves pending
abbrev pub pending_by : Calculation → Area → Calculation → List Addr
pending_by old area new = pending_after new.shared.book old.pending (is_inside area)

-- the same cells, and the same pending ones
abbrev pub IsUnchanged : Calculation → Calculation → Type 0
IsUnchanged old new = (new.shared.book.cells ≡ old.shared.book.cells) × (new.pending ≡ old.pending)

-- the cells are those before the edit or after it, and all formula cells are pending
abbrev pub IsLost : Calculation → Edit → Calculation → Type 0
IsLost old edit new =
    ((new.shared.book.cells ≡ old.shared.book.cells) ⊎ IsEdited old.shared edit new.shared)
    × (new.pending ≡ formulas new.shared.book)

-- what a refused edit leaves: all as it was but for more texts; where memory ran out, all formula cells pending
abbrev pub IsLeft : Calculation → Edit → Calculation → EditFault → Type 0
IsLeft old edit new EditFault.OutOfMemory = IsLost old edit new
IsLeft old edit new _ = IsUnchanged old new
