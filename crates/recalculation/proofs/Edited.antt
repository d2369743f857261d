-- Edits of a workbook, by the edits of its cells.
use Rattle.std.proofs.Common.{◌≡◌, Result, Ok, Err, OnOk, Option, None, refl, subst}
use Rattle.cell_values.specs.declared.address.Addr.{Addr}
use Rattle.cell_values.specs.declared.address.Area.{Area}
use Rattle.cell_values.specs.declared.fields.Raw.{Raw}
use Rattle.demand_spec.specs.Book as book
use Rattle.demand_spec.specs.Edits.{Put, Copy, IsApplied, IsTooLarge}
use Rattle.demand_spec.proofs.Applied.{applied_only}
use Rattle.workbook_core.specs.declared.edits.EditFault.{EditFault}
use Rattle.workbook_core.specs.Books.{SharedBook, IsWorkbook}
use Rattle.workbook_core.specs.Edits.{Puts, with_field, IsPutFault, IsCopyFault}
use Rattle.recalculation.specs.declared.edit.Edit.{Edit}
use Rattle.recalculation.specs.Edits.{IsEdited, IsFaultOf, MakesTooLarge}

-- a field is put

pub put_edited : {T : Type 0} (r : Result T EditFault) (w w' : SharedBook) (at : Addr) (raw : Raw) → IsWorkbook w →
    OnOk r ((held : Option book.Content) × Puts w.names w.book.texts at raw held × IsApplied (Put at held) w.book.cells w'.book.cells) →
    OnOk r (w'.book.texts ≡ with_field w.names w.book.texts raw) → OnOk r (IsEdited w (Edit.Put at raw) w')
put_edited (Ok x) w w' at raw k h t = record {
  cells = (Put at h.0, (h.0, h.1, refl), applied_only (Put at h.0) w.book.cells w'.book.cells k.order h.2);
  texts = t;
}
put_edited (Err e) w w' at raw k h t = tt

pub put_faults : (w : SharedBook) (at : Addr) (raw : Raw) (e : EditFault) → IsPutFault w.names w.book.texts w.book.cells at raw e → IsFaultOf w (Edit.Put at raw) e
put_faults w at raw (EditFault.BadFormula place kind) h = h
put_faults w at raw EditFault.TooManyCells h = (Put at h.0, (h.0, h.1, refl), h.2)
put_faults w at raw EditFault.OutOfMemory h = tt

pub put_large : (w : SharedBook) (at : Addr) (raw : Raw) → MakesTooLarge w (Edit.Put at raw) → (held : Option book.Content) × Puts w.names w.book.texts at raw held × IsTooLarge (Put at held) w.book.cells
put_large w at raw h = (h.1.0, h.1.1, subst (λ e. IsTooLarge e w.book.cells) h.1.2 h.2)

-- a cell is cleared

pub clear_edited : (w w' : SharedBook) (at : Addr) → IsWorkbook w → IsApplied (Put at None) w.book.cells w'.book.cells → w'.book.texts ≡ w.book.texts → IsEdited w (Edit.Clear at) w'
clear_edited w w' at k h t = record {
  cells = (Put at None, refl, applied_only (Put at None) w.book.cells w'.book.cells k.order h);
  texts = t;
}

-- a cell is copied

pub copy_edited : {T : Type 0} (r : Result T EditFault) (w w' : SharedBook) (from : Addr) (to : Area) → IsWorkbook w → w'.book.texts ≡ w.book.texts →
    OnOk r (IsApplied (Copy from to) w.book.cells w'.book.cells) → OnOk r (IsEdited w (Edit.Copy from to) w')
copy_edited (Ok x) w w' from to k t h = record {
  cells = (Copy from to, refl, applied_only (Copy from to) w.book.cells w'.book.cells k.order h);
  texts = t;
}
copy_edited (Err e) w w' from to k t h = tt

pub copy_faults : (w : SharedBook) (from : Addr) (to : Area) (e : EditFault) → IsCopyFault w.book.cells from to e → IsFaultOf w (Edit.Copy from to) e
copy_faults w from to (EditFault.BadFormula place kind) h = h
copy_faults w from to EditFault.TooManyCells h = (Copy from to, refl, h)
copy_faults w from to EditFault.OutOfMemory h = tt

pub copy_large : (w : SharedBook) (from : Addr) (to : Area) → MakesTooLarge w (Edit.Copy from to) → IsTooLarge (Copy from to) w.book.cells
copy_large w from to h = subst (λ e. IsTooLarge e w.book.cells) h.1 h.2
