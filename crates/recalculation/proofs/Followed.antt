-- What is kept beside a workbook that is edited.
use Rattle.std.proofs.Common.{◌≡◌, Bool, true, false, cond, inl, [], length, refl, sym, ap, ◌∙◌, subst}
use Rattle.cell_values.specs.Areas.{is_inside}
use Rattle.cell_values.specs.Interned.{KeepsTexts}
use Rattle.cell_values.specs.Order.{InOrder, addresses}
use Rattle.demand_spec.specs.Book.{Book, formulas_in, formulas}
use Rattle.demand_spec.specs.Edits.{pending_after}
use Rattle.demand_spec.proofs.Applied.{edit_applies}
use Rattle.demand_spec.proofs.Spread.{all_stay_pending}
use Rattle.workbook_core.specs.declared.edits.EditFault.{EditFault}
use Rattle.workbook_core.specs.Books.{SharedBook, IsWorkbook}
use Rattle.recalculation.specs.declared.edit.Edit.{Edit}
use Rattle.recalculation.specs.declared.progress.Progress.{Progress}
use Rattle.recalculation.specs.Edits.{area_of, IsEdited, IsLeft}
use Rattle.recalculation.specs.Standing.{pending_in, seen, IsProgressBut, IsProgress}
use Rattle.recalculation.proofs.Kept.{progress_moved}
use Rattle.recalculation.proofs.Moved.{same_everywhere, edited_outside, texts_stay}
use Rattle.recalculation.proofs.Updates.{progress_unbuilt}

-- an edited workbook
pub after_edit : (w w' : SharedBook) (edit : Edit) (p : Progress) → IsWorkbook w → IsEdited w edit w' → KeepsTexts w.book.texts w'.book.texts → IsProgress w.book p → IsProgressBut w'.book (is_inside (area_of edit)) p
after_edit w w' edit p k h t g = progress_moved w.book w'.book (length w.book.texts) (is_inside (area_of edit)) p (edited_outside w w' edit k h) (texts_stay w w'.book k t) g

-- a workbook with more texts
pub after_texts : (w w' : SharedBook) (p : Progress) → IsWorkbook w → w'.book.cells ≡ w.book.cells → KeepsTexts w.book.texts w'.book.texts → IsProgress w.book p → IsProgress w'.book p
after_texts w w' p k e t g = progress_moved w.book w'.book (length w.book.texts) (λ _. false) p (same_everywhere w.book w'.book e) (texts_stay w w'.book k t) g

pub same_pending : (b b' : Book) (p : Progress) → b'.cells ≡ b.cells → pending_in b' p ≡ pending_in b p
unfolding formulas
same_pending b b' p e = ap (λ cs. cond p.built p.stale (formulas_in cs)) e

edited_order : (w w' : SharedBook) (edit : Edit) → IsWorkbook w → IsEdited w edit w' → InOrder (addresses w'.book.cells)
edited_order w w' edit k h = subst (λ cs. InOrder (addresses cs)) (sym h.cells.2) (edit_applies h.cells.0 w.book.cells k.order).order

-- the pending cells of an edited workbook are those of the definition
pub pending_followed : (w w' : SharedBook) (edit : Edit) (p p' : Progress) → IsWorkbook w → IsEdited w edit w' → p'.built ≡ p.built → (p.built ≡ true → p'.stale ≡ pending_after w'.book p.stale (is_inside (area_of edit))) →
    pending_in w'.book p' ≡ pending_after w'.book (pending_in w.book p) (is_inside (area_of edit))
pending_followed w w' edit p p' k h e f = ap (λ q. cond q p'.stale (formulas w'.book)) e ∙ go p.built refl
  where
    go : (q : Bool) → p.built ≡ q → cond q p'.stale (formulas w'.book) ≡ pending_after w'.book (cond q p.stale (formulas w.book)) (is_inside (area_of edit))
    go true g = f g
    go false g = sym (all_stay_pending w.book w'.book (is_inside (area_of edit)) (edited_order w w' edit k h) (edited_outside w w' edit k h))

-- a refused edit: all is kept, or nothing where memory ran out
module _ (w w' : SharedBook) (p p' : Progress) (same : w'.book.cells ≡ w.book.cells) where
  pub refused_progress : (fault : EditFault) → IsWorkbook w → KeepsTexts w.book.texts w'.book.texts → IsProgress w.book p →
      (fault ≡ EditFault.OutOfMemory → p'.built ≡ false) → (fault ≡ EditFault.OutOfMemory → p'.support ≡ []) → (fault ≡ EditFault.OutOfMemory → p'.stale ≡ []) →
      ((fault ≡ EditFault.OutOfMemory → ⊥) → p' ≡ p) → IsProgress w'.book p'
  refused_progress EditFault.OutOfMemory k t g b s l o = progress_unbuilt w'.book p' (b refl) (s refl) (l refl)
  refused_progress EditFault.TooManyCells k t g b s l o = subst (IsProgress w'.book) (sym (o (λ e. cc))) (after_texts w w' p k same t g)
  refused_progress (EditFault.BadFormula place kind) k t g b s l o = subst (IsProgress w'.book) (sym (o (λ e. cc))) (after_texts w w' p k same t g)

  kept : p' ≡ p → pending_in w'.book p' ≡ pending_in w.book p
  kept e = ap (pending_in w'.book) e ∙ same_pending w.book w'.book p same

  pub refused_left : (edit : Edit) (fault : EditFault) → (fault ≡ EditFault.OutOfMemory → p'.built ≡ false) → ((fault ≡ EditFault.OutOfMemory → ⊥) → p' ≡ p) → IsLeft (seen w p) edit (seen w' p') fault
  refused_left edit EditFault.OutOfMemory b o = (inl same, ap (λ q. cond q p'.stale (formulas w'.book)) (b refl))
  refused_left edit EditFault.TooManyCells b o = (same, kept (o (λ e. cc)))
  refused_left edit (EditFault.BadFormula place kind) b o = (same, kept (o (λ e. cc)))
