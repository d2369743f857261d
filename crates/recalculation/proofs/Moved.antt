-- What an edit leaves as it was: the cells outside its area, and the texts of cells and formulas.
use Rattle.std.proofs.Common.{◌≡◌, ℕ, ◌<◌, Bool, true, false, cond, [], length, Option, Some, None, slice_index_or, refl, sym, ap, ◌∙◌, subst, arith}
use Rattle.std.proofs.lemmas.List.{get_or-take}
use Rattle.cell_values.specs.declared.address.Addr.{Addr}
use Rattle.cell_values.specs.declared.address.Area.{Area}
use Rattle.cell_values.specs.Addresses.{same_addr}
use Rattle.cell_values.specs.Areas.{one_cell, is_inside}
use Rattle.cell_values.specs.Interned.{KeepsTexts}
use Rattle.cell_values.specs.Order.{entry_at}
use Rattle.cell_values.specs.Texts.{Texts}
use Rattle.cell_values.proofs.Order.{same_addr-true}
use Rattle.formula_trees.specs.Expr.{Expr}
use Rattle.formula_trees.specs.TextNumbers.{TextsBelow}
use Rattle.demand_spec.specs.Book.{Book, Content, formula_of, formula_at, own_of, own}
use Rattle.demand_spec.specs.Edits as book
use Rattle.demand_spec.specs.Edits.{Cells, applied, IsApplied}
use Rattle.demand_spec.specs.Laws.{Set, OfSet, SameOutside, TextsStay}
use Rattle.demand_spec.specs.Listed.{IsContentOf}
use Rattle.demand_spec.specs.TextNumbers.{TextBelow}
use Rattle.demand_spec.proofs.Applied.{edit_applies}
use Rattle.workbook_core.specs.Books.{SharedBook, IsWorkbook}
use Rattle.recalculation.specs.declared.edit.Edit.{Edit}
use Rattle.recalculation.specs.Edits.{area_of, Means, IsEdited}

pub false_of : (q : Bool) → (q ≡ true → ⊥) → q ≡ false
false_of true h = absurd (h refl)
false_of false h = refl

-- books that have the same cells outside a set

pub same_outside : (b b' : Book) (A : Set) → ((a : Addr) → A a ≡ false → entry_at b.cells a ≡ entry_at b'.cells a) → SameOutside (OfSet A) b b'
unfolding formula_at own
same_outside b b' A h = record {
  formula = λ c n. ap formula_of (h c (false_of (A c) n));
  value = λ c n. ap own_of (h c (false_of (A c) n));
}

pub same_everywhere : (b b' : Book) → b'.cells ≡ b.cells → SameOutside (OfSet (λ _. false)) b b'
same_everywhere b b' e = same_outside b b' (λ _. false) (λ a _. ap (λ cs. entry_at cs a) (sym e))

-- the area of one cell has it

inside_itself : (a : Addr) → is_inside (one_cell a) a ≡ true
inside_itself a = grind arith

outside_one : (at a : Addr) → is_inside (one_cell at) a ≡ false → same_addr at a ≡ false
outside_one at a h = go (same_addr at a) refl
  where
    go : (q : Bool) → same_addr at a ≡ q → q ≡ false
    go false e = refl
    go true e = (let k : is_inside (one_cell at) a ≡ true = subst (λ z. is_inside (one_cell at) z ≡ true) (same_addr-true at a e) (inside_itself at) in absurd (let f : true ≡ false = sym k ∙ h in cc))

-- an edit changes no cell outside its area

put_outside : (at : Addr) (held : Option Content) (old new : Cells) → IsApplied (book.Put at held) old new → (a : Addr) → is_inside (one_cell at) a ≡ false → entry_at old a ≡ entry_at new a
put_outside at held old new h a n = sym (h.lookups a ∙ ap (λ q. cond q held (entry_at old a)) (outside_one at a n))

copy_outside : (from : Addr) (to : Area) (old new : Cells) → IsApplied (book.Copy from to) old new → (a : Addr) → is_inside to a ≡ false → entry_at old a ≡ entry_at new a
copy_outside from to old new h a n = sym (h.lookups a ∙ ap (λ q. cond q (book.copied a (entry_at old from)) (entry_at old a)) n)

edit_outside : (w : SharedBook) (edit : Edit) (e : book.Edit) (old new : Cells) → Means w edit e → IsApplied e old new → (a : Addr) → is_inside (area_of edit) a ≡ false → entry_at old a ≡ entry_at new a
edit_outside w (Edit.Put at raw) e old new m h = put_outside at m.0 old new (subst (λ x. IsApplied x old new) m.2 h)
edit_outside w (Edit.Clear at) e old new m h = put_outside at None old new (subst (λ x. IsApplied x old new) m h)
edit_outside w (Edit.Copy from to) e old new m h = copy_outside from to old new (subst (λ x. IsApplied x old new) m h)

pub edited_outside : (w w' : SharedBook) (edit : Edit) → IsWorkbook w → IsEdited w edit w' → SameOutside (OfSet (is_inside (area_of edit))) w.book w'.book
edited_outside w w' edit k h = same_outside w.book w'.book (is_inside (area_of edit))
    (edit_outside w edit h.cells.0 w.book.cells w'.book.cells h.cells.1 (subst (IsApplied h.cells.0 w.book.cells) (sym h.cells.2) (edit_applies h.cells.0 w.book.cells k.order)))

-- texts stay

text_kept : (ts us : Texts) (i : ℕ) → KeepsTexts ts us → i < length ts → slice_index_or ts i [] ≡ slice_index_or us i []
text_kept ts us i k h = ap (λ xs. slice_index_or xs i []) (sym k) ∙ get_or-take (length ts) us i [] h

own_below : (ts : Texts) (x : Option Content) → ((c : Content) → x ≡ Some c → IsContentOf ts c) → TextBelow (λ i. i < length ts) (own_of x)
own_below ts None h = tt
own_below ts (Some (Content.Number n)) h = tt
own_below ts (Some (Content.Text t)) h = h (Content.Text t) refl
own_below ts (Some (Content.Truth q)) h = tt
own_below ts (Some (Content.Formula t)) h = tt

formula_below : (ts : Texts) (x : Option Content) (t : Expr) → ((c : Content) → x ≡ Some c → IsContentOf ts c) → formula_of x ≡ Some t → TextsBelow (λ i. i < length ts) t
formula_below ts None t h e = cc
formula_below ts (Some (Content.Number n)) t h e = cc
formula_below ts (Some (Content.Text n)) t h e = cc
formula_below ts (Some (Content.Truth q)) t h e = cc
formula_below ts (Some (Content.Formula u)) t h e = (let s : u ≡ t = cc in subst (TextsBelow (λ i. i < length ts)) s (h (Content.Formula u) refl))

pub texts_stay : (w : SharedBook) (b' : Book) → IsWorkbook w → KeepsTexts w.book.texts b'.texts → TextsStay (λ i. i < length w.book.texts) w.book b'
unfolding formula_at own
texts_stay w b' k kept = record {
  of_cells = λ c. own_below w.book.texts (entry_at w.book.cells c) (λ x e. (k.cells c x e).texts);
  of_formulas = λ c t e. formula_below w.book.texts (entry_at w.book.cells c) t (λ x f. (k.cells c x f).texts) e;
  agree = λ i h. text_kept w.book.texts b'.texts i kept h;
}
