-- The moved cells are cells of a book.
use Rattle.std.proofs.Common.{◌≡◌, ℕ, suc, ◌≤◌, [], ◌∷◌, length, Option, Some, None, refl, arith}
use Rattle.std.specs.Prelude.{option_and_then}
use Rattle.cell_values.specs.declared.address.Addr.{Addr}
use Rattle.cell_values.specs.Texts.{Texts}
use Rattle.formula_trees.specs.Expr.{Expr}
use Rattle.formula_trees.specs.References.{resolve}
use Rattle.formula_trees.specs.TextNumbers.{TextsBelow}
use Rattle.formula_trees.proofs.Mappings.{texts_mapped}
use Rattle.demand_spec.specs.Book.{Content}
use Rattle.demand_spec.specs.Edits.{Cells}
use Rattle.demand_spec.specs.Listed.{IsSoundAt, AllSound, IsContentOf, AreCellsOf}
use Rattle.row_shift.specs.declared.change.RowChange.{RowChange}
use Rattle.row_shift.specs.Moves.{IsChange, move_cell, moved_ref, moved_range, moved}
use Rattle.row_shift.specs.MovedBook.{moved_content, put_at, moved_cells, MovedCellsAreCells}
use Rattle.row_shift.proofs.Parts.{place_within}
use Rattle.row_shift.proofs.Formulas.{of_ref, of_range, sound_moved}
use Rattle.row_shift.proofs.Order.{moved_order}

-- sound

pub content_sound : (change : RowChange) (at to : Addr) (c : Content) → IsChange change → move_cell change at ≡ Some to → IsSoundAt at c → IsSoundAt to (moved_content change at to c)
content_sound change at to (Content.Number n) ok place h = tt
content_sound change at to (Content.Text t) ok place h = tt
content_sound change at to (Content.Truth b) ok place h = tt
content_sound change at to (Content.Formula e) ok place h = sound_moved change at to ok place e h

cells_sound : (change : RowChange) (cells : Cells) → IsChange change → AllSound cells → AllSound (moved_cells change cells)
cells_sound change [] ok h = tt
cells_sound change (c ∷ cells) ok h = go (move_cell change c.0) refl (cells_sound change cells ok h.2)
  where
    go : (o : Option Addr) → move_cell change c.0 ≡ o → AllSound (moved_cells change cells) → AllSound (put_at change c.0 c.1 o (moved_cells change cells))
    go (Some to) e k = (place_within change c.0 to ok.row_from h.0 e, content_sound change c.0 to c.1 ok e h.1, k)
    go None e k = k

-- with the same texts

formula_texts : (change : RowChange) (at to : Addr) (n : ℕ → Type 0) (e : Expr) → TextsBelow n e → TextsBelow n (moved change at to e)
formula_texts change at to n e h = texts_mapped n n (moved_ref change at to.row) (moved_range change at to.row) (λ t. t) (λ t has. has)
    (λ r. of_ref (TextsBelow n) to.row r (option_and_then (move_cell change) (resolve at r)) (λ q. tt) tt)
    (λ r s. of_range (TextsBelow n) change to.row r s (resolve at r) (resolve at s) (λ q t. tt) tt)
    e h

pub content_texts : (change : RowChange) (ts : Texts) (at to : Addr) (c : Content) → IsContentOf ts c → IsContentOf ts (moved_content change at to c)
content_texts change ts at to (Content.Number n) h = tt
content_texts change ts at to (Content.Text t) h = h
content_texts change ts at to (Content.Truth b) h = tt
content_texts change ts at to (Content.Formula e) h = formula_texts change at to (λ i. suc i ≤ length ts) e h

cells_texts : (change : RowChange) (ts : Texts) (cells : Cells) → AreCellsOf ts cells → AreCellsOf ts (moved_cells change cells)
cells_texts change ts [] h = tt
cells_texts change ts (c ∷ cells) h = go (move_cell change c.0) (cells_texts change ts cells h.1)
  where
    go : (o : Option Addr) → AreCellsOf ts (moved_cells change cells) → AreCellsOf ts (put_at change c.0 c.1 o (moved_cells change cells))
    go (Some to) k = (content_texts change ts c.0 to c.1 h.0, k)
    go None k = k

-- no more of them

cells_few : (change : RowChange) (cells : Cells) → length (moved_cells change cells) ≤ length cells
cells_few change [] = omega arith
cells_few change (c ∷ cells) = go (move_cell change c.0) (cells_few change cells)
  where
    go : (o : Option Addr) → length (moved_cells change cells) ≤ length cells → length (put_at change c.0 c.1 o (moved_cells change cells)) ≤ suc (length cells)
    go (Some to) k = omega arith
    go None k = omega arith

pub moved_are_cells : MovedCellsAreCells
moved_are_cells change ts cells ok = record {
  order = moved_order change cells;
  sound = cells_sound change cells ok;
  texts = cells_texts change ts cells;
  few = cells_few change cells;
}
