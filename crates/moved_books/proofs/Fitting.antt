-- The moved cells fit the workbook's sheets and texts.
use Rattle.std.proofs.Common.{◌≡◌, ℕ, ◌<◌, ◌≤◌, Bool, length, Option, Some, None, refl, sym, ap, ◌∙◌, subst, arith}
use Rattle.std.specs.Prelude.{nat_le, option_map, option_and_then}
use Rattle.cell_values.specs.declared.TheConstants.{MAX_BOOK_CELLS}
use Rattle.cell_values.specs.declared.address.Addr.{Addr}
use Rattle.cell_values.specs.declared.address.Area.{Area}
use Rattle.cell_values.specs.Areas.{between_cells}
use Rattle.cell_values.specs.Order.{InOrder, addresses, entry_at}
use Rattle.cell_values.specs.Texts.{Texts}
use Rattle.formula_trees.specs.declared.tree.Reference.{Reference}
use Rattle.formula_trees.specs.Expr.{Expr}
use Rattle.formula_trees.specs.References.{resolve}
use Rattle.formula_trees.specs.Sound.{IsSound}
use Rattle.formula_trees.specs.SheetNumbers.{SheetBelow, SheetsBelow}
use Rattle.formula_trees.proofs.Mappings.{sheets_mapped}
use Rattle.demand_spec.specs.Book.{Content}
use Rattle.demand_spec.specs.Edits.{Cells}
use Rattle.row_shift.specs.declared.change.RowChange.{RowChange}
use Rattle.row_shift.specs.Moves.{IsChange, move_cell, moved_area, ref_to, range_to, range_between, moved_ref, moved_range, moved}
use Rattle.row_shift.specs.MovedBook.{moved_content, moved_cells}
use Rattle.row_shift.proofs.Books.{content_sound, content_texts, moved_are_cells}
use Rattle.row_shift.proofs.Closed.{place_found}
use Rattle.row_shift.proofs.Order.{found_moved, moved_order}
use Rattle.row_shift.proofs.Parts.{place_within, same_sheet}
use Rattle.row_shift.proofs.Ranges.{some_same}
use Rattle.shared_expressions.specs.declared.nodes.ExprId.{ExprId}
use Rattle.shared_expressions.specs.Trees.{Trees, tree_at}
use Rattle.workbook_core.specs.declared.Content.{Content as Held}
use Rattle.workbook_core.specs.Apart.{Apart, with_cells}
use Rattle.workbook_core.specs.Books.{SharedBook, NumberFits, NamesSheetsBelow, IsCell, IsWorkbook}
use Rattle.workbook_core.specs.Held.{content_in}

-- a formula's sheets stay

ref_sheets : (n own : ℕ) (r : Reference) (o : Option Addr) → SheetBelow n r.sheet → SheetsBelow n (ref_to own r o)
ref_sheets n own r (Some a) h = h
ref_sheets n own r None h = tt

area_sheets : (n own : ℕ) (r s : Reference) (down : Bool) (o : Option Area) → SheetBelow n r.sheet → SheetsBelow n (range_to own r s down o)
area_sheets n own r s down (Some a) h = h
area_sheets n own r s down None h = tt

range_sheets : (n : ℕ) (change : RowChange) (own : ℕ) (r s : Reference) (o p : Option Addr) → SheetBelow n r.sheet → SheetsBelow n (range_between change own r s o p)
range_sheets n change own r s (Some a) (Some b) h = area_sheets n own r s (nat_le a.row b.row) (moved_area change (between_cells a b)) h
range_sheets n change own r s (Some a) None h = tt
range_sheets n change own r s None (Some b) h = tt
range_sheets n change own r s None None h = tt

formula_sheets : (n : ℕ) (change : RowChange) (at to : Addr) (e : Expr) → SheetsBelow n e → SheetsBelow n (moved change at to e)
formula_sheets n change at to e h = sheets_mapped n n (moved_ref change at to.row) (moved_range change at to.row) (λ t. t)
    (λ r l. ref_sheets n to.row r (option_and_then (move_cell change) (resolve at r)) l)
    (λ r s l. range_sheets n change to.row r s (resolve at r) (resolve at s) l)
    e h

content_sheets : (n : ℕ) (change : RowChange) (at to : Addr) (c : Content) → NamesSheetsBelow n c → NamesSheetsBelow n (moved_content change at to c)
content_sheets n change at to (Content.Number z) h = tt
content_sheets n change at to (Content.Text t) h = tt
content_sheets n change at to (Content.Truth b) h = tt
content_sheets n change at to (Content.Formula e) h = formula_sheets n change at to e h

content_fits : (change : RowChange) (at to : Addr) (c : Content) → NumberFits c → NumberFits (moved_content change at to c)
content_fits change at to (Content.Number z) h = h
content_fits change at to (Content.Text t) h = tt
content_fits change at to (Content.Truth b) h = tt
content_fits change at to (Content.Formula e) h = tt

cell_fits : (change : RowChange) (ts : Texts) (count : ℕ) (a x : Addr) (c : Content) → IsChange change → move_cell change a ≡ Some x → IsCell ts count a c → IsCell ts count x (moved_content change a x c)
cell_fits change ts count a x c ok place h = record {
  on_sheet = place_within change a x ok.row_from h.on_sheet place;
  sheet = subst (λ (s : ℕ). s < count) (sym (same_sheet change a x place)) h.sheet;
  fits = content_fits change a x c h.fits;
  sound = content_sound change a x c ok place h.sound;
  texts = content_texts change ts a x c h.texts;
  sheets = content_sheets count change a x c h.sheets;
}

moved_fits : (change : RowChange) (ts : Texts) (count : ℕ) (cells : Cells) → IsChange change → ((a : Addr) (c : Content) → entry_at cells a ≡ Some c → IsCell ts count a c) → (x : Addr) (d : Content) → entry_at (moved_cells change cells) x ≡ Some d → IsCell ts count x d
moved_fits change ts count cells ok all x d e = go (entry_at cells p.0) refl (sym (found_moved change cells p.0 x p.1) ∙ e)
  where
    p : (a : Addr) × (move_cell change a ≡ Some x)
    p = place_found change cells x d e

    go : (o : Option Content) → entry_at cells p.0 ≡ o → option_map (moved_content change p.0 x) o ≡ Some d → IsCell ts count x d
    go (Some c) f k = subst (IsCell ts count x) (some_same (moved_content change p.0 x c) d k) (cell_fits change ts count p.0 x c ok p.1 (all p.0 c f))
    go None f k = absurd (cc)

pub moved_fit : (change : RowChange) (w : SharedBook) (apart : Apart) → IsChange change → IsWorkbook w → apart.cells ≡ moved_cells change w.book.cells → IsWorkbook (with_cells w apart)
moved_fit change w apart ok h e = record {
  order = subst (λ (cs : Cells). InOrder (addresses cs)) (sym e) (moved_order change w.book.cells h.order);
  few = subst (λ (cs : Cells). length cs ≤ MAX_BOOK_CELLS) (sym e) (omega (arith, (moved_are_cells change w.book.texts w.book.cells ok).few, h.few));
  cells = λ x d f. moved_fits change w.book.texts (length w.names) w.book.cells ok h.cells x d (ap (λ (cs : Cells). entry_at cs x) (sym e) ∙ f);
}

-- a formula of the workbook is one of its cells

pub held_formula : (w : SharedBook) (at : Addr) (id : ExprId) (o : Option Held) → IsWorkbook w → option_map (content_in w.pool) o ≡ entry_at w.book.cells at → o ≡ Some (Held.Formula id) → IsCell w.book.texts (length w.names) at (Content.Formula (tree_at w.pool id))
held_formula w at id o h told is = h.cells at (Content.Formula (tree_at w.pool id)) (sym told ∙ ap (option_map (content_in w.pool)) is)

pub tree_sound : (w : SharedBook) (at : Addr) (id : ExprId) (p : Trees) (e : Expr) → IsCell w.book.texts (length w.names) at (Content.Formula (tree_at w.pool id)) → p ≡ w.pool → e ≡ tree_at p id → IsSound at e
tree_sound w at id p e cell same is = subst (IsSound at) (sym (is ∙ ap (λ (q : Trees). tree_at q id) same)) cell.sound
