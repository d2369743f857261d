-- What is told of cells is the same over all pools.
use Rattle.std.proofs.Common.{◌≡◌, ℕ, List, Option, Some, None, option_map, IfNone, refl, sym, ◌∙◌}
use Rattle.cell_values.specs.declared.address.Addr.{Addr}
use Rattle.cell_values.specs.Order.{entry_at}
use Rattle.demand_spec.specs.Book.{Content}
use Rattle.shared_expressions.specs.Trees.{Trees}
use Rattle.workbook_core.specs.declared.Content.{Content as Held}
use Rattle.workbook_core.specs.Books.{IsNextCell, IsLastCell, IsLastRow, IsLastColumn, IsExtent, IsEmptySheet}
use Rattle.workbook_core.specs.Held.{content_in, cells_in}
use Rattle.workbook_core.proofs.Lookups.{held_cells}

same_some : (p q : Trees) (o : Option Held) (c : Content) → option_map (content_in p) o ≡ Some c → (d : Content) × (option_map (content_in q) o ≡ Some d)
same_some p q None c e = absurd (cc)
same_some p q (Some h) c e = (content_in q h, refl)

same_none : (p q : Trees) (o : Option Held) → option_map (content_in p) o ≡ None → option_map (content_in q) o ≡ None
same_none p q None e = refl
same_none p q (Some h) e = absurd (cc)

cell_of : (p q : Trees) (es : List (Addr × Held)) (a : Addr) (c : Content) → entry_at (cells_in p es) a ≡ Some c → (d : Content) × (entry_at (cells_in q es) a ≡ Some d)
cell_of p q es a c e = let h = same_some p q (entry_at es a) c (sym (held_cells p es a) ∙ e) in (h.0, held_cells q es a ∙ h.1)

none_of : (p q : Trees) (es : List (Addr × Held)) (a : Addr) → entry_at (cells_in p es) a ≡ None → entry_at (cells_in q es) a ≡ None
none_of p q es a e = held_cells q es a ∙ same_none p q (entry_at es a) (sym (held_cells p es a) ∙ e)

pub next_same : (p q : Trees) (es : List (Addr × Held)) (after : Option Addr) (next : Addr) → IsNextCell (cells_in p es) after next → IsNextCell (cells_in q es) after next
next_same p q es after next h = record {
  cell = cell_of p q es next h.cell.0 h.cell.1;
  behind = h.behind;
  least = λ a c e. h.least a (cell_of q p es a c e).0 (cell_of q p es a c e).1;
}

pub last_same : (p q : Trees) (es : List (Addr × Held)) (after : Option Addr) → IsLastCell (cells_in p es) after → IsLastCell (cells_in q es) after
last_same p q es after h a l = none_of p q es a (h a l)

pub extent_same : (p q : Trees) (es : List (Addr × Held)) (sheet : ℕ) (last : ℕ × ℕ) → IsExtent (cells_in p es) sheet last → IsExtent (cells_in q es) sheet last
extent_same p q es sheet last h = (row h.0, column h.1)
  where
    row : IsLastRow (cells_in p es) sheet last.0 → IsLastRow (cells_in q es) sheet last.0
    row r = record {
      there = (let c = cell_of p q es r.there.0 r.there.1 r.there.4 in (r.there.0, c.0, r.there.2, r.there.3, c.1));
      within = λ a c on e. r.within a (cell_of q p es a c e).0 on (cell_of q p es a c e).1;
    }

    column : IsLastColumn (cells_in p es) sheet last.1 → IsLastColumn (cells_in q es) sheet last.1
    column r = record {
      there = (let c = cell_of p q es r.there.0 r.there.1 r.there.4 in (r.there.0, c.0, r.there.2, r.there.3, c.1));
      within = λ a c on e. r.within a (cell_of q p es a c e).0 on (cell_of q p es a c e).1;
    }

pub empty_same : (p q : Trees) (es : List (Addr × Held)) (sheet : ℕ) → IsEmptySheet (cells_in p es) sheet → IsEmptySheet (cells_in q es) sheet
empty_same p q es sheet h a on = none_of p q es a (h a on)

pub if_none_then : {X : Type 0} (r : Option X) {P Q : Type 0} → IfNone r P → (P → Q) → IfNone r Q
if_none_then None h f = f h
if_none_then (Some x) h f = h
