-- The first cell behind an address, and the last row and column of a sheet.
use Rattle.std.proofs.Common.{◌≡◌, ℕ, ◌⊎◌, inl, inr, ◌<◌, ◌++◌, List, [], ◌∷◌, Less, Greater, true, false, Option, Some, None, option_map, is_some, IsSome, refl, sym, ap, subst, ◌∙◌, arith}
use Rattle.std.specs.Ordering.{is_gt}
use Rattle.std.specs.declared.ops.Bound.TheVariants.{Included, Excluded, Unbounded}
use Rattle.std.specs.BTreeMap.{BTreeMap}
use Rattle.std.specs.BTreeMap as tree
use Rattle.std.specs.BTreeMap.Range.{IsRangeOf, IsInRange}
use Rattle.std.specs.BTreeSet.{BTreeSet, IsKeyRangeOf}
use Rattle.std.specs.BTreeSet as sorted
use Rattle.cell_values.specs.contracts.address.AddrOrd.TheImpl as addr_ord
use Rattle.cell_values.specs.declared.address.Addr.{Addr}
use Rattle.cell_values.specs.Addresses.{IsBefore, IsOnSheet}
use Rattle.cell_values.specs.Order.{entry_at}
use Rattle.cell_values.proofs.Order.{cmp_less, lookup_is}
use Rattle.demand_spec.specs.Book.{Content}
use Rattle.workbook_core.specs.contracts.cells.ColumnFirstOrd.TheImpl as column_ord
use Rattle.workbook_core.specs.declared.Content.{Content as Held}
use Rattle.workbook_core.specs.declared.cells.ColumnFirst.{ColumnFirst}
use Rattle.workbook_core.specs.Books.{IsNextCell, IsLastCell, IsLastRow, IsLastColumn, IsEmptySheet}
use Rattle.workbook_core.specs.Held.{content_in, cells_in, turned, AreIndexed, AreOnSheets}
use Rattle.workbook_core.proofs.Lookups.{held_cells, column_is}
use Rattle.workbook_core.proofs.Orders.{three_less, three_greater, greater_three, not_greater, is_not_greater, is_not_less, le_from_not, between_equal}

cmp_from_before : (a b : Addr) → IsBefore a b → (addr_ord.ghosts).cmp a b ≡ Less
cmp_from_before a b h = three_less a.sheet b.sheet a.row b.row a.col b.col h

after_from_before : (a b : Addr) → IsBefore a b → (addr_ord.ghosts).cmp b a ≡ Greater
after_from_before a b (inl h) = three_greater b.sheet a.sheet b.row a.row b.col a.col (inl h)
after_from_before a b (inr (e, inl h)) = three_greater b.sheet a.sheet b.row a.row b.col a.col (inr (sym e, inl h))
after_from_before a b (inr (e, inr (f, h))) = three_greater b.sheet a.sheet b.row a.row b.col a.col (inr (sym e, inr (sym f, h)))

-- a cell of the book is an entry of the map, and the other way round

there : (o : Option Held) (c : Content) → option_map (content_in []) o ≡ Some c → IsSome o
there None c e = absurd (cc)
there (Some h) c e = refl

entry_from_cell : (m : BTreeMap Addr Held) (a : Addr) (c : Content) → entry_at (cells_in [] m.entries) a ≡ Some c → IsSome (tree.get ((addr_ord.ghosts).cmp) m a)
entry_from_cell m a c e = there (tree.get ((addr_ord.ghosts).cmp) m a) c (ap (option_map (content_in [])) (lookup_is m.entries a) ∙ sym (held_cells [] m.entries a) ∙ e)

cell_from_entry : (m : BTreeMap Addr Held) (a : Addr) (h : Option Held) → tree.get ((addr_ord.ghosts).cmp) m a ≡ h → entry_at (cells_in [] m.entries) a ≡ option_map (content_in []) h
cell_from_entry m a h e = held_cells [] m.entries a ∙ ap (option_map (content_in [])) (sym (lookup_is m.entries a) ∙ e)

-- the first entry behind an address
pub next_is : (m : BTreeMap Addr Held) (at : Addr) (r u : List (Addr × Held)) (e : Addr × Held) → IsRangeOf ((addr_ord.ghosts).cmp) (Excluded at) Unbounded m r → r ≡ e ∷ u → IsNextCell (cells_in [] m.entries) (Some at) e.0
next_is m at r u e h is =
    let k : IsRangeOf ((addr_ord.ghosts).cmp) (Excluded at) Unbounded m (e ∷ u) = subst (IsRangeOf ((addr_ord.ghosts).cmp) (Excluded at) Unbounded m) is h in
    record {
      cell = (content_in [] e.1, cell_from_entry m e.0 (Some e.1) k.1.1);
      behind = cmp_less at e.0 k.1.0.0;
      least = λ a c there after before. is_not_greater ((addr_ord.ghosts).cmp e.0 a) (k.2 a (cmp_from_before at a after, tt) (entry_from_cell m a c there)) (after_from_before a e.0 before);
    }

pub last_is : (m : BTreeMap Addr Held) (at : Addr) (r : List (Addr × Held)) → IsRangeOf ((addr_ord.ghosts).cmp) (Excluded at) Unbounded m r → r ≡ [] → IsLastCell (cells_in [] m.entries) (Some at)
last_is m at r h is a after = cell_from_entry m a None (h.5 is a (cmp_from_before at a after, tt))

-- the first entry
pub first_is : (m : BTreeMap Addr Held) (a : Addr) (h : Held) → tree.get ((addr_ord.ghosts).cmp) m a ≡ Some h → tree.IsLowerBound ((addr_ord.ghosts).cmp) m a → IsNextCell (cells_in [] m.entries) None a
first_is m a h e low = record {
  cell = (content_in [] h, cell_from_entry m a (Some h) e);
  behind = tt;
  least = λ b c there after before. is_not_greater ((addr_ord.ghosts).cmp a b) (low b (entry_from_cell m b c there)) (after_from_before b a before);
}

-- the corners of a sheet
abbrev pub corner : ℕ → ℕ → ℕ → Addr
corner sheet row col = record { sheet = sheet; row = row; col = col }

from_corner : (sheet : ℕ) (a : Addr) → a.sheet ≡ sheet → is_gt ((addr_ord.ghosts).cmp (corner sheet 0 0) a) ≡ false
from_corner sheet a is = not_greater ((addr_ord.ghosts).cmp (corner sheet 0 0) a) (λ e. go (greater_three sheet a.sheet 0 a.row 0 a.col e))
  where
    go : (a.sheet < sheet) ⊎ ((sheet ≡ a.sheet) × ((a.row < 0) ⊎ ((0 ≡ a.row) × (a.col < 0)))) → ⊥
    go (inl h) = omega arith
    go (inr (e, inl h)) = omega arith
    go (inr (e, inr (f, h))) = omega arith

to_corner : (sheet : ℕ) (a : Addr) → a.sheet ≡ sheet → IsOnSheet a → is_gt ((addr_ord.ghosts).cmp a (corner sheet 65536 256)) ≡ false
to_corner sheet a is on = not_greater ((addr_ord.ghosts).cmp a (corner sheet 65536 256)) (λ e. go (greater_three a.sheet sheet a.row 65536 a.col 256 e))
  where
    go : (sheet < a.sheet) ⊎ ((a.sheet ≡ sheet) × ((65536 < a.row) ⊎ ((a.row ≡ 65536) × (256 < a.col)))) → ⊥
    go (inl h) = omega arith
    go (inr (e, inl h)) = omega (arith, on.row_to)
    go (inr (e, inr (f, h))) = omega (arith, on.col_to)

on_sheet : (m : BTreeMap Addr Held) → AreOnSheets m.entries → (a : Addr) → IsSome (tree.get ((addr_ord.ghosts).cmp) m a) → IsOnSheet a
on_sheet m all a e = go (tree.get ((addr_ord.ghosts).cmp) m a) refl e
  where
    go : (o : Option Held) → tree.get ((addr_ord.ghosts).cmp) m a ≡ o → IsSome o → IsOnSheet a
    go None is e = absurd (cc)
    go (Some h) is e = all a h (sym (lookup_is m.entries a) ∙ is)

in_sheet : (m : BTreeMap Addr Held) (sheet : ℕ) → AreOnSheets m.entries → (a : Addr) → a.sheet ≡ sheet → IsSome (tree.get ((addr_ord.ghosts).cmp) m a) → IsInRange ((addr_ord.ghosts).cmp) (Included (corner sheet 0 0)) (Included (corner sheet 65536 256)) a
in_sheet m sheet all a is e = (from_corner sheet a is, to_corner sheet a is (on_sheet m all a e))

-- the last row of a sheet
pub last_row_is : (m : BTreeMap Addr Held) (sheet : ℕ) (r t : List (Addr × Held)) (e : Addr × Held) → AreOnSheets m.entries → IsRangeOf ((addr_ord.ghosts).cmp) (Included (corner sheet 0 0)) (Included (corner sheet 65536 256)) m r → r ≡ t ++ e ∷ [] → IsLastRow (cells_in [] m.entries) sheet e.0.row
last_row_is m sheet r t e all h is =
    let k = h.3 e t is in
    let same : e.0.sheet ≡ sheet = between_equal sheet e.0.sheet e.0.row e.0.col e.0.row e.0.col 0 0 65536 256 k.0.0 k.0.1 in
    record {
      there = (e.0, content_in [] e.1, same, refl, cell_from_entry m e.0 (Some e.1) k.1);
      within = λ a c on cell. le_from_not a.row e.0.row (λ more. is_not_less ((addr_ord.ghosts).cmp e.0 a)
          (h.4 e t is a (in_sheet m sheet all a on (entry_from_cell m a c cell)) (entry_from_cell m a c cell))
          (three_less e.0.sheet a.sheet e.0.row a.row e.0.col a.col (inr (same ∙ sym on, inl more))));
    }

none_is : (o : Option Held) → (IsSome o → o ≡ None) → o ≡ None
none_is None h = refl
none_is (Some x) h = h refl

pub no_row_is : (m : BTreeMap Addr Held) (sheet : ℕ) (r : List (Addr × Held)) → AreOnSheets m.entries → IsRangeOf ((addr_ord.ghosts).cmp) (Included (corner sheet 0 0)) (Included (corner sheet 65536 256)) m r → r ≡ [] → IsEmptySheet (cells_in [] m.entries) sheet
no_row_is m sheet r all h is a on = cell_from_entry m a None (none_is (tree.get ((addr_ord.ghosts).cmp) m a) (λ e. h.5 is a (in_sheet m sheet all a on e)))

-- the same range, by equal bounds
pub between_rows : (m : BTreeMap Addr Held) (r : List (Addr × Held)) (x y v w : Addr) → x ≡ v → y ≡ w → IsRangeOf ((addr_ord.ghosts).cmp) (Included x) (Included y) m r → IsRangeOf ((addr_ord.ghosts).cmp) (Included v) (Included w) m r
between_rows m r x y v w e f h = subst (λ z. IsRangeOf ((addr_ord.ghosts).cmp) (Included z) (Included w) m r) e (subst (λ z. IsRangeOf ((addr_ord.ghosts).cmp) (Included x) (Included z) m r) f h)

pub between_columns : (s : BTreeSet ColumnFirst) (r : List ColumnFirst) (x y v w : ColumnFirst) → x ≡ v → y ≡ w → IsKeyRangeOf ((column_ord.ghosts).cmp) (Included x) (Included y) s r → IsKeyRangeOf ((column_ord.ghosts).cmp) (Included v) (Included w) s r
between_columns s r x y v w e f h = subst (λ z. IsKeyRangeOf ((column_ord.ghosts).cmp) (Included z) (Included w) s r) e (subst (λ z. IsKeyRangeOf ((column_ord.ghosts).cmp) (Included x) (Included z) s r) f h)

-- the same by columns

abbrev pub column_corner : ℕ → ℕ → ℕ → ColumnFirst
column_corner sheet col row = record { sheet = sheet; col = col; row = row }

abbrev turned_back : ColumnFirst → Addr
turned_back k = record { sheet = k.sheet; row = k.row; col = k.col }

from_column : (sheet : ℕ) (a : Addr) → a.sheet ≡ sheet → is_gt ((column_ord.ghosts).cmp (column_corner sheet 0 0) (turned a)) ≡ false
from_column sheet a is = not_greater ((column_ord.ghosts).cmp (column_corner sheet 0 0) (turned a)) (λ e. go (greater_three sheet a.sheet 0 a.col 0 a.row e))
  where
    go : (a.sheet < sheet) ⊎ ((sheet ≡ a.sheet) × ((a.col < 0) ⊎ ((0 ≡ a.col) × (a.row < 0)))) → ⊥
    go (inl h) = omega arith
    go (inr (e, inl h)) = omega arith
    go (inr (e, inr (f, h))) = omega arith

to_column : (sheet : ℕ) (a : Addr) → a.sheet ≡ sheet → IsOnSheet a → is_gt ((column_ord.ghosts).cmp (turned a) (column_corner sheet 256 65536)) ≡ false
to_column sheet a is on = not_greater ((column_ord.ghosts).cmp (turned a) (column_corner sheet 256 65536)) (λ e. go (greater_three a.sheet sheet a.col 256 a.row 65536 e))
  where
    go : (sheet < a.sheet) ⊎ ((a.sheet ≡ sheet) × ((256 < a.col) ⊎ ((a.col ≡ 256) × (65536 < a.row)))) → ⊥
    go (inl h) = omega arith
    go (inr (e, inl h)) = omega (arith, on.col_to)
    go (inr (e, inr (f, h))) = omega (arith, on.row_to)

held_from_column : (rows : List (Addr × Held)) (s : BTreeSet ColumnFirst) (a : Addr) → AreIndexed rows s.keys → sorted.contains ((column_ord.ghosts).cmp) s (turned a) ≡ is_some (entry_at rows a)
held_from_column rows s a h = column_is s.keys (turned a) ∙ h.same a

some_of : (o : Option Held) → is_some o ≡ true → (h : Held) × (o ≡ Some h)
some_of None e = absurd (cc)
some_of (Some h) e = (h, refl)

column_from_cell : (rows : List (Addr × Held)) (s : BTreeSet ColumnFirst) (a : Addr) (c : Content) → AreIndexed rows s.keys → entry_at (cells_in [] rows) a ≡ Some c → sorted.contains ((column_ord.ghosts).cmp) s (turned a) ≡ true
column_from_cell rows s a c h e = held_from_column rows s a h ∙ there (entry_at rows a) c (sym (held_cells [] rows a) ∙ e)

in_columns : (rows : List (Addr × Held)) (s : BTreeSet ColumnFirst) (sheet : ℕ) (a : Addr) (h : Held) → AreOnSheets rows → a.sheet ≡ sheet → entry_at rows a ≡ Some h → IsInRange ((column_ord.ghosts).cmp) (Included (column_corner sheet 0 0)) (Included (column_corner sheet 256 65536)) (turned a)
in_columns rows s sheet a h all is e = (from_column sheet a is, to_column sheet a is (all a h e))

-- the last column of a sheet
pub last_column_is : (rows : List (Addr × Held)) (s : BTreeSet ColumnFirst) (sheet : ℕ) (r t : List ColumnFirst) (k : ColumnFirst) → AreIndexed rows s.keys → AreOnSheets rows → IsKeyRangeOf ((column_ord.ghosts).cmp) (Included (column_corner sheet 0 0)) (Included (column_corner sheet 256 65536)) s r → r ≡ t ++ k ∷ [] → IsLastColumn (cells_in [] rows) sheet k.col
last_column_is rows s sheet r t k x all h is =
    let e = h.3 k t is in
    let same : k.sheet ≡ sheet = between_equal sheet k.sheet k.col k.row k.col k.row 0 0 256 65536 e.0.0 e.0.1 in
    let found = some_of (entry_at rows (turned_back k)) (sym (held_from_column rows s (turned_back k) x) ∙ e.1) in
    record {
      there = (turned_back k, content_in [] found.0, same, refl, held_cells [] rows (turned_back k) ∙ ap (option_map (content_in [])) found.1);
      within = λ a c on cell.
          let held = some_of (entry_at rows a) (there (entry_at rows a) c (sym (held_cells [] rows a) ∙ cell)) in
          le_from_not a.col k.col (λ more. is_not_less ((column_ord.ghosts).cmp k (turned a))
          (h.4 k t is (turned a) (in_columns rows s sheet a held.0 all on held.1) (column_from_cell rows s a c x cell))
          (three_less k.sheet a.sheet k.col a.col k.row a.row (inr (same ∙ sym on, inl more))));
    }

pub no_column_is : (rows : List (Addr × Held)) (s : BTreeSet ColumnFirst) (sheet : ℕ) (r : List ColumnFirst) → AreIndexed rows s.keys → AreOnSheets rows → IsKeyRangeOf ((column_ord.ghosts).cmp) (Included (column_corner sheet 0 0)) (Included (column_corner sheet 256 65536)) s r → r ≡ [] → IsEmptySheet (cells_in [] rows) sheet
no_column_is rows s sheet r x all h is a on = held_cells [] rows a ∙ ap (option_map (content_in [])) (none_is (entry_at rows a) (λ e. absurd (never (some_of (entry_at rows a) e))))
  where
    never : ((held : Held) × (entry_at rows a ≡ Some held)) → ⊥
    never (held, e) =
        let out : sorted.contains ((column_ord.ghosts).cmp) s (turned a) ≡ false = h.5 is (turned a) (in_columns rows s sheet a held all on e) in
        let in_set : sorted.contains ((column_ord.ghosts).cmp) s (turned a) ≡ true = held_from_column rows s a x ∙ ap is_some e in
        cc
