-- Cells in ordered maps, read by address.
use Rattle.std.proofs.Common.{◌≡◌, ◌+◌, cond, ◌&&◌, ◌||◌, List, [], ◌∷◌, eqb, is_eq, Bool, true, false, Option, Some, None, option_map, is_some, length, refl, sym, ap, subst, ◌∙◌, suc}
use Rattle.std.specs.List.{list_any}
use Rattle.std.specs.BTreeMap.{BTreeMap, IsOrdered}
use Rattle.std.specs.BTreeMap as tree
use Rattle.std.specs.BTreeSet.{BTreeSet}
use Rattle.std.specs.BTreeSet as sorted
use Rattle.cell_values.specs.contracts.address.AddrOrd.TheImpl as addr_ord
use Rattle.cell_values.specs.declared.address.Addr.{Addr}
use Rattle.cell_values.specs.Addresses.{same_addr}
use Rattle.cell_values.specs.Order.{InOrder, addresses, entry_at}
use Rattle.cell_values.proofs.Order.{same_cmp, same_addr-true, lookup_is, entries_in_order}
use Rattle.shared_expressions.specs.Trees.{Trees}
use Rattle.workbook_core.proofs.Orders.{is_eq-three}
use Rattle.workbook_core.specs.contracts.cells.ColumnFirstOrd.TheImpl as column_ord
use Rattle.workbook_core.specs.declared.Content.{Content as Held}
use Rattle.workbook_core.specs.declared.cells.ColumnFirst.{ColumnFirst}
use Rattle.workbook_core.specs.Held.{content_in, cells_in, turned, same_turned, AreIndexed, SetsHeld}

-- the orders tell addresses apart

and_swap : (a b c : Bool) → (a && (b && c)) ≡ (a && (c && b))
and_swap false b c = refl
and_swap true false false = refl
and_swap true false true = refl
and_swap true true false = refl
and_swap true true true = refl

same_column : (a b : ColumnFirst) → is_eq ((column_ord.ghosts).cmp a b) ≡ same_turned a b
same_column a b = is_eq-three a.sheet b.sheet a.col b.col a.row b.row

pub same_turned-turned : (a b : Addr) → same_turned (turned a) (turned b) ≡ same_addr a b
same_turned-turned a b = and_swap (eqb a.sheet b.sheet) (eqb a.col b.col) (eqb a.row b.row)

-- look-ups

pub column_is : (ks : List ColumnFirst) (a : ColumnFirst) → list_any (λ k. is_eq ((column_ord.ghosts).cmp a k)) ks ≡ list_any (same_turned a) ks
column_is [] a = refl
column_is (k ∷ ks) a = λ i. same_column a k i || column_is ks a i

option_map-cond : (p : Trees) (t : Bool) (h : Held) (o : Option Held) → cond t (Some (content_in p h)) (option_map (content_in p) o) ≡ option_map (content_in p) (cond t (Some h) o)
option_map-cond p true h o = refl
option_map-cond p false h o = refl

pub held_cells : (p : Trees) (es : List (Addr × Held)) (a : Addr) → entry_at (cells_in p es) a ≡ option_map (content_in p) (entry_at es a)
held_cells p [] a = refl
held_cells p (e ∷ es) a = ap (cond (same_addr a e.0) (Some (content_in p e.1))) (held_cells p es a) ∙ option_map-cond p (same_addr a e.0) e.1 (entry_at es a)

pub length-cells_in : (p : Trees) (es : List (Addr × Held)) → length (cells_in p es) ≡ length es
length-cells_in p [] = refl
length-cells_in p (e ∷ es) = ap suc (length-cells_in p es)

-- order, over all pools

addresses_in : (p : Trees) (es : List (Addr × Held)) → addresses (cells_in p es) ≡ addresses es
addresses_in p [] = refl
addresses_in p (e ∷ es) = λ i. e.0 ∷ addresses_in p es i

pub in_book : (p : Trees) (es : List (Addr × Held)) → InOrder (addresses es) → InOrder (addresses (cells_in p es))
in_book p es h = subst InOrder (sym (addresses_in p es)) h

pub from_book : (p : Trees) (es : List (Addr × Held)) → InOrder (addresses (cells_in p es)) → InOrder (addresses es)
from_book p es h = subst InOrder (addresses_in p es) h

-- one cell of a map changed

pub sets_held : (m n : BTreeMap Addr Held) (at : Addr) (held : Option Held) → tree.Updates ((addr_ord.ghosts).cmp) m n at held → tree.IsOrdered ((addr_ord.ghosts).cmp) n → SetsHeld at held m.entries n.entries
sets_held m n at held u o = record {
  order = entries_in_order n.entries o;
  lookups = λ a. sym (lookup_is n.entries a) ∙ u.0 a ∙ (λ i. cond (same_cmp at a i) held (lookup_is m.entries a i));
}

is_some-cond : (t : Bool) (w o : Option Held) → is_some (cond t w o) ≡ cond t (is_some w) (is_some o)
is_some-cond true w o = refl
is_some-cond false w o = refl

column_after : (s t : BTreeSet ColumnFirst) (at : Addr) (b : Bool) → sorted.Updates ((column_ord.ghosts).cmp) s t (turned at) b → (a : Addr) → list_any (same_turned (turned a)) t.keys ≡ cond (same_addr at a) b (list_any (same_turned (turned a)) s.keys)
column_after s t at b u a =
    sym (column_is t.keys (turned a)) ∙ u.0 (turned a)
    ∙ (λ i. cond ((same_column (turned at) (turned a) ∙ same_turned-turned at a) i) b (column_is s.keys (turned a) i))

pub indexed_after : (old new : List (Addr × Held)) (s t : BTreeSet ColumnFirst) (at : Addr) (held : Option Held) (key : ColumnFirst) → key ≡ turned at → AreIndexed old s.keys → SetsHeld at held old new → sorted.Updates ((column_ord.ghosts).cmp) s t key (is_some held) → AreIndexed new t.keys
indexed_after old new s t at held key is h k v = let u : sorted.Updates ((column_ord.ghosts).cmp) s t (turned at) (is_some held) = subst (λ x. sorted.Updates ((column_ord.ghosts).cmp) s t x (is_some held)) is v in record {
  order = k.order;
  same = λ a. column_after s t at (is_some held) u a ∙ ap (cond (same_addr at a) (is_some held)) (h.same a) ∙ sym (is_some-cond (same_addr at a) held (entry_at old a)) ∙ ap is_some (sym (k.lookups a));
}

none_from_absent : (o : Option Held) → is_some o ≡ false → o ≡ None
none_from_absent None e = refl
none_from_absent (Some h) e = cc

-- an address that is not among the columns has no cell
pub absent : (old : List (Addr × Held)) (s : BTreeSet ColumnFirst) (at : Addr) (key : ColumnFirst) → key ≡ turned at → AreIndexed old s.keys → sorted.contains ((column_ord.ghosts).cmp) s key ≡ false → entry_at old at ≡ None
absent old s at key is h v = let e : sorted.contains ((column_ord.ghosts).cmp) s (turned at) ≡ false = subst (λ x. sorted.contains ((column_ord.ghosts).cmp) s x ≡ false) is v in none_from_absent (entry_at old at) (sym (h.same at) ∙ sym (column_is s.keys (turned at)) ∙ e)

pub absent_from_map : (m : BTreeMap Addr Held) (at : Addr) → tree.get ((addr_ord.ghosts).cmp) m at ≡ None → entry_at m.entries at ≡ None
absent_from_map m at e = sym (lookup_is m.entries at) ∙ e

cond_twice : (t : Bool) (b c o : Bool) → (t ≡ true → o ≡ c) → cond t c (cond t b o) ≡ o
cond_twice true b c o h = sym (h refl)
cond_twice false b c o h = refl

-- a column that is put in and taken out again
pub indexed_again : (old : List (Addr × Held)) (s t u : BTreeSet ColumnFirst) (at : Addr) (k l : ColumnFirst) → k ≡ turned at → l ≡ turned at → AreIndexed old s.keys → entry_at old at ≡ None → sorted.Updates ((column_ord.ghosts).cmp) s t k true → sorted.Updates ((column_ord.ghosts).cmp) t u l false → AreIndexed old u.keys
indexed_again old s t u at k l is_k is_l h none v w =
    let p : sorted.Updates ((column_ord.ghosts).cmp) s t (turned at) true = subst (λ x. sorted.Updates ((column_ord.ghosts).cmp) s t x true) is_k v in
    let q : sorted.Updates ((column_ord.ghosts).cmp) t u (turned at) false = subst (λ x. sorted.Updates ((column_ord.ghosts).cmp) t u x false) is_l w in
    record {
      order = h.order;
      same = λ a. column_after t u at false q a ∙ ap (cond (same_addr at a) false) (column_after s t at true p a)
          ∙ cond_twice (same_addr at a) true false (list_any (same_turned (turned a)) s.keys) (λ e. h.same a ∙ ap (λ x. is_some (entry_at old x)) (sym (same_addr-true at a e)) ∙ ap is_some none)
          ∙ h.same a;
    }

-- the length of a map after an insertion
pub added_length : (m n : BTreeMap Addr Held) (at : Addr) (was : Option Held) → was ≡ tree.get ((addr_ord.ghosts).cmp) m at → length n.entries ≡ length m.entries + cond (is_some was) 0 1 → length n.entries ≡ length m.entries + cond (is_some (entry_at m.entries at)) 0 1
added_length m n at was is e = e ∙ ap (λ o. length m.entries + cond (is_some o) 0 1) (is ∙ lookup_is m.entries at)
