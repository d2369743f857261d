-- A copied formula is sound where it is copied to, with the same texts and sheets.
use Rattle.std.proofs.Common.{◌≡◌, ℕ, ◌*◌, ◌≤◌, Bool, true, false, cond, Option, Some, None, Result, Ok, Err, refl, sym, subst, arith}
use Rattle.std.specs.Prelude.{nat_le, IsSome, IsSomeAnd, IfOk}
use Rattle.std.proofs.lemmas.Bool.Decides.{nat_tests}
use Rattle.cell_values.specs.declared.address.Addr.{Addr}
use Rattle.cell_values.specs.declared.address.Area.{Area}
use Rattle.cell_values.specs.declared.TheConstants.{MAX_RANGE_CELLS}
use Rattle.cell_values.specs.Areas.{height, width}
use Rattle.formula_trees.specs.declared.tree.Reference.{Reference}
use Rattle.formula_trees.specs.declared.tree.Tree.{Tree}
use Rattle.formula_trees.specs.Expr.{Expr, expr_of, Ref, Range, RefError}
use Rattle.formula_trees.specs.References.{resolve, area_of}
use Rattle.formula_trees.specs.SheetNumbers.{SheetsBelow}
use Rattle.formula_trees.specs.Shifted.{kept_cell, kept_area, copied_cell, copied_range, shifted}
use Rattle.formula_trees.specs.Sound.{IsSound}
use Rattle.formula_trees.specs.TextNumbers.{TextsBelow}
use Rattle.formula_trees.proofs.Mappings.{IsLeaf, leaf_ref, leaf_range, leaf_error, IsCell, IsCells, Repoints, sound_mapped, texts_mapped, sheets_mapped}

-- what is true of a reference or a range and of `#REF!` is true of what is left of it
kept : (P : Expr → Type 0) (e : Expr) (b : Bool) → P e → P RefError → P (cond b e RefError)
kept P e true h bad = h
kept P e false h bad = bad

left_of_cell : (P : Expr → Type 0) (e : Expr) (o : Option Addr) → P e → P RefError → P (kept_cell e o)
left_of_cell P e (Some a) h bad = h
left_of_cell P e None h bad = bad

left_of_area : (P : Expr → Type 0) (e : Expr) (o : Option Area) → P e → P RefError → P (kept_area e o)
left_of_area P e (Some a) h bad = kept P e (nat_le (height a * width a) MAX_RANGE_CELLS) h bad
left_of_area P e None h bad = bad

le_tested : (m n : ℕ) → nat_le m n ≡ true → m ≤ n
le_tested m n h = grind (arith, nat_tests)

cell_copied : (to : Addr) (r : Reference) (o : Option Addr) → resolve to r ≡ o → IsCell to (kept_cell (Ref r) o)
cell_copied to r (Some a) p = subst IsSome (sym p) refl
cell_copied to r None p = tt

abbrev is_small : Option Area → Type 0
is_small o = IsSomeAnd o (λ a. height a * width a ≤ MAX_RANGE_CELLS)

kept_copied : (to : Addr) (r s : Reference) (a : Area) (b : Bool) → r.sheet ≡ s.sheet → area_of to r s ≡ Some a → nat_le (height a * width a) MAX_RANGE_CELLS ≡ b → IsCells to (cond b (Range r s) RefError)
kept_copied to r s a true one p q = record { one_sheet = one; small = subst is_small (sym p) (le_tested (height a * width a) MAX_RANGE_CELLS q) }
kept_copied to r s a false one p q = tt

area_copied : (to : Addr) (r s : Reference) (o : Option Area) → r.sheet ≡ s.sheet → area_of to r s ≡ o → IsCells to (kept_area (Range r s) o)
area_copied to r s (Some a) one p = kept_copied to r s a (nat_le (height a * width a) MAX_RANGE_CELLS) one p refl
area_copied to r s None one p = tt

copies : (from to : Addr) → Repoints from to (copied_cell to) (copied_range to)
copies from to = record {
  cell_leaf = λ r. left_of_cell IsLeaf (Ref r) (resolve to r) (leaf_ref r) leaf_error;
  range_leaf = λ r s. left_of_area IsLeaf (Range r s) (area_of to r s) (leaf_range r s) leaf_error;
  cell_there = λ r h. cell_copied to r (resolve to r) refl;
  range_there = λ r s h. area_copied to r s (area_of to r s) h.one_sheet refl;
}

pub sound_shifted : (from to : Addr) (e : Expr) → IsSound from e → IsSound to (shifted to e)
sound_shifted from to e h = sound_mapped from to (copied_cell to) (copied_range to) (λ t. t) (copies from to) e h

pub sound_copy : {X : Type 0} (from to : Addr) (e : Expr) (copy : Result Tree X) → IsSound from e → IfOk copy (λ t. expr_of t ≡ shifted to e) → IfOk copy (λ t. IsSound to (expr_of t))
sound_copy from to e (Ok t) h p = subst (IsSound to) (sym p) (sound_shifted from to e h)
sound_copy from to e (Err x) h p = tt

pub shifted_texts : (meant : ℕ → Type 0) (to : Addr) (e : Expr) → TextsBelow meant e → TextsBelow meant (shifted to e)
shifted_texts meant to e h = texts_mapped meant meant (copied_cell to) (copied_range to) (λ t. t) (λ t has. has) (λ r. left_of_cell (TextsBelow meant) (Ref r) (resolve to r) tt tt) (λ r s. left_of_area (TextsBelow meant) (Range r s) (area_of to r s) tt tt) e h

pub shifted_sheets : (n : ℕ) (to : Addr) (e : Expr) → SheetsBelow n e → SheetsBelow n (shifted to e)
shifted_sheets n to e h = sheets_mapped n n (copied_cell to) (copied_range to) (λ t. t) (λ r below. left_of_cell (SheetsBelow n) (Ref r) (resolve to r) below tt) (λ r s below. left_of_area (SheetsBelow n) (Range r s) (area_of to r s) below tt) e h
