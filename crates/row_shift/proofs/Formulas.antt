-- A moved formula is sound at its place, and corresponds to the formula as it was where the change does not touch it.
use Rattle.std.proofs.Common.{◌≡◌, ℕ, ◌*◌, ◌≤◌, Bool, true, false, cond, not, ◌==◌, Option, Some, None, Result, Ok, Err, refl, sym, ap, ◌∙◌, subst}
use Rattle.std.specs.Prelude.{nat_le, is_none, option_and_then, IsSome, IsSomeAnd, IfOk}
use Rattle.std.proofs.lemmas.Bool.{true≢false, or_parts, eqb-true}
use Rattle.cell_values.specs.declared.TheConstants.{MAX_RANGE_CELLS}
use Rattle.cell_values.specs.declared.address.Addr.{Addr}
use Rattle.cell_values.specs.declared.address.Area.{Area}
use Rattle.cell_values.specs.declared.values.Value.{Value}
use Rattle.cell_values.specs.Areas.{between_cells, height, width}
use Rattle.formula_trees.specs.declared.tree.Reference.{Reference}
use Rattle.formula_trees.specs.declared.tree.Tree.{Tree}
use Rattle.formula_trees.specs.Expr.{Expr, Exprs, expr_of, Number, Text, Truth, Ref, Range, RefError, Unary, Binary, Call, End, More}
use Rattle.formula_trees.specs.References.{resolve, area_between, area_of}
use Rattle.formula_trees.specs.Mapped.{all_mapped}
use Rattle.formula_trees.specs.Mentions.{place_from}
use Rattle.formula_trees.specs.Sound.{IsSound}
use Rattle.formula_trees.proofs.Mappings.{IsLeaf, leaf_ref, leaf_range, leaf_error, IsCell, IsCells, Repoints, sound_mapped}
use Rattle.demand_spec.specs.Like.{LikeOption, LikePlaces, LikeAreas, LikeTrees, AllLikeTrees}
use Rattle.row_shift.specs.declared.change.RowChange.{RowChange}
use Rattle.row_shift.specs.Moves.{IsChange, move_cell, moved_area, to_row, ref_to, moved_ref, range_to, range_between, moved_range, moved}
use Rattle.row_shift.specs.MovedBook.{loses_cell, has_other_height, area_changes, range_changes, have_part, touches}
use Rattle.row_shift.proofs.Ranges.{area_moved, same_width, kept_cells}
use Rattle.row_shift.proofs.Parts.{place_of_cell, same_sheet, same_column, place_within, resolved_within, resolved_there, between_area, area_there}

-- what is true of every reference, of every range and of `#REF!` is true of what stands for one
pub of_ref : (P : Expr → Type 0) (own : ℕ) (r : Reference) (o : Option Addr) → ((q : Reference) → P (Ref q)) → P RefError → P (ref_to own r o)
of_ref P own r (Some a) h bad = h (to_row own r a.row)
of_ref P own r None h bad = bad

pub of_range : (P : Expr → Type 0) (change : RowChange) (own : ℕ) (r s : Reference) (o p : Option Addr) → ((q t : Reference) → P (Range q t)) → P RefError → P (range_between change own r s o p)
of_range P change own r s (Some a) (Some b) h bad = go (moved_area change (between_cells a b))
  where
    go : (n : Option Area) → P (range_to own r s (nat_le a.row b.row) n)
    go (Some n) = h (to_row own r (cond (nat_le a.row b.row) n.top n.bottom)) (to_row own s (cond (nat_le a.row b.row) n.bottom n.top))
    go None = bad
of_range P change own r s (Some a) None h bad = bad
of_range P change own r s None (Some b) h bad = bad
of_range P change own r s None None h bad = bad

not_false : (q : Bool) → not q ≡ false → q ≡ true
not_false true h = refl
not_false false h = absurd (true≢false h)

-- a formula of the cell `at`, whose place is `to`
module _ (change : RowChange) (at to : Addr) (ok : IsChange change) (place : move_cell change at ≡ Some to) where
  sheet : to.sheet ≡ at.sheet
  sheet = same_sheet change at to place

  column : to.col ≡ at.col
  column = same_column change at to place

  -- a reference names the place of what it named
  pub ref_there : (r : Reference) (a x : Addr) → resolve at r ≡ Some a → move_cell change a ≡ Some x → resolve to (to_row to.row r x.row) ≡ Some x
  ref_there r a x e f =
      let w = place_within change a x ok.row_from (resolved_within at r a e) f in
      resolved_there at to r a x.row sheet column e w.row_from w.row_to ∙ ap Some (place_of_cell change a x f).same

  -- soundness

  cell_there : (r : Reference) → IsCell to (moved_ref change at to.row r)
  cell_there r = go (resolve at r) refl
    where
      by_place : (a : Addr) (o : Option Addr) → resolve at r ≡ Some a → move_cell change a ≡ o → IsCell to (ref_to to.row r o)
      by_place a (Some x) e f = subst IsSome (sym (ref_there r a x e f)) refl
      by_place a None e f = tt

      go : (o : Option Addr) → resolve at r ≡ o → IsCell to (ref_to to.row r (option_and_then (move_cell change) o))
      go (Some a) e = by_place a (move_cell change a) e refl
      go None e = tt

  range_there : (r s : Reference) → r.sheet ≡ s.sheet → IsCells to (moved_range change at to.row r s)
  range_there r s one = go (resolve at r) (resolve at s) refl refl
    where
      by_area : (a b : Addr) (o : Option Area) → resolve at r ≡ Some a → resolve at s ≡ Some b → moved_area change (between_cells a b) ≡ o → IsCells to (range_to to.row r s (nat_le a.row b.row) o)
      by_area a b (Some n) e f g = record {
        one_sheet = one;
        small = subst (λ (o : Option Area). IsSomeAnd o (λ z. height z * width z ≤ MAX_RANGE_CELLS)) (sym (area_there change at to r s a b n (nat_le a.row b.row) ok sheet column e f g)) (area_moved change (between_cells a b) n g).small;
      }
      by_area a b None e f g = tt

      go : (o p : Option Addr) → resolve at r ≡ o → resolve at s ≡ p → IsCells to (range_between change to.row r s o p)
      go (Some a) (Some b) e f = by_area a b (moved_area change (between_cells a b)) e f refl
      go (Some a) None e f = tt
      go None (Some b) e f = tt
      go None None e f = tt

  moves : Repoints at to (moved_ref change at to.row) (moved_range change at to.row)
  moves = record {
    cell_leaf = λ r. of_ref IsLeaf to.row r (option_and_then (move_cell change) (resolve at r)) leaf_ref leaf_error;
    range_leaf = λ r s. of_range IsLeaf change to.row r s (resolve at r) (resolve at s) leaf_range leaf_error;
    cell_there = λ r h. cell_there r;
    range_there = λ r s h. range_there r s h.one_sheet;
  }

  pub sound_moved : (e : Expr) → IsSound at e → IsSound to (moved change at to e)
  sound_moved e h = sound_mapped at to (moved_ref change at to.row) (moved_range change at to.row) (λ t. t) moves e h

  -- a formula that is not touched

  abbrev AtPlace : Addr → Addr → Type 0
  AtPlace a x = move_cell change a ≡ Some x

  abbrev Equal : Value → Value → Type 0
  Equal v w = v ≡ w

  ref_like : (r : Reference) → loses_cell change at r ≡ false → LikeTrees AtPlace Equal at (Ref r) to (moved_ref change at to.row r)
  ref_like r = go (resolve at r) refl
    where
      by_place : (a : Addr) (o : Option Addr) → resolve at r ≡ Some a → move_cell change a ≡ o → is_none o ≡ false → LikeTrees AtPlace Equal at (Ref r) to (ref_to to.row r o)
      by_place a (Some x) e f h = subst (λ (o : Option Addr). LikeOption AtPlace o (resolve to (to_row to.row r x.row))) (sym e) (subst (λ (o : Option Addr). LikeOption AtPlace (Some a) o) (sym (ref_there r a x e f)) f)
      by_place a None e f h = absurd (true≢false h)

      go : (o : Option Addr) → resolve at r ≡ o → is_none (option_and_then (move_cell change) o) ≡ false → LikeTrees AtPlace Equal at (Ref r) to (ref_to to.row r (option_and_then (move_cell change) o))
      go (Some a) e h = by_place a (move_cell change a) e refl h
      go None e h = absurd (true≢false h)

  range_like : (r s : Reference) → range_changes change at r s ≡ false → LikeTrees AtPlace Equal at (Range r s) to (moved_range change at to.row r s)
  range_like r s = go (resolve at r) (resolve at s) refl refl
    where
      areas_like : (a b : Addr) (n : Area) → resolve at r ≡ Some a → resolve at s ≡ Some b → moved_area change (between_cells a b) ≡ Some n → (height n == height (between_cells a b)) ≡ true → LikeAreas AtPlace (between_cells a b) n
      areas_like a b n e f g h =
          let high : height n ≡ height (between_cells a b) = eqb-true (height n) (height (between_cells a b)) h in
          let whole = between_area a b (resolved_within at r a e) (resolved_within at s b f) in
          record { high = sym high; wide = sym (same_width change (between_cells a b) n g); cells = λ i j l m. kept_cells change (between_cells a b) n whole ok g high i j l }

      by_area : (a b : Addr) (o : Option Area) → resolve at r ≡ Some a → resolve at s ≡ Some b → moved_area change (between_cells a b) ≡ o → has_other_height (between_cells a b) o ≡ false → LikeTrees AtPlace Equal at (Range r s) to (range_to to.row r s (nat_le a.row b.row) o)
      by_area a b (Some n) e f g h =
          let here : area_of at r s ≡ Some (between_cells a b) = (λ i. area_between (e i) (f i)) in
          let there = area_there change at to r s a b n (nat_le a.row b.row) ok sheet column e f g in
          subst (λ (o : Option Area). LikePlaces AtPlace (place_from o) (place_from (area_of to (to_row to.row r (cond (nat_le a.row b.row) n.top n.bottom)) (to_row to.row s (cond (nat_le a.row b.row) n.bottom n.top))))) (sym here)
          (subst (λ (o : Option Area). LikePlaces AtPlace (place_from (Some (between_cells a b))) (place_from o)) (sym there) (areas_like a b n e f g (not_false (height n == height (between_cells a b)) h)))
      by_area a b None e f g h = absurd (true≢false h)

      go : (o p : Option Addr) → resolve at r ≡ o → resolve at s ≡ p → area_changes change (area_between o p) ≡ false → LikeTrees AtPlace Equal at (Range r s) to (range_between change to.row r s o p)
      go (Some a) (Some b) e f h = by_area a b (moved_area change (between_cells a b)) e f refl h
      go (Some a) None e f h = absurd (true≢false h)
      go None (Some b) e f h = absurd (true≢false h)
      go None None e f h = absurd (true≢false h)

  mutual
    pub tree_like : (e : Expr) → touches change at e ≡ false → LikeTrees AtPlace Equal at e to (moved change at to e)
    tree_like (Number n) h = refl
    tree_like (Text t) h = refl
    tree_like (Truth b) h = refl
    tree_like (Ref r) h = ref_like r h
    tree_like (Range r s) h = range_like r s h
    tree_like RefError h = tt
    tree_like (Unary g a) h = (refl, tree_like a h)
    tree_like (Binary o a b) h = (let p = or_parts (touches change at a) (touches change at b) h in (refl, tree_like a p.0, tree_like b p.1))
    tree_like (Call f args) h = (refl, trees_like args h)

    trees_like : (args : Exprs) → have_part (loses_cell change at) (range_changes change at) args ≡ false → AllLikeTrees AtPlace Equal at args to (all_mapped (moved_ref change at to.row) (moved_range change at to.row) (λ t. t) args)
    trees_like End h = tt
    trees_like (More a rest) h = (let p = or_parts (touches change at a) (have_part (loses_cell change at) (range_changes change at) rest) h in (tree_like a p.0, trees_like rest p.1))

-- what `moved_tree` gives
pub sound_copy : {X : Type 0} (change : RowChange) (at to : Addr) (e : Expr) (new : Result Tree X) → IsChange change → move_cell change at ≡ Some to → IsSound at e → IfOk new (λ t. expr_of t ≡ moved change at to e) → IfOk new (λ t. IsSound to (expr_of t))
sound_copy change at to e (Ok t) ok place h p = subst (IsSound to) (sym p) (sound_moved change at to ok place e h)
sound_copy change at to e (Err x) ok place h p = tt
