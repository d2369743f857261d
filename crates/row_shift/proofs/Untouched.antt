-- Formula cells that are not pending after rows were inserted or deleted show at their places what they showed before.
use Rattle.std.proofs.Common.{◌≡◌, true, inr, Option, Some, None, refl, sym, ap, ◌∙◌, subst}
use Rattle.std.specs.Prelude.{option_map, filter_map}
use Rattle.cell_values.specs.declared.address.Addr.{Addr}
use Rattle.cell_values.specs.declared.values.Shown.{Shown}
use Rattle.cell_values.specs.declared.values.Value.{Value}
use Rattle.cell_values.specs.Order.{entry_at}
use Rattle.formula_trees.specs.Expr.{Expr}
use Rattle.demand_spec.specs.Book.{Book, Content, formula_of, own_of, formula_at, own, shown}
use Rattle.demand_spec.specs.Laws.{Reached, OfSet}
use Rattle.demand_spec.specs.Like.{LikeCells, LikeShown, MirrorsOutside}
use Rattle.demand_spec.proofs.Same.{equal_respects}
use Rattle.demand_spec.proofs.Spread.{pending_listed}
use Rattle.demand_spec.proofs.Untouched.{mirrored_outside}
use Rattle.row_shift.specs.declared.change.RowChange.{RowChange}
use Rattle.row_shift.specs.Moves.{IsChange, move_cell, moved}
use Rattle.row_shift.specs.MovedBook.{moved_content, moved_book, touched_places, among, UntouchedShowTheSame}
use Rattle.row_shift.proofs.Parts.{place_back}
use Rattle.row_shift.proofs.Formulas.{tree_like}
use Rattle.row_shift.proofs.Order.{found_moved, not_touched, moved_order}

abbrev pub Here : RowChange → Addr → Addr → Type 0
Here change a x = move_cell change a ≡ Some x

abbrev pub Same : Value → Value → Type 0
Same v w = v ≡ w

-- a cell and its place, where it is not touched
cells_like : (change : RowChange) (b : Book) → IsChange change → (a x : Addr) → move_cell change a ≡ Some x → (among (touched_places change b) x ≡ true → ⊥) → LikeCells (Here change) Same a (formula_at b a) (own b a) x (formula_at (moved_book change b) x) (own (moved_book change b) x)
unfolding formula_at own
cells_like change b ok a x h n = subst (λ (o : Option Content). LikeCells (Here change) Same a (formula_of (entry_at b.cells a)) (own_of (entry_at b.cells a)) x (formula_of o) (own_of o)) (sym (found_moved change b.cells a x h)) (go (entry_at b.cells a) refl)
  where
    go : (o : Option Content) → entry_at b.cells a ≡ o → LikeCells (Here change) Same a (formula_of o) (own_of o) x (formula_of (option_map (moved_content change a x) o)) (own_of (option_map (moved_content change a x) o))
    go None e = refl
    go (Some (Content.Number z)) e = refl
    go (Some (Content.Text t)) e = refl
    go (Some (Content.Truth t)) e = refl
    go (Some (Content.Formula t)) e = tree_like change a x ok h t (not_touched change b.cells a x t h e n)

books_mirror : (change : RowChange) (b : Book) → IsChange change → MirrorsOutside (OfSet (among (touched_places change b))) (Here change) Same b (moved_book change b)
books_mirror change b ok = record {
  respects = equal_respects b.texts;
  one = λ a x y h k. same_place x y (sym h ∙ k);
  back = λ a c x h k. place_back change a c x h k;
  cells = λ a x h n. cells_like change b ok a x h n;
}
  where
    same_place : (x y : Addr) → Some x ≡ Some y → x ≡ y
    same_place x y e = cc

same_shown : (s t : Shown) → LikeShown Same s t → t ≡ s
same_shown (Shown.Val v) (Shown.Val w) h = ap Shown.Val (sym h)
same_shown (Shown.Cycle n) (Shown.Cycle m) h = ap Shown.Cycle (sym h)
same_shown Shown.ToCycle Shown.ToCycle h = refl
same_shown s t h = absurd h

-- a formula cell is one at its place too
pub formula_there : (change : RowChange) (b : Book) (c to : Addr) (t : Expr) → formula_at b c ≡ Some t → move_cell change c ≡ Some to → formula_at (moved_book change b) to ≡ Some (moved change c to t)
unfolding formula_at
formula_there change b c to t e h = ap formula_of (found_moved change b.cells c to h) ∙ go (entry_at b.cells c) e
  where
    go : (o : Option Content) → formula_of o ≡ Some t → formula_of (option_map (moved_content change c to) o) ≡ Some (moved change c to t)
    go (Some (Content.Formula u)) k = (let same : u ≡ t = cc in ap (λ (z : Expr). Some (moved change c to z)) same)
    go (Some (Content.Number n)) k = cc
    go (Some (Content.Text n)) k = cc
    go (Some (Content.Truth n)) k = cc
    go None k = cc

pub untouched_show_the_same : UntouchedShowTheSame
untouched_show_the_same change b pending c to t ok order formula place out =
    same_shown (shown b c) (shown (moved_book change b) to)
    (mirrored_outside (Here change) Same b (moved_book change b) (among (touched_places change b)) (books_mirror change b ok) c to place not_reached).0
  where
    not_reached : Reached (moved_book change b) (OfSet (among (touched_places change b))) to → ⊥
    not_reached r = (let listed = (pending_listed (moved_book change b) (filter_map (move_cell change) pending) (among (touched_places change b)) (moved_order change b.cells order)).0 to in out (listed.1 ((moved change c to t, formula_there change b c to t formula place), inr r)))
