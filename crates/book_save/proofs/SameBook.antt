-- A book with the same cells, whose texts have other numbers, shows the same texts.
use Rattle.std.proofs.Common.{◌≡◌, ℕ, Bool, true, false, cond, List, [], ◌∷◌, option_map, Option, Some, None, refl, sym, ap, subst, ◌∙◌}
use Rattle.cell_values.specs.declared.address.Addr.{Addr}
use Rattle.cell_values.specs.declared.interned.TextId.{TextId}
use Rattle.cell_values.specs.declared.values.Shown.{Shown}
use Rattle.cell_values.specs.declared.values.Value.{Value}
use Rattle.cell_values.specs.Addresses.{same_addr}
use Rattle.cell_values.specs.Order.{entry_at}
use Rattle.cell_values.specs.ShownText.{bool_text, code_text, int_text, shown_text, value_text}
use Rattle.cell_values.specs.Texts.{Texts}
use Rattle.formula_trees.specs.Expr.{Expr, Exprs, Number, Text, Truth, Ref, Range, RefError, Unary, Binary, Call, End, More}
use Rattle.formula_trees.specs.Mapped.{all_mapped}
use Rattle.formula_trees.specs.Mentions.{place_of}
use Rattle.formula_trees.specs.References.{resolve}
use Rattle.formula_trees.specs.TextNumbers.{AllTextsBelow, TextsBelow}
use Rattle.builtin_functions.specs.Tables.{Class, class}
use Rattle.demand_spec.specs.Book.{Book, Content, formula_at, formula_of, own, own_of, shown}
use Rattle.demand_spec.specs.Edits.{Cells}
use Rattle.demand_spec.specs.Like.{AllLikeTrees, LikeCells, LikeShown, LikeTrees, Mirrors, OnCells}
use Rattle.demand_spec.proofs.Mirror.{shown_like}
use Rattle.demand_spec.proofs.Same.{SameClass, class_respects, option_self, place_self}
use Rattle.book_save.specs.Loaded.{ContentHasNumbers, HasNumber, renumbered, renumbered_text, renumbered_tree}
use Rattle.book_save.proofs.Renumbered.{renumbered_cells, same_text}

-- a cell is the same cell
abbrev Same : OnCells
Same a x = a ≡ x

class_text : Class → List ℕ
class_text (Class.Number n) = int_text n
class_text (Class.Text q) = q
class_text (Class.Truth b) = bool_text b
class_text Class.Blank = []
class_text (Class.Failed c) = code_text c

text_of_class : (ts : Texts) (v : Value) → value_text ts v ≡ class_text (class ts v)
unfolding class_text
text_of_class ts (Value.Number n) = refl
text_of_class ts (Value.Text t) = refl
text_of_class ts (Value.Short t) = refl
text_of_class ts (Value.Bool b) = refl
text_of_class ts Value.Blank = refl
text_of_class ts (Value.Error c) = refl

same_shown : (ts us : Texts) (s t : Shown) → LikeShown (SameClass ts us) s t → shown_text us t ≡ shown_text ts s
same_shown ts us (Shown.Val v) (Shown.Val w) h = text_of_class us w ∙ ap class_text (sym h) ∙ sym (text_of_class ts v)
same_shown ts us (Shown.Cycle n) (Shown.Cycle m) h = ap (λ k. shown_text us (Shown.Cycle k)) (sym h)
same_shown ts us Shown.ToCycle Shown.ToCycle h = refl
same_shown ts us s t h = absurd h

-- formulas

same_class : (ts us : Texts) (t : TextId) → HasNumber ts us t.0 → class ts (Value.Text t) ≡ class us (Value.Text (renumbered_text ts us t))
same_class ts us t h = ap Class.Text (sym (same_text ts us t h.number h.is))

mutual
  like : (ts us : Texts) (at : Addr) (e : Expr) → TextsBelow (HasNumber ts us) e → LikeTrees Same (SameClass ts us) at e at (renumbered_tree ts us e)
  like ts us at (Number n) h = refl
  like ts us at (Text t) h = same_class ts us t h
  like ts us at (Truth b) h = refl
  like ts us at (Ref r) h = option_self Same (resolve at r) (λ x k. refl)
  like ts us at (Range r s) h = place_self Same (place_of at (Range r s)) (λ x k. refl)
  like ts us at RefError h = tt
  like ts us at (Unary s a) h = (refl, like ts us at a h)
  like ts us at (Binary o a b) h = (refl, like ts us at a h.0, like ts us at b h.1)
  like ts us at (Call f args) h = (refl, all_like ts us at args h)

  all_like : (ts us : Texts) (at : Addr) (args : Exprs) → AllTextsBelow (HasNumber ts us) args → AllLikeTrees Same (SameClass ts us) at args at (all_mapped (λ r. Ref r) (λ r s. Range r s) (renumbered_text ts us) args)
  all_like ts us at End h = tt
  all_like ts us at (More a rest) h = (like ts us at a h.0, all_like ts us at rest h.1)

-- cells

entry_over : (ts us : Texts) (cells : Cells) (a : Addr) → entry_at (renumbered_cells ts us cells) a ≡ option_map (renumbered ts us) (entry_at cells a)
entry_over ts us [] a = refl
entry_over ts us (c ∷ cells) a = go (same_addr a c.0) (entry_over ts us cells a)
  where
    go : (t : Bool) → entry_at (renumbered_cells ts us cells) a ≡ option_map (renumbered ts us) (entry_at cells a) →
        cond t (Some (renumbered ts us c.1)) (entry_at (renumbered_cells ts us cells) a) ≡ option_map (renumbered ts us) (cond t (Some c.1) (entry_at cells a))
    go true h = refl
    go false h = h

like_content : (ts us : Texts) (a : Addr) (o : Option Content) → ((c : Content) → o ≡ Some c → ContentHasNumbers ts us c) →
    LikeCells Same (SameClass ts us) a (formula_of o) (own_of o) a (formula_of (option_map (renumbered ts us) o)) (own_of (option_map (renumbered ts us) o))
like_content ts us a None h = refl
like_content ts us a (Some (Content.Number n)) h = refl
like_content ts us a (Some (Content.Text t)) h = same_class ts us t (h (Content.Text t) refl)
like_content ts us a (Some (Content.Truth b)) h = refl
like_content ts us a (Some (Content.Formula e)) h = like ts us a e (h (Content.Formula e) refl)

module _ (b c : Book) (same : c.cells ≡ renumbered_cells b.texts c.texts b.cells) (numbers : (a : Addr) (x : Content) → entry_at b.cells a ≡ Some x → ContentHasNumbers b.texts c.texts x) where
  entry : (a : Addr) → entry_at c.cells a ≡ option_map (renumbered b.texts c.texts) (entry_at b.cells a)
  entry a = ap (λ (cs : Cells). entry_at cs a) same ∙ entry_over b.texts c.texts b.cells a

  cell : (a : Addr) → LikeCells Same (SameClass b.texts c.texts) a (formula_at b a) (own b a) a (formula_at c a) (own c a)
  unfolding formula_at own
  cell a =
      subst (λ o. LikeCells Same (SameClass b.texts c.texts) a (formula_of (entry_at b.cells a)) (own_of (entry_at b.cells a)) a (formula_of o) (own_of o)) (sym (entry a))
      (like_content b.texts c.texts a (entry_at b.cells a) (numbers a))

  mirrors : Mirrors Same (SameClass b.texts c.texts) b c
  mirrors = record {
    respects = class_respects b.texts c.texts;
    one = λ a x y h k. sym h ∙ k;
    back = λ a d x h k. h ∙ sym k;
    cells = λ a x h. subst (λ z. LikeCells Same (SameClass b.texts c.texts) a (formula_at b a) (own b a) z (formula_at c z) (own c z)) h (cell a);
  }

  pub shows_same : (a : Addr) → shown_text c.texts (shown c a) ≡ shown_text b.texts (shown b a)
  shows_same a = same_shown b.texts c.texts (shown b a) (shown c a) (shown_like Same (SameClass b.texts c.texts) b c mirrors a a refl)
