-- A formula corresponds to itself, at the cells that it mentions, where each of its texts has a number that is meant.
use Rattle.std.proofs.Common.{◌≡◌, ℕ, [], refl, ap, subst, inl, Option, Some, None, option_to_list, slice_index_or}
use Rattle.cell_values.specs.declared.address.Addr.{Addr}
use Rattle.cell_values.specs.declared.interned.TextId.{TextId}
use Rattle.cell_values.specs.declared.values.Value.{Value}
use Rattle.cell_values.specs.Areas.{cell_of}
use Rattle.cell_values.specs.Texts.{Texts}
use Rattle.formula_trees.specs.Expr.{Expr, Exprs, Number, Text, Truth, Ref, Range, RefError, Unary, Binary, Call, End, More}
use Rattle.formula_trees.specs.References.{resolve}
use Rattle.formula_trees.specs.declared.place.Place.{Place}
use Rattle.formula_trees.specs.declared.place.Place.TheVariants.{Nowhere, Bad, Cells}
use Rattle.formula_trees.specs.Mentions.{place_of, cells_of, mentions, mentions_all}
use Rattle.formula_trees.specs.TextNumbers.{TextsBelow, AllTextsBelow}
use Rattle.builtin_functions.specs.Tables.{Class, class}
use Rattle.demand_spec.specs.TextNumbers.{TextBelow}
use Rattle.demand_spec.specs.Laws.{In}
use Rattle.demand_spec.specs.Like.{IsPlain, OnCells, OnValues, Respects, LikeOption, LikePlaces, LikeTrees, AllLikeTrees}
use Rattle.demand_spec.proofs.Walks.{in_left, in_right, in_walk}

-- the same value, of which each text is meant
abbrev pub Meant : (ℕ → Type 0) → OnValues
Meant n v w = (v ≡ w) × TextBelow n v

plain_below : (n : ℕ → Type 0) (v : Value) → IsPlain v → TextBelow n v
plain_below n (Value.Text t) h = absurd h
plain_below n (Value.Short t) h = h
plain_below n v h = tt

pub meant_respects : (n : ℕ → Type 0) (ts us : Texts) → ((i : ℕ) → n i → slice_index_or ts i [] ≡ slice_index_or us i []) → Respects ts us (Meant n)
meant_respects n ts us h = record { plain = λ v p. (refl, plain_below n v p); same_class = λ v w e. subst (λ z. class ts v ≡ class us z) e.0 (go v e.1) }
  where
    go : (v : Value) → TextBelow n v → class ts v ≡ class us v
    go (Value.Text t) k = ap Class.Text (h t.0 k)
    go v k = refl

pub option_self : (R : OnCells) (o : Option Addr) → ((x : Addr) → In x (option_to_list o) → R x x) → LikeOption R o o
option_self R (Some a) h = h a (inl refl)
option_self R None h = tt

pub place_self : (R : OnCells) (p : Place) → ((x : Addr) → In x (cells_of p) → R x x) → LikePlaces R p p
place_self R (Cells r) h = record { high = refl; wide = refl; cells = λ i j l k. h (cell_of r i j) (in_walk r i j l k) }
place_self R Bad h = tt
place_self R Nowhere h = tt

-- each text of which `n` holds is related to itself
abbrev pub AreLikeThemselves : OnValues → (ℕ → Type 0) → Type 0
AreLikeThemselves V n = (i : TextId) → n i.0 → V (Value.Text i) (Value.Text i)

mutual
  pub tree_self : (R : OnCells) (V : OnValues) (n : ℕ → Type 0) → AreLikeThemselves V n → (at : Addr) (t : Expr) → TextsBelow n t → ((x : Addr) → In x (mentions at t) → R x x) → LikeTrees R V at t at t
  tree_self R V n s at (Number z) ok h = refl
  tree_self R V n s at (Text i) ok h = s i ok
  tree_self R V n s at (Truth q) ok h = refl
  tree_self R V n s at (Ref r) ok h = option_self R (resolve at r) h
  tree_self R V n s at (Range p q) ok h = place_self R (place_of at (Range p q)) h
  tree_self R V n s at RefError ok h = tt
  tree_self R V n s at (Unary g a) ok h = (refl, tree_self R V n s at a ok h)
  tree_self R V n s at (Binary o a b) ok h = (refl, tree_self R V n s at a ok.0 (λ x k. h x (in_left x (mentions at a) (mentions at b) k)), tree_self R V n s at b ok.1 (λ x k. h x (in_right x (mentions at a) (mentions at b) k)))
  tree_self R V n s at (Call f args) ok h = (refl, all_self R V n s at args ok h)

  all_self : (R : OnCells) (V : OnValues) (n : ℕ → Type 0) → AreLikeThemselves V n → (at : Addr) (args : Exprs) → AllTextsBelow n args → ((x : Addr) → In x (mentions_all at args) → R x x) → AllLikeTrees R V at args at args
  all_self R V n s at End ok h = tt
  all_self R V n s at (More a rest) ok h = (tree_self R V n s at a ok.0 (λ x k. h x (in_left x (mentions at a) (mentions_all at rest) k)), all_self R V n s at rest ok.1 (λ x k. h x (in_right x (mentions at a) (mentions_all at rest) k)))

-- other texts under other numbers: values are related that are the same to every operation
abbrev pub SameClass : Texts → Texts → OnValues
SameClass ts us v w = class ts v ≡ class us w

pub class_respects : (ts us : Texts) → Respects ts us (SameClass ts us)
class_respects ts us = record { plain = go; same_class = λ v w e. e }
  where
    go : (v : Value) → IsPlain v → class ts v ≡ class us v
    go (Value.Text t) h = absurd h
    go v h = refl

-- equal values
pub equal_respects : (ts : Texts) → Respects ts ts (λ v w. v ≡ w)
equal_respects ts = record { plain = λ v p. refl; same_class = λ v w e. ap (class ts) e }
