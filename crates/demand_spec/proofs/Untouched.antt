-- Cells that correspond, and that nothing touched reaches, show what corresponds.
use Rattle.std.proofs.Common.{◌≡◌, ◌<◌, inl, refl, subst, Option, Some, None, option_to_list}
use Rattle.cell_values.specs.declared.address.Addr.{Addr}
use Rattle.cell_values.specs.Areas.{cell_of}
use Rattle.formula_trees.specs.Expr.{Expr, Exprs, Number, Text, Truth, Ref, Range, RefError, Unary, Binary, Call, End, More}
use Rattle.formula_trees.specs.References.{resolve}
use Rattle.formula_trees.specs.declared.place.Place.{Place}
use Rattle.formula_trees.specs.declared.place.Place.TheVariants.{Nowhere, Bad, Cells}
use Rattle.formula_trees.specs.Mentions.{place_of, cells_of, mentions, mentions_all}
use Rattle.demand_spec.specs.Book.{Book, formula_at, own}
use Rattle.demand_spec.specs.Laws.{In, Reached, start, step, OfSet}
use Rattle.demand_spec.specs.Like.{OnCells, OnValues, LikeOption, LikePlaces, LikeTrees, AllLikeTrees, LikeCells, Mirrors, MirrorsOutside, ShowLike, MirroredOutsideBy}
use Rattle.demand_spec.proofs.Walks.{in_left, in_right, in_walk}
use Rattle.demand_spec.proofs.Mirror.{mirrored}

-- formulas that correspond do so at cells with a property, where each cell that the second mentions has it
module _ (R : OnCells) (V : OnValues) (F : Addr → Type 0) where
  abbrev Within : OnCells
  Within a x = R a x × F x

  option_within : (o p : Option Addr) → LikeOption R o p → ((y : Addr) → In y (option_to_list p) → F y) → LikeOption Within o p
  option_within (Some a) (Some b) h k = (h, k b (inl refl))
  option_within None None h k = tt
  option_within o p h k = absurd h

  place_within : (p q : Place) → LikePlaces R p q → ((y : Addr) → In y (cells_of q) → F y) → LikePlaces Within p q
  place_within (Cells r) (Cells s) h k = record { high = h.high; wide = h.wide; cells = λ i j l m. (h.cells i j l m, k (cell_of s i j) (in_walk s i j (subst (λ n. i < n) h.high l) (subst (λ n. j < n) h.wide m))) }
  place_within Bad Bad h k = tt
  place_within Nowhere Nowhere h k = tt
  place_within p q h k = absurd h

  mutual
    pub tree_within : (at at' : Addr) (t u : Expr) → LikeTrees R V at t at' u → ((y : Addr) → In y (mentions at' u) → F y) → LikeTrees Within V at t at' u
    tree_within at at' (Number n) (Number m) h k = h
    tree_within at at' (Text n) (Text m) h k = h
    tree_within at at' (Truth n) (Truth m) h k = h
    tree_within at at' (Ref r) (Ref s) h k = option_within (resolve at r) (resolve at' s) h k
    tree_within at at' (Range p q) (Range r s) h k = place_within (place_of at (Range p q)) (place_of at' (Range r s)) h k
    tree_within at at' RefError RefError h k = tt
    tree_within at at' (Unary g a) (Unary f b) h k = (h.0, tree_within at at' a b h.1 k)
    tree_within at at' (Binary o a b) (Binary p c d) h k = (h.0, tree_within at at' a c h.1 (λ y i. k y (in_left y (mentions at' c) (mentions at' d) i)), tree_within at at' b d h.2 (λ y i. k y (in_right y (mentions at' c) (mentions at' d) i)))
    tree_within at at' (Call f args) (Call g others) h k = (h.0, trees_within at at' args others h.1 k)
    tree_within at at' t u h k = absurd h

    trees_within : (at at' : Addr) (args others : Exprs) → AllLikeTrees R V at args at' others → ((y : Addr) → In y (mentions_all at' others) → F y) → AllLikeTrees Within V at args at' others
    trees_within at at' End End h k = tt
    trees_within at at' (More a rest) (More b others) h k = (tree_within at at' a b h.0 (λ y i. k y (in_left y (mentions at' b) (mentions_all at' others) i)), trees_within at at' rest others h.1 (λ y i. k y (in_right y (mentions at' b) (mentions_all at' others) i)))
    trees_within at at' args others h k = absurd h

module _ (R : OnCells) (V : OnValues) (A : Addr → Type 0) (b b' : Book) (u : MirrorsOutside A R V b b') where
  abbrev Free : Addr → Type 0
  Free x = Reached b' A x → ⊥

  free_mirrors : Mirrors (Within R V Free) V b b'
  free_mirrors = record {
    respects = u.respects;
    one = λ a x y h k. u.one a x y h.0 k.0;
    back = λ a c x h k. u.back a c x h.0 k.0;
    cells = λ a x h. go a x h.1 (formula_at b a) (formula_at b' x) refl (u.cells a x h.0 (λ k. h.1 (start x k)));
  }
    where
      go : (a x : Addr) → Free x → (o p : Option Expr) → formula_at b' x ≡ p → LikeCells R V a o (own b a) x p (own b' x) → LikeCells (Within R V Free) V a o (own b a) x p (own b' x)
      go a x f None None e h = h
      go a x f (Some t) (Some v) e h = tree_within R V Free a x t v h (λ y i r. f (step y x r (record { tree = v; is_formula = e; named = i })))
      go a x f None (Some v) e h = absurd h
      go a x f (Some t) None e h = absurd h

  -- cells that correspond, and that no touched cell reaches, show what corresponds
  pub untouched_like : (a x : Addr) → R a x → Free x → ShowLike V b b' a x
  untouched_like a x h f = mirrored (Within R V Free) V b b' free_mirrors a x (h, f)

pub mirrored_outside : (R : OnCells) (V : OnValues) → MirroredOutsideBy R V
mirrored_outside R V b b' A = untouched_like R V (OfSet A) b b'
