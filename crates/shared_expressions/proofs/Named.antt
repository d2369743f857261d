-- What a formula names: its mentions and its areas.
use Rattle.std.proofs.Common.{◌≡◌, ℕ, zero, suc, ◌+◌, ◌<◌, ◌≤◌, min, Option, Some, None, Result, Ok, Err, List, [], ◌∷◌, ◌++◌, map, flat_map, length, drop, get_or, refl, sym, ap, ◌∙◌, subst, arith, append_assoc, length-append}
use Rattle.std.specs.Prelude.{option_to_list, slice_get}
use Rattle.std.proofs.lemmas.Grind.{flat_map-append}
use Rattle.std.proofs.lemmas.List.{append-nil}
use Rattle.std.proofs.Math.Seq.{drop-cons}
use Rattle.cell_values.specs.declared.address.Addr.{Addr}
use Rattle.cell_values.specs.declared.address.Area.{Area}
use Rattle.cell_values.specs.Areas.{between_cells, numbers_from, height, width, cell_of, row_of, walk}
use Rattle.formula_trees.specs.declared.tree.Reference.{Reference}
use Rattle.formula_trees.specs.Expr.{Expr, Exprs, End, More}
use Rattle.formula_trees.specs.References.{resolve, area_between, area_of}
use Rattle.formula_trees.specs.Mentions.{place_from, cells_of, mentions, mentions_all, areas, areas_all}
use Rattle.shared_expressions.specs.declared.nodes.Node.{Node}
use Rattle.shared_expressions.specs.Trees.{Trees, expr_at}
use Rattle.shared_expressions.specs.Stored.{row, seen, HasCount, areas_below, Picks}

-- Mentions are the cells of areas

one_row : (a : Addr) → height (between_cells a a) ≡ 1
unfolding height
one_row a = omega arith

one_column : (a : Addr) → width (between_cells a a) ≡ 1
unfolding width
one_column a = omega arith

walk_one : (a : Addr) → walk (between_cells a a) ≡ a ∷ []
walk_one a =
    let r : Area = between_cells a a in
    let across : min a.row a.row + 0 ≡ a.row = omega arith in
    let down : min a.col a.col + 0 ≡ a.col = omega arith in
    ap (λ n. flat_map (row_of r) (numbers_from 0 n)) (one_row a)
    ∙ ap (λ n. map (cell_of r 0) (numbers_from 0 n) ++ []) (one_column a)
    ∙ (λ i. record { sheet = a.sheet; row = across i; col = down i } ∷ [])

cell_areas : (o : Option Addr) → option_to_list o ≡ flat_map walk (option_to_list (area_between o o))
cell_areas None = refl
cell_areas (Some a) = sym (append-nil (walk (between_cells a a)) ∙ walk_one a)

place_areas : (o : Option Area) → cells_of (place_from o) ≡ flat_map walk (option_to_list o)
place_areas None = refl
place_areas (Some r) = sym (append-nil (walk r))

mutual
  pub mentions_are_areas : (at : Addr) (e : Expr) → mentions at e ≡ flat_map walk (areas at e)
  mentions_are_areas at (Expr.Number n) = refl
  mentions_are_areas at (Expr.Text t) = refl
  mentions_are_areas at (Expr.Truth b) = refl
  mentions_are_areas at (Expr.Ref r) = cell_areas (resolve at r)
  mentions_are_areas at (Expr.Range r s) = place_areas (area_of at r s)
  mentions_are_areas at Expr.RefError = refl
  mentions_are_areas at (Expr.Unary s a) = mentions_are_areas at a
  mentions_are_areas at (Expr.Binary o a b) = (λ i. mentions_are_areas at a i ++ mentions_are_areas at b i) ∙ sym (flat_map-append walk (areas at a) (areas at b))
  mentions_are_areas at (Expr.Call f args) = all_mentions_are_areas at args

  all_mentions_are_areas : (at : Addr) (args : Exprs) → mentions_all at args ≡ flat_map walk (areas_all at args)
  all_mentions_are_areas at End = refl
  all_mentions_are_areas at (More a rest) = (λ i. mentions_are_areas at a i ++ all_mentions_are_areas at rest i) ∙ sym (flat_map-append walk (areas at a) (areas_all at rest))

-- The areas of a node are those of its children

row_areas : (at : Addr) (p : Trees) (xs : List ℕ) → areas_all at (row p xs) ≡ areas_below at p xs
row_areas at p [] = refl
row_areas at p (x ∷ xs) = ap (λ z. areas at (expr_at p x) ++ z) (row_areas at p xs)

abbrev pub IsInner : Node → Type 0
IsInner (Node.Ref r) = ⊥
IsInner (Node.Range r s) = ⊥
IsInner _ = Unit {0}

pub is_inner : (n : Node) → ((r : Reference) → n ≡ Node.Ref r → ⊥) → ((r s : Reference) → n ≡ Node.Range r s → ⊥) → IsInner n
is_inner (Node.Ref r) h k = h r refl
is_inner (Node.Range r s) h k = k r s refl
is_inner n h k = tt

pub inner_areas : (at : Addr) (p : Trees) (n : Node) (xs : List ℕ) → IsInner n → HasCount n (length xs) → areas_below at p xs ≡ areas at (seen p n xs)
inner_areas at p (Node.Ref r) xs h c = absurd h
inner_areas at p (Node.Range r s) xs h c = absurd h
inner_areas at p (Node.Unary s) [] h c = absurd (omega arith)
inner_areas at p (Node.Unary s) (x ∷ []) h c = append-nil (areas at (expr_at p x))
inner_areas at p (Node.Unary s) (x ∷ (y ∷ xs)) h c = absurd (omega arith)
inner_areas at p (Node.Binary o) [] h c = absurd (omega arith)
inner_areas at p (Node.Binary o) (x ∷ []) h c = absurd (omega arith)
inner_areas at p (Node.Binary o) (x ∷ (y ∷ [])) h c = ap (λ z. areas at (expr_at p x) ++ z) (append-nil (areas at (expr_at p y)))
inner_areas at p (Node.Binary o) (x ∷ (y ∷ (z ∷ xs))) h c = absurd (omega arith)
inner_areas at p (Node.Call f) xs h c = sym (row_areas at p xs)
inner_areas at p n [] h c = refl
inner_areas at p n (x ∷ xs) h c = absurd (omega arith)

-- One after the other

get_first : (xs ys : List Area) (k : ℕ) (a : Area) → slice_get xs k ≡ Some a → slice_get (xs ++ ys) k ≡ Some a
get_first [] ys k a h = cc
get_first (x ∷ xs) ys zero a h = h
get_first (x ∷ xs) ys (suc k) a h = get_first xs ys k a h

get_behind : (xs ys : List Area) (k : ℕ) → slice_get (xs ++ ys) (length xs + k) ≡ slice_get ys k
get_behind [] ys k = let e : 0 + k ≡ k = omega arith in ap (slice_get ys) e
get_behind (x ∷ xs) ys k = let e : suc (length xs) + k ≡ suc (length xs + k) = omega arith in ap (slice_get (x ∷ (xs ++ ys))) e ∙ get_behind xs ys k

picks_behind : (xs ys : List Area) (k l : ℕ) (r : Result Area ℕ) → k ≡ length xs + l → Picks ys l r → Picks (xs ++ ys) k r
picks_behind xs ys k l (Ok a) e h = ap (slice_get (xs ++ ys)) e ∙ get_behind xs ys l ∙ h
picks_behind xs ys k l (Err n) e h = omega (arith, length-append xs ys)

-- the areas of the children from one on
abbrev pub PicksOn : Addr → Trees → List ℕ → ℕ → ℕ → ℕ → Type 0
PicksOn at p xs k j l = (r : Result Area ℕ) → Picks (areas_below at p (drop j xs)) l r → Picks (areas_below at p xs) k r

split_at : (at : Addr) (p : Trees) (xs : List ℕ) (j : ℕ) → j < length xs → areas_below at p (drop j xs) ≡ areas at (expr_at p (get_or xs j 0)) ++ areas_below at p (drop (j + 1) xs)
split_at at p xs j h = (let plus : suc j ≡ j + 1 = omega arith in ap (areas_below at p) (drop-cons xs j 0 h) ∙ ap (λ z. areas at (expr_at p (get_or xs j 0)) ++ areas_below at p (drop z xs)) plus)

pub picks_child : (at : Addr) (p : Trees) (xs : List ℕ) (k j l c : ℕ) (a : Area) → PicksOn at p xs k j l → j < length xs → c ≡ get_or xs j 0 → slice_get (areas at (expr_at p c)) l ≡ Some a → slice_get (areas_below at p xs) k ≡ Some a
picks_child at p xs k j l c a h m e g = h (Ok a) (ap (λ z. slice_get z l) (split_at at p xs j m) ∙ get_first (areas at (expr_at p (get_or xs j 0))) (areas_below at p (drop (j + 1) xs)) l a (subst (λ z. slice_get (areas at (expr_at p z)) l ≡ Some a) e g))

pub picks_on : (at : Addr) (p : Trees) (xs : List ℕ) (k j l c n : ℕ) → PicksOn at p xs k j l → j < length xs → c ≡ get_or xs j 0 → l ≡ length (areas at (expr_at p c)) + n → PicksOn at p xs k (j + 1) n
picks_on at p xs k j l c n h m e g r s = h r (subst (λ z. Picks z l r) (sym (split_at at p xs j m)) (picks_behind (areas at (expr_at p (get_or xs j 0))) (areas_below at p (drop (j + 1) xs)) l n r (subst (λ z. l ≡ length (areas at (expr_at p z)) + n) e g) s))

nothing_left : (xs : List ℕ) (j : ℕ) → length xs ≤ j → drop j xs ≡ []
nothing_left [] zero h = refl
nothing_left [] (suc j) h = refl
nothing_left (x ∷ xs) zero h = absurd (omega arith)
nothing_left (x ∷ xs) (suc j) h = nothing_left xs j (omega arith)

pub picks_end : (at : Addr) (p : Trees) (xs : List ℕ) (k j l : ℕ) → PicksOn at p xs k j l → length xs ≤ j → k ≡ length (areas_below at p xs) + l
picks_end at p xs k j l h m = h (Err l) (let e : length (areas_below at p (drop j xs)) ≡ 0 = ap (λ z. length (areas_below at p z)) (nothing_left xs j m) in omega arith)

-- All areas of the children, one child after the other

pub one_child_more : (at : Addr) (p : Trees) (xs : List ℕ) (j c : ℕ) (out next whole : List Area) → j < length xs → c ≡ get_or xs j 0 → next ≡ out ++ areas at (expr_at p c) → out ++ areas_below at p (drop j xs) ≡ whole → next ++ areas_below at p (drop (j + 1) xs) ≡ whole
one_child_more at p xs j c out next whole h e f g =
    ap (λ z. z ++ areas_below at p (drop (j + 1) xs)) f ∙ append_assoc out (areas at (expr_at p c)) (areas_below at p (drop (j + 1) xs))
    ∙ (λ i. out ++ (areas at (expr_at p (e i)) ++ areas_below at p (drop (j + 1) xs))) ∙ ap (λ z. out ++ z) (sym (split_at at p xs j h)) ∙ g

pub no_child_left : (at : Addr) (p : Trees) (xs : List ℕ) (j : ℕ) (out whole : List Area) → length xs ≤ j → out ++ areas_below at p (drop j xs) ≡ whole → out ≡ whole
no_child_left at p xs j out whole h e = sym (append-nil out) ∙ ap (λ z. out ++ areas_below at p z) (sym (nothing_left xs j h)) ∙ e
