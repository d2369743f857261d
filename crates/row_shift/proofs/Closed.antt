-- The cells that are pending after rows were inserted or deleted are closed, where those before were.
use Rattle.std.proofs.Common.{◌≡◌, ℕ, ◌<◌, Bool, true, false, cond, ◌⊎◌, inl, inr, ⊎_elim, List, [], ◌∷◌, ◌++◌, Option, Some, None, refl, sym, ap, ◌∙◌, subst, option_to_list}
use Rattle.std.specs.Prelude.{◌↔◌, option_map, filter_map}
use Rattle.std.specs.List.{cons_option}
use Rattle.std.proofs.lemmas.Bool.{cases_Bool, true≢false}
use Rattle.cell_values.specs.declared.address.Addr.{Addr}
use Rattle.cell_values.specs.Addresses.{same_addr}
use Rattle.cell_values.specs.Areas.{cell_of, height, width}
use Rattle.cell_values.specs.Order.{InOrder, addresses, entry_at}
use Rattle.cell_values.proofs.Order.{same_addr-true}
use Rattle.formula_trees.specs.Expr.{Expr, Exprs, Number, Text, Truth, Ref, Range, RefError, Unary, Binary, Call, End, More}
use Rattle.formula_trees.specs.References.{resolve}
use Rattle.formula_trees.specs.declared.place.Place.{Place}
use Rattle.formula_trees.specs.declared.place.Place.TheVariants.{Nowhere, Bad, Cells}
use Rattle.formula_trees.specs.Mentions.{place_of, cells_of, mentions, mentions_all}
use Rattle.demand_spec.specs.Book.{Book, Content, formula_of, formula_at}
use Rattle.demand_spec.specs.Laws.{In, Reached, start, step, OfSet, Pending}
use Rattle.demand_spec.specs.Like.{OnCells, OnValues, LikeOption, LikePlaces, LikeTrees, AllLikeTrees}
use Rattle.demand_spec.proofs.Spread.{pending_listed}
use Rattle.demand_spec.proofs.Walks.{in_left, in_right, in_either, in_walk, walk_parts}
use Rattle.row_shift.specs.declared.change.RowChange.{RowChange}
use Rattle.row_shift.specs.Moves.{move_cell, moved}
use Rattle.row_shift.specs.MovedBook.{moved_content, put_at, moved_cells, moved_book, touched_places, among, pending_moved, MovedPendingIsClosed}
use Rattle.row_shift.proofs.Ranges.{some_same}
use Rattle.row_shift.proofs.Parts.{place_back}
use Rattle.row_shift.proofs.Formulas.{tree_like}
use Rattle.row_shift.proofs.Order.{found_moved, not_touched, moved_order}
use Rattle.row_shift.proofs.Untouched.{Here, Same}

-- of two formulas that correspond, what the second mentions corresponds to what the first does

module _ (R : OnCells) (V : OnValues) where
  abbrev Before : List Addr → Addr → Type 0
  Before xs y = (x : Addr) × In x xs × R x y

  option_back : (o p : Option Addr) → LikeOption R o p → (y : Addr) → In y (option_to_list p) → Before (option_to_list o) y
  option_back (Some a) (Some b) h y (inl e) = (a, inl refl, subst (R a) (sym e) h)
  option_back (Some a) (Some b) h y (inr k) = absurd k
  option_back None None h y k = absurd k
  option_back o p h y k = absurd h

  place_mentions_back : (p q : Place) → LikePlaces R p q → (y : Addr) → In y (cells_of q) → Before (cells_of p) y
  place_mentions_back (Cells r) (Cells s) h y k =
      let w = walk_parts s y k in
      let i : w.i < height r = subst (λ (n : ℕ). w.i < n) (sym h.high) w.high in
      let j : w.j < width r = subst (λ (n : ℕ). w.j < n) (sym h.wide) w.wide in
      (cell_of r w.i w.j, in_walk r w.i w.j i j, subst (R (cell_of r w.i w.j)) (sym w.same) (h.cells w.i w.j i j))
  place_mentions_back Bad Bad h y k = absurd k
  place_mentions_back Nowhere Nowhere h y k = absurd k
  place_mentions_back p q h y k = absurd h

  to_left : (xs ys : List Addr) (y : Addr) → Before xs y → Before (xs ++ ys) y
  to_left xs ys y b = (b.0, in_left b.0 xs ys b.1, b.2)

  to_right : (xs ys : List Addr) (y : Addr) → Before ys y → Before (xs ++ ys) y
  to_right xs ys y b = (b.0, in_right b.0 xs ys b.1, b.2)

  mutual
    pub mention_back : (at at' : Addr) (t u : Expr) → LikeTrees R V at t at' u → (y : Addr) → In y (mentions at' u) → Before (mentions at t) y
    mention_back at at' (Number n) (Number m) h y k = absurd k
    mention_back at at' (Text n) (Text m) h y k = absurd k
    mention_back at at' (Truth n) (Truth m) h y k = absurd k
    mention_back at at' (Ref r) (Ref s) h y k = option_back (resolve at r) (resolve at' s) h y k
    mention_back at at' (Range p q) (Range r s) h y k = place_mentions_back (place_of at (Range p q)) (place_of at' (Range r s)) h y k
    mention_back at at' RefError RefError h y k = absurd k
    mention_back at at' (Unary g a) (Unary f b) h y k = mention_back at at' a b h.1 y k
    mention_back at at' (Binary o a b) (Binary p c d) h y k = ⊎_elim
        (λ (l : In y (mentions at' c)). to_left (mentions at a) (mentions at b) y (mention_back at at' a c h.1 y l))
        (λ (l : In y (mentions at' d)). to_right (mentions at a) (mentions at b) y (mention_back at at' b d h.2 y l))
        (in_either y (mentions at' c) (mentions at' d) k)
    mention_back at at' (Call f args) (Call g others) h y k = mention_all_back at at' args others h.1 y k
    mention_back at at' t u h y k = absurd h

    mention_all_back : (at at' : Addr) (args others : Exprs) → AllLikeTrees R V at args at' others → (y : Addr) → In y (mentions_all at' others) → Before (mentions_all at args) y
    mention_all_back at at' End End h y k = absurd k
    mention_all_back at at' (More a rest) (More b others) h y k = ⊎_elim
        (λ (l : In y (mentions at' b)). to_left (mentions at a) (mentions_all at rest) y (mention_back at at' a b h.0 y l))
        (λ (l : In y (mentions_all at' others)). to_right (mentions at a) (mentions_all at rest) y (mention_all_back at at' rest others h.1 y l))
        (in_either y (mentions at' b) (mentions_all at' others) k)
    mention_all_back at at' args others h y k = absurd h

-- each cell of the new book stands at the place of one of the old

abbrev pub PlaceOfOne : RowChange → Addr → Type 0
PlaceOfOne change x = (a : Addr) × (move_cell change a ≡ Some x)

pub place_found : (change : RowChange) (cells : List (Addr × Content)) (x : Addr) (d : Content) → entry_at (moved_cells change cells) x ≡ Some d → PlaceOfOne change x
place_found change [] x d e = cc
place_found change (c ∷ cells) x d e = go (move_cell change c.0) refl e (place_found change cells x d)
  where
    by_test : (y : Addr) (q : Bool) → move_cell change c.0 ≡ Some y → same_addr x y ≡ q → cond q (Some (moved_content change c.0 y c.1)) (entry_at (moved_cells change cells) x) ≡ Some d → (entry_at (moved_cells change cells) x ≡ Some d → PlaceOfOne change x) → PlaceOfOne change x
    by_test y true f t k later = (c.0, f ∙ ap Some (sym (same_addr-true x y t)))
    by_test y false f t k later = later k

    go : (o : Option Addr) → move_cell change c.0 ≡ o → entry_at (put_at change c.0 c.1 o (moved_cells change cells)) x ≡ Some d → (entry_at (moved_cells change cells) x ≡ Some d → PlaceOfOne change x) → PlaceOfOne change x
    go (Some y) f k later = by_test y (same_addr x y) f refl k later
    go None f k later = later k

-- a formula cell of the new book, and the old one whose place it is
pub record Origin (change : RowChange) (b : Book) (x : Addr) (u : Expr) : Type 0 where
  pub cell : Addr
  pub tree : Expr
  pub place : move_cell change cell ≡ Some x
  pub held : entry_at b.cells cell ≡ Some (Content.Formula tree)
  pub same : moved change cell x tree ≡ u

pub origin : (change : RowChange) (b : Book) (x : Addr) (u : Expr) → formula_at (moved_book change b) x ≡ Some u → Origin change b x u
unfolding formula_at
origin change b x u e = go (entry_at (moved_cells change b.cells) x) refl e
  where
    by_content : (a : Addr) → move_cell change a ≡ Some x → (o : Option Content) → entry_at b.cells a ≡ o → formula_of (option_map (moved_content change a x) o) ≡ Some u → Origin change b x u
    by_content a h (Some (Content.Formula t)) f k = record { cell = a; tree = t; place = h; held = f; same = some_same (moved change a x t) u k }
    by_content a h (Some (Content.Number n)) f k = cc
    by_content a h (Some (Content.Text n)) f k = cc
    by_content a h (Some (Content.Truth n)) f k = cc
    by_content a h None f k = cc

    go : (o : Option Content) → entry_at (moved_cells change b.cells) x ≡ o → formula_of o ≡ Some u → Origin change b x u
    go (Some d) f k =
        let p = place_found change b.cells x d f in
        by_content p.0 p.1 (entry_at b.cells p.0) refl (ap formula_of (sym (found_moved change b.cells p.0 x p.1) ∙ f) ∙ k)
    go None f k = cc

-- the places of a list's cells

pub to_places : (change : RowChange) (xs : List Addr) (a x : Addr) → In a xs → move_cell change a ≡ Some x → In x (filter_map (move_cell change) xs)
to_places change [] a x k h = absurd k
to_places change (y ∷ xs) a x k h = go (move_cell change y) refl k (λ l. to_places change xs a x l h)
  where
    go : (o : Option Addr) → move_cell change y ≡ o → In a (y ∷ xs) → (In a xs → In x (filter_map (move_cell change) xs)) → In x (cons_option o (filter_map (move_cell change) xs))
    go (Some z) e (inl same) later = inl (some_same x z (sym h ∙ ap (move_cell change) same ∙ e))
    go (Some z) e (inr l) later = inr (later l)
    go None e (inl same) later = (let never : Some x ≡ None = sym h ∙ ap (move_cell change) same ∙ e in cc)
    go None e (inr l) later = later l

pub from_places : (change : RowChange) (xs : List Addr) (x : Addr) → In x (filter_map (move_cell change) xs) → (a : Addr) × In a xs × (move_cell change a ≡ Some x)
from_places change [] x k = absurd k
from_places change (y ∷ xs) x k = go (move_cell change y) refl k (from_places change xs x)
  where
    go : (o : Option Addr) → move_cell change y ≡ o → In x (cons_option o (filter_map (move_cell change) xs)) → (In x (filter_map (move_cell change) xs) → (a : Addr) × In a xs × (move_cell change a ≡ Some x)) → (a : Addr) × In a (y ∷ xs) × (move_cell change a ≡ Some x)
    go (Some z) e (inl same) later = (y, inl refl, e ∙ ap Some (sym same))
    go (Some z) e (inr l) later = (let m = later l in (m.0, inr m.1, m.2))
    go None e l later = (let m = later l in (m.0, inr m.1, m.2))

pub formula_held : (b : Book) (a : Addr) (t : Expr) → entry_at b.cells a ≡ Some (Content.Formula t) → formula_at b a ≡ Some t
unfolding formula_at
formula_held b a t e = ap formula_of e

pub listed : (change : RowChange) (b : Book) (pending : List Addr) → InOrder (addresses b.cells) → (c : Addr) → In c (pending_moved change b pending) ↔ Pending (moved_book change b) (λ a. In a (filter_map (move_cell change) pending)) (OfSet (among (touched_places change b))) c
listed change b pending order = (pending_listed (moved_book change b) (filter_map (move_cell change) pending) (among (touched_places change b)) (moved_order change b.cells order)).0

pub moved_pending_closed : MovedPendingIsClosed
moved_pending_closed change b pending ok order closed c a k m =
    (listed change b pending order c).1
    ((m.tree, m.is_formula), ⊎_elim here (λ (r : Reached (moved_book change b) (OfSet (among (touched_places change b))) a). inr (step a c r m)) ((listed change b pending order a).0 k).1)
  where
    untouched : In a (filter_map (move_cell change) pending) → among (touched_places change b) c ≡ false → In c (filter_map (move_cell change) pending)
    untouched l q =
        let p = from_places change pending a l in
        let o = origin change b c m.tree m.is_formula in
        let like = tree_like change o.cell c ok o.place o.tree (not_touched change b.cells o.cell c o.tree o.place o.held (λ z. true≢false (sym z ∙ q))) in
        let old = mention_back (Here change) Same o.cell c o.tree (moved change o.cell c o.tree) like a (subst (λ (u : Expr). In a (mentions c u)) (sym o.same) m.named) in
        let one : old.0 ≡ p.0 = place_back change old.0 p.0 a old.2 p.2 in
        to_places change pending o.cell c (closed o.cell p.0 p.1 (record { tree = o.tree; is_formula = formula_held b o.cell o.tree o.held; named = subst (λ (z : Addr). In z (mentions o.cell o.tree)) one old.1 })) o.place

    here : In a (filter_map (move_cell change) pending) → In c (filter_map (move_cell change) pending) ⊎ Reached (moved_book change b) (OfSet (among (touched_places change b))) c
    here l = ⊎_elim (λ (q : among (touched_places change b) c ≡ true). inr (start c q)) (λ (q : among (touched_places change b) c ≡ false). inl (untouched l q)) (cases_Bool (among (touched_places change b) c))
