-- The formula cells of a book of the tests.
use Rattle.std.proofs.Common.{◌≡◌, ℕ, zero, suc, ◌+◌, ◌<◌, ◌≤◌, inl, inr, ⊎_elim, Bool, true, false, cond, Option, Some, None, option_map, is_some, List, [], ◌∷◌, ◌++◌, append_assoc, length, get_or, take, drop, refl, sym, ap, ◌∙◌, subst, arith}
use Rattle.std.specs.Prelude.{flat_map}
use Rattle.std.specs.List.{filter}
use Rattle.std.proofs.lemmas.List.{length-take-le, take_more}
use Rattle.std.proofs.Math.Seq.{drop-cons}
use Rattle.cell_values.specs.declared.address.Addr.{Addr}
use Rattle.cell_values.specs.declared.values.Shown.{Shown}
use Rattle.cell_values.specs.declared.TheConstants.{MAX_BOOK_CELLS}
use Rattle.cell_values.specs.Addresses.{same_addr}
use Rattle.cell_values.specs.Areas.{walk}
use Rattle.cell_values.specs.Order.{InOrder, IsAfterAll, addresses, entry_at}
use Rattle.cell_values.proofs.Order.{same_addr-refl, same_addr-true}
use Rattle.formula_trees.specs.Expr.{Expr}
use Rattle.formula_trees.specs.Mentions.{mentions, areas}
use Rattle.shared_expressions.proofs.Named.{mentions_are_areas}
use Rattle.demand_spec.specs.Book.{Content, formula_of, formula_at, shown}
use Rattle.demand_spec.specs.declared.Cell.{Cell}
use Rattle.demand_spec.specs.Laws.{In}
use Rattle.demand_spec.specs.Listed.{content_of}
use Rattle.demand_spec.proofs.OneList.{before_member}
use Rattle.demand_spec.proofs.Spread.{in_filter, filter_in, filter_order}
use Rattle.shared_expressions.specs.declared.ExprId.{ExprId}
use Rattle.shared_expressions.specs.Trees.{tree_at}
use Rattle.workbook_core.specs.Books.{SharedBook, IsWorkbook, IsCell}
use Rattle.parallel_evaluation.specs.Workers.{ArePending}
use Rattle.parallel_evaluation.specs.TestBooks.{holds_formula, AreFormulaCells, MentionsNone, AreAlone}

-- a filter, cell by cell

rest_of : (p : Addr → Bool) (all : List Addr) (i : ℕ) (a : Addr) → i < length all → a ≡ get_or all i a → filter p (drop i all) ≡ cond (p a) (a ∷ filter p (drop (suc i) all)) (filter p (drop (suc i) all))
rest_of p all i a low is = ap (filter p) (drop-cons all i a low) ∙ ap (λ x. cond (p x) (x ∷ filter p (drop (suc i) all)) (filter p (drop (suc i) all))) (sym is)

pub one_passed : (p : Addr → Bool) (cells all : List Addr) (i : ℕ) (a : Addr) → i < length all → a ≡ get_or all i a → p a ≡ true
    → cells ++ filter p (drop i all) ≡ filter p all → (cells ++ a ∷ []) ++ filter p (drop (suc i) all) ≡ filter p all
one_passed p cells all i a low is pass h =
    append_assoc cells (a ∷ []) (filter p (drop (suc i) all))
    ∙ (sym (ap (λ z. cells ++ z) (rest_of p all i a low is ∙ ap (λ t. cond t (a ∷ filter p (drop (suc i) all)) (filter p (drop (suc i) all))) pass)) ∙ h)

pub one_left : (p : Addr → Bool) (cells all : List Addr) (i : ℕ) (a : Addr) → i < length all → a ≡ get_or all i a → p a ≡ false
    → cells ++ filter p (drop i all) ≡ filter p all → cells ++ filter p (drop (suc i) all) ≡ filter p all
one_left p cells all i a low is pass h =
    sym (ap (λ z. cells ++ z) (rest_of p all i a low is ∙ ap (λ t. cond t (a ∷ filter p (drop (suc i) all)) (filter p (drop (suc i) all))) pass)) ∙ h

-- a formula cell is one of the book's cells, so it is among its formula cells

in_book : (cells : List (Addr × Content)) (a : Addr) (t : Expr) → formula_of (entry_at cells a) ≡ Some t → In a (addresses cells)
in_book [] a t e = cc
in_book (c ∷ rest) a t e = go (same_addr a c.0) refl e (in_book rest a t)
  where
    go : (b : Bool) → same_addr a c.0 ≡ b → formula_of (cond b (Some c.1) (entry_at rest a)) ≡ Some t → (formula_of (entry_at rest a) ≡ Some t → In a (addresses rest)) → In a (c.0 ∷ addresses rest)
    go true p q later = inl (same_addr-true a c.0 p)
    go false p q later = inr (later q)

length_addresses : (cells : List (Addr × Content)) → length (addresses cells) ≡ length cells
length_addresses [] = refl
length_addresses (c ∷ rest) = ap suc (length_addresses rest)

fewer_passed : (p : Addr → Bool) (xs : List Addr) → length (filter p xs) ≤ length xs
fewer_passed p [] = omega arith
fewer_passed p (x ∷ xs) = go (p x) (fewer_passed p xs)
  where
    go : (q : Bool) → length (filter p xs) ≤ length xs → length (cond q (x ∷ filter p xs) (filter p xs)) ≤ suc (length xs)
    go true l = omega (arith, l)
    go false l = omega (arith, l)

some_same : {A : Type 0} {x y : A} → ◌≡◌ {A = Option A} (Some x) (Some y) → x ≡ y
some_same e = cc

module _ (w : SharedBook) (h : IsWorkbook w) where
  found : (a : Addr) (t : Expr) → formula_at w.book a ≡ Some t → In a (filter (holds_formula w.book) (addresses w.book.cells))
  unfolding formula_at
  found a t e = in_filter (holds_formula w.book) (addresses w.book.cells) a (in_book w.book.cells a t e) (ap is_some e)

  pub formulas_pending : (cells : List Addr) → cells ≡ filter (holds_formula w.book) (addresses w.book.cells) → ArePending w.book cells
  formulas_pending [] all = tt
  formulas_pending (c ∷ cells) all = record {
    one_at_least = omega arith;
    not_too_many = (let z = ap length all in let m = fewer_passed (holds_formula w.book) (addresses w.book.cells) in let n = length_addresses w.book.cells in let few = h.few in omega arith);
    are_formulas = λ a m. (filter_in (holds_formula w.book) (addresses w.book.cells) a (subst (In a) all m)).1;
    in_order = subst InOrder (sym all) (filter_order (holds_formula w.book) (addresses w.book.cells) h.order);
    closed = λ x a p m. subst (In x) (sym all) (found x m.tree m.is_formula);
  }

  pub formulas_all : (cells : List Addr) → cells ≡ filter (holds_formula w.book) (addresses w.book.cells) → AreFormulaCells w cells
  formulas_all cells all = record {
    workbook = h;
    all = all;
    pending = formulas_pending cells all;
    others = λ results a t f n. absurd (n (subst (In a) (sym all) (found a t f)));
  }

-- all but the first of them

rest_pending : (w : SharedBook) (first : Addr) (rest : List Addr) → AreFormulaCells w (first ∷ rest) → MentionsNone w.book first → ArePending w.book rest
rest_pending w first [] h none = tt
rest_pending w first (c ∷ rest) h none = record {
  one_at_least = omega arith;
  not_too_many = (let few = h.pending.not_too_many in omega (arith, few));
  are_formulas = λ a m. h.pending.are_formulas a (inr m);
  in_order = h.pending.in_order.1;
  closed = λ x a p m. ⊎_elim
      (λ (e : x ≡ first). let no : mentions first m.tree ≡ [] = none m.tree (subst (λ z. formula_at w.book z ≡ Some m.tree) e m.is_formula) in absurd (subst (In a) (ap (λ z. mentions z m.tree) e ∙ no) m.named))
      (λ (k : In x (c ∷ rest)). k)
      (h.pending.closed x a (inr p) m);
}

pub all_but_first : (w : SharedBook) (first : Addr) (rest : List Addr) (results : List (Addr × Shown)) → AreFormulaCells w (first ∷ rest) → MentionsNone w.book first → results ≡ (first, shown w.book first) ∷ [] → AreAlone w.book rest results
all_but_first w first rest results h none is = record {
  pending = rest_pending w first rest h none;
  stored = λ a t f n. ⊎_elim
      (λ (e : a ≡ first). ap (λ z. entry_at z a) is ∙ (ap (λ b. cond b (Some (shown w.book first)) None) (ap (λ z. same_addr z first) e ∙ same_addr-refl first) ∙ ap Some (sym (ap (shown w.book) e))))
      (λ (k : In a rest). absurd (n k))
      (subst (In a) (sym h.all) (found w h.workbook a t f));
}

pub none_mentioned : (w : SharedBook) (a : Addr) (id : ExprId) → Some (tree_at w.pool id) ≡ formula_at w.book a → areas a (tree_at w.pool id) ≡ [] → MentionsNone w.book a
none_mentioned w a id f none u g = (let same : tree_at w.pool id ≡ u = some_same (f ∙ g) in ap (mentions a) (sym same) ∙ (mentions_are_areas a (tree_at w.pool id) ∙ ap (flat_map walk) none))

-- the cells of the book before one of them

member : (xs : List Addr) (i : ℕ) (a : Addr) → i < length xs → a ≡ get_or xs i a → In a xs
member [] i a low e = absurd (omega arith)
member (x ∷ xs) zero a low e = inl e
member (x ∷ xs) (suc i) a low e = inr (member xs i a (omega arith) e)

pub behind_all : (xs : List Addr) (i : ℕ) (a : Addr) → InOrder xs → i < length xs → a ≡ get_or xs i a → IsAfterAll a (take i xs)
behind_all [] i a h low e = absurd (omega arith)
behind_all (x ∷ xs) zero a h low e = tt
behind_all (x ∷ xs) (suc i) a h low e = (before_member x xs a h.0 (member xs i a (omega arith) e), behind_all xs i a h.1 (omega arith) e)

pub room_left : (cells plain : List (Addr × Content)) (all : List Addr) (i : ℕ) → length cells ≤ MAX_BOOK_CELLS → all ≡ addresses cells → i < length all → addresses plain ≡ take i all → length plain < MAX_BOOK_CELLS
room_left cells plain all i few whole low so_far =
    let n = length_addresses plain in
    let m = length_addresses cells in
    let k = ap length whole in
    let e = ap length so_far in
    let t = length-take-le i all (omega (arith, low)) in
    omega arith

addresses_push : (cells : List (Addr × Content)) (a : Addr) (c : Content) → addresses (cells ++ (a, c) ∷ []) ≡ addresses cells ++ a ∷ []
addresses_push [] a c = refl
addresses_push (d ∷ cells) a c = ap (λ z. d.0 ∷ z) (addresses_push cells a c)

pub one_more : (plain : List (Addr × Content)) (all : List Addr) (i : ℕ) (a : Addr) (c : Content) → i < length all → a ≡ get_or all i a → addresses plain ≡ take i all → addresses (plain ++ (a, c) ∷ []) ≡ take (i + 1) all
one_more plain all i a c low is so_far = addresses_push plain a c ∙ ((λ j. so_far j ++ is j ∷ []) ∙ sym (take_more all i a low))

pub cell_here : (w : SharedBook) → IsWorkbook w → (a : Addr) (o : Option Cell) (cell : Cell) → option_map content_of o ≡ entry_at w.book.cells a → o ≡ Some cell → IsCell w.book.texts (length w.names) a (content_of cell)
cell_here w h a o cell e is = h.cells a (content_of cell) (sym e ∙ ap (option_map content_of) is)
