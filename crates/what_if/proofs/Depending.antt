-- The cells that depend on a cell, in each book where it holds a number.
use Rattle.std.proofs.Common.{◌≡◌, ℤ, ◌≤◌, inl, inr, ⊎_elim, true, false, cond, not, List, [], ◌∷◌, length, refl, sym, ap, ◌∙◌, subst, Option, Some, None, IsSome, arith}
use Rattle.std.specs.Prelude.{◌↔◌}
use Rattle.std.specs.List.{filter}
use Rattle.std.proofs.lemmas.Bool.{or_left}
use Rattle.cell_values.specs.declared.TheConstants.{MAX_BOOK_CELLS}
use Rattle.cell_values.specs.declared.address.Addr.{Addr}
use Rattle.cell_values.specs.declared.values.Shown.{Shown}
use Rattle.cell_values.specs.declared.values.Value.{Value}
use Rattle.cell_values.specs.Addresses.{same_addr, IsBefore}
use Rattle.cell_values.specs.Order.{InOrder, IsBeforeAll, entry_at}
use Rattle.cell_values.proofs.Order.{never_before, same_addr-refl, same_addr-true}
use Rattle.formula_trees.specs.Expr.{Expr}
use Rattle.demand_spec.specs.Book.{Book, Content, formula_at, formula_of, formulas, own, own_of, shown}
use Rattle.demand_spec.specs.Laws as laws
use Rattle.demand_spec.specs.Laws.{Distinct, In, IsClosed, Mentions, OfSet, SameOutside}
use Rattle.demand_spec.proofs.Cycles.{no_more}
use Rattle.demand_spec.proofs.Listed.{enough}
use Rattle.demand_spec.proofs.Local.{shows_same}
use Rattle.demand_spec.proofs.Results.{shows_own}
use Rattle.demand_spec.proofs.Rounds.{in_formulas}
use Rattle.demand_spec.proofs.Spread.{filter_in, filter_order, in_filter}
use Rattle.workbook_core.specs.Books.{SharedBook, IsWorkbook}
use Rattle.workbook_core.specs.WithNumber.{with_number}
use Rattle.workbook_core.proofs.Growth.{same_texts}
use Rattle.workbook_core.proofs.WithNumber.{looks_with}
use Rattle.support_graph.specs.Pending.{IsPendingFrom, Reached, among, start, step}
use Rattle.support_graph.specs.Support.{CellAreas, IsSupportOf}
use Rattle.support_graph.proofs.Books.{cell_formula, formula_cell, mentions_reads}
use Rattle.parallel_evaluation.specs.Workers.{ArePending}
use Rattle.recalculation.proofs.Moved.{false_of, same_outside, texts_stay}
use Rattle.what_if.specs.Tables.{AreDependents}

-- lists in order

not_behind : (a : Addr) (cs : List Addr) → IsBeforeAll a cs → In a cs → ⊥
not_behind a [] h k = k
not_behind a (c ∷ cs) h (inl e) = never_before a (subst (IsBefore a) (sym e) h.0)
not_behind a (c ∷ cs) h (inr k) = not_behind a cs h.1 k

distinct : (cs : List Addr) → InOrder cs → Distinct cs
distinct [] h = tt
distinct (c ∷ cs) h = (not_behind c cs h.0, distinct cs h.1)

are_pending : (b : Book) (cells : List Addr) → length cells ≤ MAX_BOOK_CELLS → InOrder cells → ((a : Addr) → In a cells → IsSome (formula_at b a)) → IsClosed b (λ a. In a cells) → ArePending b cells
are_pending b [] few order are closed = tt
are_pending b (c ∷ cells) few order are closed = record {
  one_at_least = omega arith;
  not_too_many = few;
  are_formulas = are;
  in_order = order;
  closed = closed;
}

-- the cell itself, and all others

module _ (w : SharedBook) (at : Addr) (h : IsWorkbook w) where
  looks : (n : ℤ) (a : Addr) → entry_at (with_number w.book at n).cells a ≡ cond (same_addr at a) (Some (Content.Number n)) (entry_at w.book.cells a)
  looks n a = looks_with w at n h a

  looks_other : (n : ℤ) (a : Addr) → same_addr at a ≡ false → entry_at (with_number w.book at n).cells a ≡ entry_at w.book.cells a
  looks_other n a e = looks n a ∙ ap (λ t. cond t (Some (Content.Number n)) (entry_at w.book.cells a)) e

  looks_here : (n : ℤ) → entry_at (with_number w.book at n).cells at ≡ Some (Content.Number n)
  looks_here n = looks n at ∙ ap (λ t. cond t (Some (Content.Number n)) (entry_at w.book.cells at)) (same_addr-refl at)

  formula_other : (n : ℤ) (a : Addr) → same_addr at a ≡ false → formula_at (with_number w.book at n) a ≡ formula_at w.book a
  unfolding formula_at
  formula_other n a e = ap formula_of (looks_other n a e)

  pub formula_here : (n : ℤ) → formula_at (with_number w.book at n) at ≡ None
  unfolding formula_at
  formula_here n = ap formula_of (looks_here n)

  own_here : (n : ℤ) → own (with_number w.book at n) at ≡ Value.Number n
  unfolding own
  own_here n = ap own_of (looks_here n)

  -- the number is what the cell shows
  pub shown_here : (n : ℤ) → shown (with_number w.book at n) at ≡ Shown.Val (Value.Number n)
  shown_here n = shows_own (with_number w.book at n) at (formula_here n) ∙ ap Shown.Val (own_here n)

  -- a formula cell of the book with the number is another cell than that one, with the formula that it has
  pub apart : (n : ℤ) (a : Addr) (t : Expr) → formula_at (with_number w.book at n) a ≡ Some t → same_addr at a ≡ false
  apart n a t e = false_of (same_addr at a) (λ s. let d : ◌≡◌ {A = Option Expr} None (Some t) = sym (formula_here n) ∙ ap (formula_at (with_number w.book at n)) (same_addr-true at a s) ∙ e in cc)

  outside : (n : ℤ) → SameOutside (OfSet (same_addr at)) w.book (with_number w.book at n)
  outside n = same_outside w.book (with_number w.book at n) (same_addr at) (λ a e. sym (looks_other n a e))

  module _ (s : CellAreas) (support : IsSupportOf w.book s) where
    -- what mentions a cell in a book with the number reads it
    reads_in : (n : ℤ) (c a : Addr) → Mentions (with_number w.book at n) c a → Mentions w.book c a
    reads_in n c a m = record { tree = m.tree; is_formula = sym (formula_other n c (apart n c m.tree m.is_formula)) ∙ m.is_formula; named = m.named }

    reached_in : (n : ℤ) (c : Addr) → laws.Reached (with_number w.book at n) (OfSet (same_addr at)) c → Reached s (among (at ∷ [])) c
    reached_in n c (laws.start c' e) = start c (subst (λ a. among (at ∷ []) a ≡ true) (same_addr-true at c e) (or_left (same_addr at at) false (same_addr-refl at)))
    reached_in n c (laws.step a c' r m) = step a c (reached_in n a r) (mentions_reads w.book s support c a (reads_in n c a m))

    module _ (new : List Addr) (order : InOrder new) (found : (c : Addr) → In c new ↔ IsPendingFrom s [] (among (at ∷ [])) c) where
      abbrev cells : List Addr
      cells = filter (λ a. not (same_addr at a)) new

      into : (c : Addr) → same_addr at c ≡ false → In c new → In c cells
      into c e k = in_filter (λ a. not (same_addr at a)) new c k (ap not e)

      out_of : (c : Addr) → In c cells → In c new × (same_addr at c ≡ false)
      out_of c k = (let f = filter_in (λ a. not (same_addr at a)) new c k in (f.0, false_of (same_addr at c) (λ e. let d : false ≡ true = sym (ap not e) ∙ f.1 in cc)))

      reached_cell : (c : Addr) → In c new → Reached s (among (at ∷ [])) c
      reached_cell c k = ⊎_elim (λ (f : In c []). absurd f) (λ r. r) ((found c).0 k).1

      has_formula : (c : Addr) → In c cells → (t : Expr) × (formula_at w.book c ≡ Some t)
      has_formula c k = cell_formula w.book s support c ((found c).0 (out_of c k).0).0

      some_formula : (n : ℤ) (c : Addr) → In c cells → IsSome (formula_at (with_number w.book at n) c)
      some_formula n c k = (let t = has_formula c k in subst IsSome (sym (formula_other n c (out_of c k).1 ∙ t.1)) refl)

      -- a formula cell that is reached is one of the cells
      one_of : (n : ℤ) (c : Addr) (t : Expr) → formula_at (with_number w.book at n) c ≡ Some t → Reached s (among (at ∷ [])) c → In c cells
      one_of n c t e r =
          let other = apart n c t e in
          into c other ((found c).1 (formula_cell w.book s support c t (sym (formula_other n c other) ∙ e), inr r))

      closed_in : (n : ℤ) → IsClosed (with_number w.book at n) (λ a. In a cells)
      closed_in n c a k m = one_of n c m.tree m.is_formula (step a c (reached_cell a (out_of a k).0) (mentions_reads w.book s support c a (reads_in n c a m)))

      few : length cells ≤ MAX_BOOK_CELLS
      few =
          let most : length cells ≤ length (formulas w.book) = no_more cells (formulas w.book) (distinct cells (filter_order (λ a. not (same_addr at a)) new order)) (λ a k. let t = has_formula a k in in_formulas w.book a t.0 t.1) in
          let all = enough w.book in
          let max = h.few in
          omega arith

      not_reached : (n : ℤ) (a : Addr) → (a ≡ at → ⊥) → (In a cells → ⊥) → laws.Reached (with_number w.book at n) (OfSet (same_addr at)) a → ⊥
      not_reached n a other out (laws.start a' e) = other (sym (same_addr-true at a e))
      not_reached n a other out (laws.step x a' r m) = out (one_of n a m.tree m.is_formula (reached_in n a (laws.step x a r m)))

      pub found_dependents : AreDependents w.book at cells
      found_dependents = record {
        pending = λ n. are_pending (with_number w.book at n) cells few (filter_order (λ a. not (same_addr at a)) new order) (some_formula n) (closed_in n);
        formulas = λ n a k. formula_other n a (out_of a k).1;
        others = λ n a other out. let l = shows_same w.book (with_number w.book at n) (length w.book.texts) (same_addr at) (outside n) (texts_stay w (with_number w.book at n) h (same_texts w.book.texts)) a (not_reached n a other out) in (sym l.0, sym l.1);
      }
