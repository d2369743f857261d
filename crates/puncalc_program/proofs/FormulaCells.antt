-- The formula cells of a book, by a walk over its cells.
use Rattle.std.proofs.Common.{◌≡◌, Bool, true, false, cond, List, [], ◌∷◌, ◌++◌, append_assoc, append-nil, Option, Some, None, refl, sym, subst, ap, ◌∙◌}
use Rattle.std.specs.Prelude.{is_some}
use Rattle.std.proofs.lemmas.Bool.{false_from_ne_true}
use Rattle.cell_values.specs.declared.address.Addr.{Addr}
use Rattle.cell_values.specs.Addresses.{same_addr, IsBefore}
use Rattle.cell_values.specs.Order.{InOrder, IsBeforeAll, addresses, entry_at}
use Rattle.cell_values.proofs.Order.{same_addr-true, same_addr-refl, never_before, before_apart}
use Rattle.demand_spec.specs.Book.{Book, Content, formula_at, formula_of, formulas, formulas_in, with_formula}
use Rattle.demand_spec.specs.Edits.{Cells, is_before}
use Rattle.workbook_core.specs.Books.{lies_after, next_in}
use Rattle.cycle_finder.proofs.Leading.{not_before, true_before}
use Rattle.recalculation.proofs.Walked.{after_through, behind}

-- the cells behind an address that all of them lie behind
all_behind : (o : Option Addr) (a : Addr) (cells : Cells) → ((y : Addr) → IsBefore a y → lies_after o y ≡ true) → IsBeforeAll a (addresses cells) → behind o cells ≡ cells
all_behind o a [] f h = refl
all_behind o a (c ∷ cells) f h = ap (λ t. cond t (c ∷ behind o cells) (behind o cells)) (f c.0 h.0) ∙ ap (λ z. c ∷ z) (all_behind o a cells f h.1)

all_of : (cells : Cells) → behind None cells ≡ cells
all_of [] = refl
all_of (c ∷ cells) = ap (λ z. c ∷ z) (all_of cells)

none_behind : (cells : Cells) (o : Option Addr) → next_in cells o ≡ None → behind o cells ≡ []
none_behind [] o e = refl
none_behind (c ∷ cells) o e = go (lies_after o c.0) e (none_behind cells o)
  where
    go : (t : Bool) → cond t (Some c.0) (next_in cells o) ≡ None → (next_in cells o ≡ None → behind o cells ≡ []) → cond t (c ∷ behind o cells) (behind o cells) ≡ []
    go true q later = cc
    go false q later = later q

-- the next cell lies behind what lies before all cells
next_later : (a : Addr) (cells : Cells) (o : Option Addr) (x : Addr) → IsBeforeAll a (addresses cells) → next_in cells o ≡ Some x → IsBefore a x
next_later a [] o x h e = cc
next_later a (c ∷ cells) o x h e = go (lies_after o c.0) e (next_later a cells o x h.1)
  where
    go : (t : Bool) → cond t (Some c.0) (next_in cells o) ≡ Some x → (next_in cells o ≡ Some x → IsBefore a x) → IsBefore a x
    go true q later = (let same : c.0 ≡ x = cc in subst (λ z. IsBefore a z) same h.0)
    go false q later = later q

-- the cell, if it has a formula
abbrev one_formula : Cells → Addr → List Addr
one_formula cells x = cond (is_some (formula_of (entry_at cells x))) (x ∷ []) []

-- the formula cells behind an address are the next cell, if it has a formula, and those behind it
next_formulas : (cells : Cells) → InOrder (addresses cells) → (o : Option Addr) (x : Addr) → next_in cells o ≡ Some x → formulas_in (behind o cells) ≡ one_formula cells x ++ formulas_in (behind (Some x) cells)
next_formulas [] order o x e = cc
next_formulas (c ∷ cells) order o x e = go (lies_after o c.0) refl e (next_formulas cells order.1 o x)
  where
    here : (d : Content) → with_formula c.0 d (formulas_in cells) ≡ cond (is_some (formula_of (Some d))) (c.0 ∷ []) [] ++ formulas_in cells
    here (Content.Number n) = refl
    here (Content.Text t) = refl
    here (Content.Truth b) = refl
    here (Content.Formula t) = refl

    first : lies_after o c.0 ≡ true → formulas_in (c ∷ behind o cells) ≡ one_formula (c ∷ cells) c.0 ++ formulas_in (behind (Some c.0) (c ∷ cells))
    first h =
        let rest : behind o cells ≡ cells = all_behind o c.0 cells (λ y l. after_through o c.0 y h (true_before c.0 y l)) order.0 in
        let others : behind (Some c.0) (c ∷ cells) ≡ cells =
        ap (λ t. cond t (c ∷ behind (Some c.0) cells) (behind (Some c.0) cells)) (not_before c.0 c.0 (never_before c.0)) ∙ all_behind (Some c.0) c.0 cells (λ y l. true_before c.0 y l) order.0 in
        ap (λ cs. formulas_in (c ∷ cs)) rest ∙ here c.1 ∙ sym (λ i. cond (is_some (formula_of (cond (same_addr-refl c.0 i) (Some c.1) (entry_at cells c.0)))) (c.0 ∷ []) [] ++ formulas_in (others i))

    go : (t : Bool) → lies_after o c.0 ≡ t → cond t (Some c.0) (next_in cells o) ≡ Some x → (next_in cells o ≡ Some x → formulas_in (behind o cells) ≡ one_formula cells x ++ formulas_in (behind (Some x) cells)) →
        formulas_in (cond t (c ∷ behind o cells) (behind o cells)) ≡ one_formula (c ∷ cells) x ++ formulas_in (behind (Some x) (c ∷ cells))
    go true h q later =
        let same : c.0 ≡ x = cc in
        subst (λ z. formulas_in (c ∷ behind o cells) ≡ one_formula (c ∷ cells) z ++ formulas_in (behind (Some z) (c ∷ cells))) same (first h)
    go false h q later =
        let l : IsBefore c.0 x = next_later c.0 cells o x order.0 q in
        let apart : same_addr x c.0 ≡ false = false_from_ne_true (same_addr x c.0) (λ k. never_before x (subst (λ z. IsBefore z x) (sym (same_addr-true x c.0 k)) l)) in
        let passed : is_before x c.0 ≡ false = not_before x c.0 (before_apart c.0 x l) in
        later q
        ∙ sym (λ i. cond (is_some (formula_of (cond (apart i) (Some c.1) (entry_at cells x)))) (x ∷ []) [] ++ formulas_in (cond (passed i) (c ∷ behind (Some x) cells) (behind (Some x) cells)))

-- the formula cells that were found, and those behind the last cell that was looked at, are all

abbrev pub AreFoundTo : Book → Option Addr → List Addr → Type 0
AreFoundTo b after found = found ++ formulas_in (behind after b.cells) ≡ formulas b

pub none_found : (b : Book) (found : List Addr) → found ≡ [] → AreFoundTo b None found
unfolding formulas
none_found b found e = ap (λ cs. cs ++ formulas_in (behind None b.cells)) e ∙ ap formulas_in (all_of b.cells)

pub found_more : (b : Book) (o : Option Addr) (x : Addr) (found more : List Addr) → InOrder (addresses b.cells) → next_in b.cells o ≡ Some x → more ≡ found ++ cond (is_some (formula_at b x)) (x ∷ []) [] →
    AreFoundTo b o found → AreFoundTo b (Some x) more
unfolding formula_at
found_more b o x found more order e h k =
    ap (λ cs. cs ++ formulas_in (behind (Some x) b.cells)) h ∙ append_assoc found (one_formula b.cells x) (formulas_in (behind (Some x) b.cells))
    ∙ ap (λ cs. found ++ cs) (sym (next_formulas b.cells order o x e)) ∙ k

pub all_found : (b : Book) (o : Option Addr) (found : List Addr) → next_in b.cells o ≡ None → AreFoundTo b o found → found ≡ formulas b
all_found b o found e k = sym (append-nil found) ∙ ap (λ cs. found ++ formulas_in cs) (sym (none_behind b.cells o e)) ∙ k
