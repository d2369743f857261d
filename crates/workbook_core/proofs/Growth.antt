-- Cells over texts and trees that grow.
use Rattle.std.proofs.Common.{◌≡◌, ℕ, ◌<◌, ◌≤◌, cond, List, [], ◌∷◌, length, Bool, true, false, Option, Some, None, option_map, refl, sym, ap, subst, ◌∙◌, arith}
use Rattle.std.proofs.lemmas.List.{length-take}
use Rattle.std.proofs.Math.Seq.{take-length}
use Rattle.cell_values.specs.declared.TheConstants.{MAX_BOOK_CELLS}
use Rattle.cell_values.specs.declared.address.Addr.{Addr}
use Rattle.cell_values.specs.Addresses.{same_addr, IsBefore}
use Rattle.cell_values.specs.Interned.{KeepsTexts}
use Rattle.cell_values.specs.Texts.{Texts}
use Rattle.cell_values.specs.Order.{InOrder, addresses, entry_at}
use Rattle.cell_values.proofs.Order.{never_before, same_addr-refl, same_addr-true}
use Rattle.formula_trees.specs.Expr.{Expr, Exprs, Ref, Range, RefError, Unary, Binary, Call, End, More}
use Rattle.formula_trees.specs.TextNumbers.{TextsBelow, AllTextsBelow}
use Rattle.demand_spec.specs.Book.{Content}
use Rattle.demand_spec.specs.Listed.{IsContentOf}
use Rattle.demand_spec.proofs.OneList.{before_found}
use Rattle.shared_expressions.specs.Trees.{Trees, KeepsTrees}
use Rattle.workbook_core.specs.declared.Content.{Content as Held}
use Rattle.workbook_core.specs.Books.{IsCell, IsKept, MayHold}
use Rattle.demand_spec.specs.Edits.{Put, IsApplied}
use Rattle.workbook_core.specs.Held.{content_in, cells_in, IsHeldOf, AreOnSheets, SetsHeld}
use Rattle.workbook_core.proofs.Lookups.{held_cells, length-cells_in, in_book, from_book}

-- a formula's text numbers stay below a greater limit
mutual
  pub formula_stays : (m n : ℕ) (e : Expr) → m ≤ n → TextsBelow (λ i. i < m) e → TextsBelow (λ i. i < n) e
  formula_stays m n (Expr.Number k) l h = tt
  formula_stays m n (Expr.Text t) l h = omega (arith, l, h)
  formula_stays m n (Expr.Truth b) l h = tt
  formula_stays m n (Ref r) l h = tt
  formula_stays m n (Range r s) l h = tt
  formula_stays m n RefError l h = tt
  formula_stays m n (Unary s a) l h = formula_stays m n a l h
  formula_stays m n (Binary o a b) l h = (formula_stays m n a l h.0, formula_stays m n b l h.1)
  formula_stays m n (Call f args) l h = arguments_stay m n args l h

  arguments_stay : (m n : ℕ) (args : Exprs) → m ≤ n → AllTextsBelow (λ i. i < m) args → AllTextsBelow (λ i. i < n) args
  arguments_stay m n End l h = tt
  arguments_stay m n (More a rest) l h = (formula_stays m n a l h.0, arguments_stay m n rest l h.1)

pub kept_length : (ts us : Texts) → KeepsTexts ts us → length ts ≤ length us
kept_length ts us k = omega (arith, ap length k, length-take (length ts) us)

pub content_stays : (ts us : Texts) (c : Content) → length ts ≤ length us → IsContentOf ts c → IsContentOf us c
content_stays ts us (Content.Number n) l h = tt
content_stays ts us (Content.Text t) l h = omega (arith, l, h)
content_stays ts us (Content.Truth b) l h = tt
content_stays ts us (Content.Formula e) l h = formula_stays (length ts) (length us) e l h

-- trees

pub held_stays : (p q : Trees) (h : Held) → KeepsTrees p q → IsHeldOf p h → IsHeldOf q h
held_stays p q (Held.Number n) k o = tt
held_stays p q (Held.Text t) k o = tt
held_stays p q (Held.Bool b) k o = tt
held_stays p q (Held.Formula id) k o = omega (arith, k.longer, o)

pub content_same : (p q : Trees) (h : Held) → KeepsTrees p q → IsHeldOf p h → content_in q h ≡ content_in p h
content_same p q (Held.Number n) k o = refl
content_same p q (Held.Text t) k o = refl
content_same p q (Held.Bool b) k o = refl
content_same p q (Held.Formula id) k o = ap Content.Formula (k.keeps id.0 o)

pub same_texts : (ts : Texts) → KeepsTexts ts ts
same_texts ts = take-length ts

pub same_trees : (p : Trees) → KeepsTrees p p
same_trees p = record { longer = omega arith; keeps = λ i l. refl }

-- cells in order

pub apart_from_before : (a b : Addr) → IsBefore b a → same_addr a b ≡ false
apart_from_before a b h = go (same_addr a b) refl
  where
    go : (t : Bool) → same_addr a b ≡ t → t ≡ false
    go true is = absurd (never_before b (subst (IsBefore b) (same_addr-true a b is) h))
    go false is = refl

-- what a later cell holds is found behind the first one too
pub found_behind : (e : Addr × Held) (es : List (Addr × Held)) (a : Addr) (h : Held) → InOrder (addresses (e ∷ es)) → entry_at es a ≡ Some h → entry_at (e ∷ es) a ≡ Some h
found_behind e es a h o f = ap (λ t. cond t (Some e.1) (entry_at es a)) (apart_from_before a e.0 (before_found e.0 es a h o.0 f)) ∙ f

pub cells_same : (p q : Trees) (es : List (Addr × Held)) → KeepsTrees p q → InOrder (addresses es) → ((a : Addr) (h : Held) → entry_at es a ≡ Some h → IsHeldOf p h) → cells_in q es ≡ cells_in p es
cells_same p q [] k o ids = refl
cells_same p q (e ∷ es) k o ids =
    let here : entry_at (e ∷ es) e.0 ≡ Some e.1 = ap (λ t. cond t (Some e.1) (entry_at es e.0)) (same_addr-refl e.0) in
    let first : content_in q e.1 ≡ content_in p e.1 = content_same p q e.1 k (ids e.0 e.1 here) in
    let rest : cells_in q es ≡ cells_in p es = cells_same p q es k o.1 (λ a h f. ids a h (found_behind e es a h o f)) in
    λ i. (e.0, first i) ∷ rest i

-- a workbook whose texts and trees grow

cell_grows : (ts us : Texts) (count : ℕ) (a : Addr) (c : Content) → KeepsTexts ts us → IsCell ts count a c → IsCell us count a c
cell_grows ts us count a c k h = record {
  on_sheet = h.on_sheet;
  sheet = h.sheet;
  fits = h.fits;
  sound = h.sound;
  texts = content_stays ts us c (kept_length ts us k) h.texts;
  sheets = h.sheets;
}

pub kept_cells : (es : List (Addr × Held)) (ts : Texts) (names : List (List ℕ)) (p q : Trees) → KeepsTrees p q → IsKept es ts names p → cells_in q es ≡ cells_in p es
kept_cells es ts names p q k h = cells_same p q es k (from_book p es h.workbook.order) h.ids

pub kept_grows : (es : List (Addr × Held)) (ts us : Texts) (names : List (List ℕ)) (p q : Trees) → KeepsTexts ts us → KeepsTrees p q → IsKept es ts names p → IsKept es us names q
kept_grows es ts us names p q kt kp h =
    let same : cells_in q es ≡ cells_in p es = kept_cells es ts names p q kp h in
    record {
      workbook = record {
        order = in_book q es (from_book p es h.workbook.order);
        few = omega (arith, length-cells_in p es, length-cells_in q es, h.workbook.few);
        cells = λ a c e. cell_grows ts us (length names) a c kt (h.workbook.cells a c (ap (λ x. entry_at x a) (sym same) ∙ e));
      };
      ids = λ a x e. held_stays p q x kp (h.ids a x e);
    }

-- one cell changed

pub applied_set : (p : Trees) (es fs : List (Addr × Held)) (at : Addr) (held : Option Held) → SetsHeld at held es fs → IsApplied (Put at (option_map (content_in p) held)) (cells_in p es) (cells_in p fs)
applied_set p es fs at held h = record {
  order = in_book p fs h.order;
  lookups = λ a. held_cells p fs a ∙ ap (option_map (content_in p)) (h.lookups a) ∙ through (same_addr at a) (entry_at es a) ∙ ap (cond (same_addr at a) (option_map (content_in p) held)) (sym (held_cells p es a));
}
  where
    through : (t : Bool) (o : Option Held) → option_map (content_in p) (cond t held o) ≡ cond t (option_map (content_in p) held) (option_map (content_in p) o)
    through true o = refl
    through false o = refl

pub held_cell : (es : List (Addr × Held)) (ts : Texts) (names : List (List ℕ)) (p : Trees) → IsKept es ts names p → (a : Addr) (h : Held) → entry_at es a ≡ Some h → MayHold ts (length names) p a (Some h)
held_cell es ts names p k a h e = (k.ids a h e, k.workbook.cells a (content_in p h) (held_cells p es a ∙ ap (option_map (content_in p)) e))

pub on_sheets : (es : List (Addr × Held)) (ts : Texts) (names : List (List ℕ)) (p : Trees) → IsKept es ts names p → AreOnSheets es
on_sheets es ts names p k a h e = (held_cell es ts names p k a h e).1.on_sheet

-- cells that all may stand where they do
pub kept_from : (es : List (Addr × Held)) (ts : Texts) (names : List (List ℕ)) (p : Trees) → InOrder (addresses es) → length es ≤ MAX_BOOK_CELLS → ((a : Addr) (h : Held) → entry_at es a ≡ Some h → MayHold ts (length names) p a (Some h)) → IsKept es ts names p
kept_from es ts names p o few all = record {
  workbook = record {
    order = in_book p es o;
    few = omega (arith, length-cells_in p es, few);
    cells = λ a c e. of_cell a c (entry_at es a) refl (sym (held_cells p es a) ∙ e);
  };
  ids = λ a h e. (all a h e).0;
}
  where
    of_cell : (a : Addr) (c : Content) (o : Option Held) → entry_at es a ≡ o → option_map (content_in p) o ≡ Some c → IsCell ts (length names) a c
    of_cell a c None is e = absurd (cc)
    of_cell a c (Some h) is e = let same : content_in p h ≡ c = cc in subst (IsCell ts (length names) a) same (all a h is).1

pub kept_set : (es fs : List (Addr × Held)) (ts : Texts) (names : List (List ℕ)) (p : Trees) (at : Addr) (held : Option Held) → IsKept es ts names p → SetsHeld at held es fs → length fs ≤ MAX_BOOK_CELLS → MayHold ts (length names) p at held → IsKept fs ts names p
kept_set es fs ts names p at held k s few may = kept_from fs ts names p s.order few (λ a h e. go a h (same_addr at a) refl held may (sym (s.lookups a) ∙ e))
  where
    go : (a : Addr) (h : Held) (t : Bool) → same_addr at a ≡ t → (o : Option Held) → MayHold ts (length names) p at o → cond t o (entry_at es a) ≡ Some h → MayHold ts (length names) p a (Some h)
    go a h true is None m e = absurd (cc)
    go a h true is (Some x) m e =
        let same : x ≡ h = cc in
        subst (λ b. MayHold ts (length names) p b (Some h)) (same_addr-true at a is) (subst (λ y. MayHold ts (length names) p at (Some y)) same m)
    go a h false is o m e = held_cell es ts names p k a h e
