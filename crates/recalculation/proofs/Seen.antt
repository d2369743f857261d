-- What is told of a workbook by what is kept beside it.
use Rattle.std.proofs.Common.{◌≡◌, Bool, true, false, cond, not, ◌&&◌, ◌||◌, List, [], Option, Some, None, is_some, unwrap_or, option_map, refl, sym, ap, ◌∙◌, subst}
use Rattle.std.specs.Prelude.{◌↔◌, IsTrue}
use Rattle.cell_values.specs.declared.address.Addr.{Addr}
use Rattle.cell_values.specs.declared.values.Shown.{Shown}
use Rattle.cell_values.specs.Order.{entry_at}
use Rattle.cell_values.specs.Values.{IsShownOf}
use Rattle.formula_trees.specs.Expr.{Expr}
use Rattle.formula_trees.specs.Mentions.{areas}
use Rattle.demand_spec.specs.Book.{Book, formula_at, formulas, own, shown}
use Rattle.demand_spec.specs.Laws.{In}
use Rattle.demand_spec.proofs.Members.{member_found, found_member}
use Rattle.demand_spec.proofs.Results.{shows_own, shows_its_texts}
use Rattle.demand_spec.proofs.Rounds.{in_formulas}
use Rattle.support_graph.specs.Pending.{among}
use Rattle.support_graph.specs.Support.{IsSupportOf}
use Rattle.workbook_core.specs.Books.{SharedBook, IsWorkbook}
use Rattle.recalculation.specs.declared.progress.Progress.{Progress}
use Rattle.recalculation.specs.Calculations.{has_result, stored_at, AreResultsOf}
use Rattle.recalculation.specs.Standing.{pending_in, IsProgress}
use Rattle.recalculation.proofs.Kept.{never_reached}
use Rattle.recalculation.proofs.Moved.{false_of}
use Rattle.recalculation.proofs.Results.{none_settled}

-- the results that are kept are the results
pub results_are : (b : Book) (p : Progress) → IsProgress b p → AreResultsOf b (pending_in b p) p.stored.entries
results_are b p k a r = go p.built refl r
  where
    go : (q : Bool) → p.built ≡ q → has_result b (cond q p.stale (formulas b)) a ≡ true → entry_at p.stored.entries a ≡ Some (shown b a)
    go true h r = k.results h a (never_reached b a) r
    go false h r = absurd (let z : true ≡ false = sym r ∙ none_settled b a in cc)

-- the test whether there is a result

pub held_is_among : (P : List Addr) (a : Addr) (q : Bool) → IsTrue q ↔ In a P → q ≡ among P a
held_is_among P a true h = sym (member_found a P (h.0 refl))
held_is_among P a false h = sym (false_of (among P a) (λ e. let z : false ≡ true = h.1 (found_member a P e) in cc))

pub settled_is : (b : Book) (p : Progress) (a : Addr) → (is_some (formula_at b a) && not (not p.built || among p.stale a)) ≡ has_result b (pending_in b p) a
settled_is b p a = go p.built
  where
    none : (t : Bool) → (t && false) ≡ false
    none true = refl
    none false = refl

    go : (t : Bool) → (is_some (formula_at b a) && not (not t || among p.stale a)) ≡ has_result b (cond t p.stale (formulas b)) a
    go true = refl
    go false = none (is_some (formula_at b a)) ∙ sym (none_settled b a)

-- a stored result, or the own value, where nothing is pending
pub stored_or_own : (b : Book) (P : List Addr) (a : Addr) → P ≡ [] → unwrap_or (stored_at b P a) (Shown.Val (own b a)) ≡ shown b a
stored_or_own b P a e = ap (λ xs. unwrap_or (stored_at b xs a) (Shown.Val (own b a))) e ∙ go (formula_at b a) refl
  where
    go : (o : Option Expr) → formula_at b a ≡ o → unwrap_or (cond (is_some o && true) (Some (shown b a)) None) (Shown.Val (own b a)) ≡ shown b a
    go (Some t) f = refl
    go None f = sym (shows_own b a f)

pub shown_text : (w : SharedBook) (a : Addr) → IsWorkbook w → IsShownOf w.book.texts (shown w.book a)
shown_text w a k = shows_its_texts w.book (λ c x e. (k.cells c x e).texts) a

-- where nothing is pending, the support is that of the book
pub support_stands : (b : Book) (p : Progress) → IsProgress b p → pending_in b p ≡ [] → IsSupportOf b p.support
support_stands b p k e c = go p.built refl e
  where
    no_formula : formulas b ≡ [] → (o : Option Expr) → formula_at b c ≡ o → None ≡ option_map (areas c) o
    no_formula n (Some t) f = absurd (subst (In c) n (in_formulas b c t f))
    no_formula n None f = refl

    go : (q : Bool) → p.built ≡ q → cond q p.stale (formulas b) ≡ [] → entry_at p.support c ≡ option_map (areas c) (formula_at b c)
    go true h n = k.linked h c refl
    go false h n = ap (λ s. entry_at s c) (k.unbuilt h).0 ∙ no_formula n (formula_at b c) refl
