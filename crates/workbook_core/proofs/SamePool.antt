-- Copies that add no tree to the pool.
use Rattle.std.proofs.Common.{◌≡◌, ℕ, zero, suc, ◌<◌, ◌||◌, Bool, true, false, List, [], ◌∷◌, Some, option_map, length, get_or, refl, sym, ap, subst, ◌∙◌, arith}
use Rattle.cell_values.specs.declared.address.Addr.{Addr}
use Rattle.cell_values.specs.declared.address.Area.{Area}
use Rattle.cell_values.specs.Addresses.{same_addr}
use Rattle.cell_values.specs.Areas.{walk, is_inside}
use Rattle.cell_values.specs.Order.{entry_at}
use Rattle.cell_values.proofs.Order.{same_addr-refl}
use Rattle.formula_trees.specs.Expr.{Expr}
use Rattle.formula_trees.specs.Shifted.{shifted}
use Rattle.demand_spec.specs.Book.{Content}
use Rattle.demand_spec.specs.Edits.{copied}
use Rattle.demand_spec.proofs.Members.{walk_holds}
use Rattle.shared_expressions.specs.Trees.{Trees, IsThere}
use Rattle.workbook_core.specs.declared.Content.{Content as Held}
use Rattle.workbook_core.specs.Copies.{among, CopiesAreThere, HasTree, StaysOn}
use Rattle.workbook_core.specs.Held.{content_in, cells_in, IsHeldOf}
use Rattle.workbook_core.proofs.Lookups.{held_cells}

among_at : (xs : List Addr) (i : ℕ) (d : Addr) → i < length xs → among xs (get_or xs i d) ≡ true
among_at [] i d l = absurd (omega arith)
among_at (x ∷ xs) zero d l = ap (λ t. t || among xs x) (same_addr-refl x)
among_at (x ∷ xs) (suc i) d l = or_true (same_addr (get_or xs i d) x) (among xs (get_or xs i d)) (among_at xs i d (omega arith))
  where
    or_true : (t u : Bool) → u ≡ true → (t || u) ≡ true
    or_true true u e = refl
    or_true false u e = e

-- a formula is copied to one address more
pub no_more_trees : (p q r : Trees) (e : Expr) (xs : List Addr) (i : ℕ) (d at : Addr) → i < length xs → at ≡ get_or xs i d → (CopiesAreThere p (among xs) (Some (Content.Formula e)) → q ≡ p) → (IsThere q (shifted at e) → r ≡ q) → CopiesAreThere p (among xs) (Some (Content.Formula e)) → r ≡ p
no_more_trees p q r e xs i d at l is before after k =
    let same : q ≡ p = before k in
    after (subst (λ t. IsThere t (shifted at e)) (sym same) (subst (λ a. IsThere p (shifted a e)) (sym is) (k (get_or xs i d) (among_at xs i d l)))) ∙ same

-- what a cell holds has its tree in the pool
has_tree : (p : Trees) (h : Held) → IsHeldOf p h → HasTree p (Some (content_in p h))
has_tree p (Held.Formula id) k = record { number = id.0; within = k; same = refl }
has_tree p (Held.Number n) k = tt
has_tree p (Held.Text t) k = tt
has_tree p (Held.Bool b) k = tt

module _ (p : Trees) (es : List (Addr × Held)) (from : Addr) (to : Area) (h : Held) (is : entry_at es from ≡ Some h) where
  source : entry_at (cells_in p es) from ≡ Some (content_in p h)
  source = held_cells p es from ∙ ap (option_map (content_in p)) is

  pub there_walked : CopiesAreThere p (is_inside to) (entry_at (cells_in p es) from) → CopiesAreThere p (among (walk to)) (Some (content_in p h))
  there_walked k = λ a e. subst (λ o. HasTree p (copied a o)) source (k a (sym (walk_holds to a) ∙ e))

  pub there_staying : IsHeldOf p h → StaysOn (is_inside to) (entry_at (cells_in p es) from) → CopiesAreThere p (is_inside to) (entry_at (cells_in p es) from)
  there_staying held k = λ a e. subst (HasTree p) (sym (k a e)) (subst (HasTree p) (sym source) (has_tree p h held))
