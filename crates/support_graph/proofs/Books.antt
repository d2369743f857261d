-- The support of a book: what reads a cell is what mentions it, and what an edit leaves pending.
use Rattle.std.proofs.Common.{◌≡◌, Bool, true, false, ◌||◌, ◌⊎◌, inl, inr, ⊎_elim, List, [], ◌∷◌, ◌++◌, flat_map, refl, sym, ap, ◌∙◌, subst, Option, Some, None, IsSome, IsSomeAnd}
use Rattle.std.specs.Prelude.{◌↔◌, option_map}
use Rattle.cell_values.specs.declared.address.Addr.{Addr}
use Rattle.cell_values.specs.declared.address.Area.{Area}
use Rattle.cell_values.specs.Areas.{walk, is_inside}
use Rattle.formula_trees.specs.Expr.{Expr}
use Rattle.formula_trees.specs.Mentions.{areas}
use Rattle.shared_expressions.proofs.Named.{mentions_are_areas}
use Rattle.demand_spec.specs.Book.{Book, formula_at}
use Rattle.demand_spec.specs.Laws as laws
use Rattle.demand_spec.specs.Laws.{In, Mentions, Pending}
use Rattle.demand_spec.proofs.Spread.{pending_list_is_closed}
use Rattle.demand_spec.proofs.Members.{walked_inside, inside_walked}
use Rattle.demand_spec.proofs.Walks.{in_either, in_left, in_right}
use Rattle.support_graph.specs.Support.{CellAreas, hold, IsCell, Reads, IsSupportOf}
use Rattle.support_graph.specs.Pending.{Reached, start, step, IsPendingAfter, StayClosed}
use Rattle.support_graph.proofs.Truths.{or_right}

-- the cells that areas hold are those of their walks

walked_held : (areas : List Area) (a : Addr) → In a (flat_map walk areas) → hold areas a ≡ true
walked_held [] a m = elim m [ ]
walked_held (r ∷ areas) a m = go (in_either a (walk r) (flat_map walk areas) m) (walked_held areas a)
  where
    go : In a (walk r) ⊎ In a (flat_map walk areas) → (In a (flat_map walk areas) → hold areas a ≡ true) → (is_inside r a || hold areas a) ≡ true
    go (inl k) f = (λ i. walked_inside r a k i || hold areas a)
    go (inr k) f = or_right (is_inside r a) (hold areas a) (f k)

held_walked : (areas : List Area) (a : Addr) → hold areas a ≡ true → In a (flat_map walk areas)
held_walked [] a h = cc
held_walked (r ∷ areas) a h = go (is_inside r a) refl h (held_walked areas a)
  where
    go : (q : Bool) → is_inside r a ≡ q → (q || hold areas a) ≡ true → (hold areas a ≡ true → In a (flat_map walk areas)) → In a (walk r ++ flat_map walk areas)
    go true e k f = in_left a (walk r) (flat_map walk areas) (inside_walked r a e)
    go false e k f = in_right a (walk r) (flat_map walk areas) (f k)

pub reads_mentions : (b : Book) (s : CellAreas) → IsSupportOf b s → (c a : Addr) → Reads s c a → Mentions b c a
reads_mentions b s h c a m = go (formula_at b c) refl (subst (λ o. IsSomeAnd o (λ xs. hold xs a ≡ true)) (h c) m)
  where
    go : (o : Option Expr) → formula_at b c ≡ o → IsSomeAnd (option_map (areas c) o) (λ xs. hold xs a ≡ true) → Mentions b c a
    go None e k = elim k [ ]
    go (Some t) e k = record { tree = t; is_formula = e; named = subst (In a) (sym (mentions_are_areas c t)) (held_walked (areas c t) a k) }

pub mentions_reads : (b : Book) (s : CellAreas) → IsSupportOf b s → (c a : Addr) → Mentions b c a → Reads s c a
mentions_reads b s h c a m = subst (λ o. IsSomeAnd o (λ xs. hold xs a ≡ true)) (sym (h c ∙ ap (option_map (areas c)) m.is_formula)) (walked_held (areas c m.tree) a (subst (In a) (mentions_are_areas c m.tree) m.named))

pub cell_formula : (b : Book) (s : CellAreas) → IsSupportOf b s → (c : Addr) → IsCell s c → (t : Expr) × (formula_at b c ≡ Some t)
cell_formula b s h c m = go (formula_at b c) refl (subst IsSome (h c) m)
  where
    go : (o : Option Expr) → formula_at b c ≡ o → IsSome (option_map (areas c) o) → (t : Expr) × (formula_at b c ≡ Some t)
    go None e k = cc
    go (Some t) e k = (t, e)

pub formula_cell : (b : Book) (s : CellAreas) → IsSupportOf b s → (c : Addr) (t : Expr) → formula_at b c ≡ Some t → IsCell s c
formula_cell b s h c t e = subst IsSome (sym (h c ∙ ap (option_map (areas c)) e)) refl

pub reached_in_book : (b : Book) (s : CellAreas) → IsSupportOf b s → (area : Area) (c : Addr) → Reached s (is_inside area) c → laws.Reached b (λ a. is_inside area a ≡ true) c
reached_in_book b s h area c (start c' k) = laws.start c k
reached_in_book b s h area c (step a c' r k) = laws.step a c (reached_in_book b s h area a r) (reads_mentions b s h c a k)

pub reached_in_support : (b : Book) (s : CellAreas) → IsSupportOf b s → (area : Area) (c : Addr) → laws.Reached b (λ a. is_inside area a ≡ true) c → Reached s (is_inside area) c
reached_in_support b s h area c (laws.start c' k) = start c k
reached_in_support b s h area c (laws.step a c' r k) = step a c (reached_in_support b s h area a r) (mentions_reads b s h c a k)

-- what is pending by the support is pending by the book
pub pending_in_book : (b : Book) (s : CellAreas) → IsSupportOf b s → (old new : List Addr) (area : Area) → ((c : Addr) → In c new ↔ IsPendingAfter s old area c) → (c : Addr) → In c new ↔ Pending b (λ a. In a old) (λ a. is_inside area a ≡ true) c
pending_in_book b s h old new area k c = (λ (m : In c new). to ((k c).0 m), λ (m : Pending b (λ a. In a old) (λ a. is_inside area a ≡ true) c). (k c).1 (from m))
  where
    to : IsPendingAfter s old area c → Pending b (λ a. In a old) (λ a. is_inside area a ≡ true) c
    to m = (cell_formula b s h c m.0, ⊎_elim (λ (n : In c old). inl n) (λ (n : Reached s (is_inside area) c). inr (reached_in_book b s h area c n)) m.1)

    from : Pending b (λ a. In a old) (λ a. is_inside area a ≡ true) c → IsPendingAfter s old area c
    from m = (formula_cell b s h c m.0.0 m.0.1, ⊎_elim (λ (n : In c old). inl n) (λ (n : laws.Reached b (λ a. is_inside area a ≡ true) c). inr (reached_in_support b s h area c n)) m.1)

-- and what was closed stays so
pub closed_in_book : (s : CellAreas) (old new : List Addr) (area : Area) → ((c : Addr) → In c new ↔ IsPendingAfter s old area c) → StayClosed s old area new
closed_in_book s old new area k b b' h closed outside c a m n = (pending_in_book b' s h old new area k c).1 (pending_list_is_closed b b' old (is_inside area) closed outside c a ((pending_in_book b' s h old new area k a).0 m) n)
