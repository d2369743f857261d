-- What is kept beside the workbook: its support, the pending cells and the results.
use Rattle.std.specs.Prelude.{◌≡◌, ℕ, ◌%◌, ◌==◌, ◌||◌, true, false, cond, ◌⊎◌, List, [], IsSome, Option, Some, None, option_map}
use Rattle.cell_values.specs.declared.address.Addr.{Addr}
use Rattle.cell_values.specs.declared.address.Area.{Area}
use Rattle.cell_values.specs.Addresses.{same_addr}
use Rattle.cell_values.specs.Order.{InOrder, entry_at}
use Rattle.formula_trees.specs.Mentions.{areas}
use Rattle.demand_spec.specs.Book.{Book, formula_at, formulas, shown}
use Rattle.demand_spec.specs.Laws.{In, Mentions, Reached, Set, OfSet}
use Rattle.support_graph.specs.Support.{CellAreas}
use Rattle.workbook_core.specs.Books.{SharedBook}
use Rattle.recalculation.specs.declared.progress.Progress.{Progress}
use Rattle.recalculation.specs.Calculations.{Calculation, has_result}

-- the pending cells: those that are kept, or all formula cells where no support is built
abbrev pub pending_in : Book → Progress → List Addr
pending_in b p = cond p.built p.stale (formulas b)

-- what callers see
abbrev pub seen : SharedBook → Progress → Calculation
seen w p = record { shared = w; pending = pending_in w.book p }

-- the areas that a formula of the cell names, none without a formula
abbrev pub areas_at : Book → Addr → Option (List Area)
areas_at b c = option_map (areas c) (formula_at b c)

-- the support has these areas of each cell but of those that changed
abbrev pub IsLinkedBut : Book → Set → CellAreas → Type 0
IsLinkedBut b changed s = (c : Addr) → changed c ≡ false → entry_at s c ≡ areas_at b c

-- the new support has these areas of one cell, and the old one's of the others
abbrev pub Links : Book → Addr → CellAreas → CellAreas → Type 0
Links b at old new = (c : Addr) → entry_at new c ≡ cond (same_addr at c) (areas_at b at) (entry_at old c)

-- the support has the areas of the cells of a set, and of no others
abbrev pub LinksAlone : Book → Set → CellAreas → Type 0
LinksAlone b cells s = (c : Addr) → entry_at s c ≡ cond (cells c) (areas_at b c) None

-- the cells of a set, and those in every second row
abbrev pub with_half : ℕ → Set → Set
with_half rest cells c = cells c || (c.row % 2 == rest)

-- it is right for the book but for the cells that changed: the support has the other cells' areas; the pending cells
-- are formula cells, with all that mention them; and what no changed cell reaches has its result, unless it is pending
pub record IsProgressBut (b : Book) (changed : Set) (p : Progress) : Type 0 where
  pub unbuilt : p.built ≡ false → (p.support ≡ []) × (p.stale ≡ [])
  pub linked : p.built ≡ true → IsLinkedBut b changed p.support
  pub in_order : InOrder p.stale
  pub are_formulas : (c : Addr) → In c p.stale → IsSome (formula_at b c) ⊎ (changed c ≡ true)
  pub closed : (a c : Addr) → In a p.stale → Mentions b c a → In c p.stale ⊎ (changed c ≡ true)
  pub results : p.built ≡ true → (c : Addr) → (Reached b (OfSet changed) c → ⊥) → has_result b p.stale c ≡ true → entry_at p.stored.entries c ≡ Some (shown b c)

-- it is right for the book
abbrev pub IsProgress : Book → Progress → Type 0
IsProgress b p = IsProgressBut b (λ _. false) p
