-- Results that were found one after the other.
use Rattle.std.specs.Prelude.{◌≡◌, ℕ, true, false, cond, Option, Some, is_some, List}
use Rattle.cell_values.specs.declared.address.Addr.{Addr}
use Rattle.cell_values.specs.declared.values.Shown.{Shown}
use Rattle.cell_values.specs.Order.{addresses, entry_at}
use Rattle.formula_trees.specs.Expr.{Expr}
use Rattle.demand_spec.specs.Book.{Book, formula_at, shown}
use Rattle.demand_spec.specs.Laws.{In, Distinct}
use Rattle.workbook_core.specs.Books.{lies_after}
use Rattle.cycle_finder.specs.Loops.{loop_from}
use Rattle.cycle_finder.specs.Search.{has}

-- a formula cell shows this
pub record IsRight (b : Book) (c : Addr) (r : Shown) : Type 0 where
  pub tree : Expr
  pub is_formula : formula_at b c ≡ Some tree
  pub shows : shown b c ≡ r

-- each result is right, and with a cell of a loop all of its cells have one
pub record AreRight (b : Book) (told : List (Addr × Shown)) : Type 0 where
  pub right : (c : Addr) (r : Shown) → entry_at told c ≡ Some r → IsRight b c r
  pub whole : (c : Addr) (n : ℕ) → entry_at told c ≡ Some (Shown.Cycle n) → (x : Addr) → In x (loop_from b c) → is_some (entry_at told x) ≡ true

-- a mark, and no value
abbrev pub IsMark : Shown → Type 0
IsMark (Shown.Val v) = ⊥
IsMark (Shown.Cycle n) = Unit {0}
IsMark Shown.ToCycle = Unit {0}

-- the formula cells up to an address have results
abbrev pub AllTold : Book → Option Addr → List (Addr × Shown) → Type 0
AllTold b last told = (c : Addr) → In c (addresses b.cells) → lies_after last c ≡ false → (t : Expr) → formula_at b c ≡ Some t → is_some (entry_at told c) ≡ true

-- some cells have this result, each once, and the others what they had
pub record Marks (cells : List Addr) (r : Shown) (told told' : List (Addr × Shown)) : Type 0 where
  pub apart : Distinct cells
  pub lookups : (a : Addr) → entry_at told' a ≡ cond (has a cells) (Some r) (entry_at told a)
