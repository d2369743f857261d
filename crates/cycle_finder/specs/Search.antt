-- What the search has found, and what it looks at.
use Rattle.std.specs.Prelude.{◌≡◌, ℕ, Bool, not, Option, Some, None, List, ◌++◌, map}
use Rattle.std.specs.List.{filter, list_any}
use Rattle.cell_values.specs.declared.address.Addr.{Addr}
use Rattle.cell_values.specs.declared.values.Shown.{Shown}
use Rattle.cell_values.specs.declared.values.Value.{Value}
use Rattle.cell_values.specs.Addresses.{same_addr}
use Rattle.cell_values.specs.Order.{addresses, entry_at}
use Rattle.formula_trees.specs.Expr.{Expr}
use Rattle.demand_spec.specs.Book.{Book, Content, Known, own_of, formula_at, shown}
use Rattle.workbook_core.specs.Books.{lies_after}
use Rattle.cycle_finder.specs.Loops.{loop_length, loop_from, leads, loops}

-- the value of a cell that holds no formula
abbrev pub own_in : Option Content → Option Value
own_in (Some (Content.Formula t)) = None
own_in held = Some (own_of held)

-- the value of a result
abbrev pub value_of : Option Shown → Option Value
value_of (Some (Shown.Val v)) = Some v
value_of _ = None

-- a book, and the results of some of its formula cells
pub record Recall : Type 0 where
  pub book : Book
  pub results : List (Addr × Shown)

-- each result is what its cell shows
abbrev pub AreShown : Book → List (Addr × Shown) → Type 0
AreShown b results = (c : Addr) (t : Expr) (r : Shown) → formula_at b c ≡ Some t → entry_at results c ≡ Some r → r ≡ shown b c

-- the values that results tell
abbrev pub values_in : List (Addr × Shown) → Known
values_in results = λ c. value_of (entry_at results c)

-- the length of a loop, as a cell shows it
abbrev pub length_of : Option Shown → Option ℕ
length_of (Some (Shown.Cycle n)) = Some n
length_of _ = None

-- the cells behind an address, or all
abbrev pub cells_behind : Book → Option Addr → List Addr
cells_behind b after = filter (lies_after after) (addresses b.cells)

abbrev pub has : Addr → List Addr → Bool
has c cells = list_any (same_addr c) cells

-- the loops were found that begin at the cells up to an address, and a cell on a loop was seen where its loop has such a cell
pub record IsFound (b : Book) (after : Option Addr) (found : List (List Addr)) (seen : List Addr) : Type 0 where
  pub listed : found ++ map (loop_from b) (filter (leads b) (cells_behind b after)) ≡ loops b
  pub met : (c : Addr) (n : ℕ) → loop_length b c ≡ Some n → has c seen ≡ list_any (λ x. not (lies_after after x)) (loop_from b c)
