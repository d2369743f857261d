-- The loops of a book: each once, from its least address along the needs, in order of that address.
use Rattle.std.specs.Prelude.{◌≡◌, ℕ, zero, suc, Bool, not, ◌&&◌, Option, Some, None, is_some, unwrap_or, List, [], ◌∷◌, length, map}
use Rattle.std.specs.List.{filter, list_all}
use Rattle.cell_values.specs.declared.address.Addr.{Addr}
use Rattle.cell_values.specs.declared.values.Shown.{Shown}
use Rattle.cell_values.specs.Order.{addresses, entry_at}
use Rattle.formula_trees.specs.Expr.{Expr}
use Rattle.demand_spec.specs.Book.{Book, formula_at, formulas, need, period, shown}
use Rattle.demand_spec.specs.Edits.{is_before}

-- how many needs lead from a cell back to it first, none at a cell on no loop
unfoldable pub loop_length : Book → Addr → Option ℕ
loop_length b c = period b (length (formulas b)) c

-- the next so many cells along the needs
abbrev pub trail : Book → ℕ → Option Addr → List Addr
trail b zero x = []
trail b (suc n) None = []
trail b (suc n) (Some c) = c ∷ trail b n (need b c)

-- the cells of a cell's loop along the needs, that cell first
unfoldable pub loop_from : Book → Addr → List Addr
loop_from b c = trail b (unwrap_or (loop_length b c) 0) (Some c)

-- the cell has the least address of its loop
unfoldable pub leads : Book → Addr → Bool
leads b c = is_some (loop_length b c) && list_all (λ x. not (is_before x c)) (loop_from b c)

unfoldable pub loops : Book → List (List Addr)
loops b = map (loop_from b) (filter (leads b) (addresses b.cells))

-- the results hold what each formula cell shows
abbrev pub HoldShown : Book → List (Addr × Shown) → Type 0
HoldShown b results = (c : Addr) (t : Expr) → formula_at b c ≡ Some t → entry_at results c ≡ Some (shown b c)
