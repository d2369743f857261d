-- How far the cells of a sheet reach.
use Rattle.std.specs.Prelude.{ℕ, ◌==◌, cond, max, List, fold}
use Rattle.cell_values.specs.declared.address.Addr.{Addr}
use Rattle.demand_spec.specs.Book.{Content}

-- the last row of the sheet that holds a cell, 0 where none does
abbrev pub last_row : ℕ → List (Addr × Content) → ℕ
last_row sheet cells = fold (λ n c. cond (c.0.sheet == sheet) (max n c.0.row) n) 0 cells

-- the last column of the sheet that holds a cell, 0 where none does
abbrev pub last_column : ℕ → List (Addr × Content) → ℕ
last_column sheet cells = fold (λ n c. cond (c.0.sheet == sheet) (max n c.0.col) n) 0 cells
