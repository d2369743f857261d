-- How a sheet is written.
use Rattle.std.specs.Prelude.{ℕ, List, map}
use Rattle.cell_values.specs.Areas.{numbers_from}
use Rattle.demand_spec.specs.Book.{Book}
use Rattle.demand_spec.specs.Sheets.{last_row, last_column}
use Rattle.sheet_csv.specs.Row.{row_text}
use Rattle.puncalc_program.specs.Cells.{cell_shows}

-- the texts of a row's first cells
abbrev pub row_texts : Book → ℕ → ℕ → ℕ → List (List ℕ)
row_texts b sheet row count = map (λ col. cell_shows b (record { sheet = sheet; row = row; col = col })) (numbers_from 1 count)

-- a row of the sheet from column A to the last one that any row uses
unfoldable pub sheet_row : Book → ℕ → ℕ → List ℕ
sheet_row b sheet row = row_text (row_texts b sheet row (last_column sheet b.cells))

-- the sheet's rows, from row 1 to the last one that holds a cell
abbrev pub sheet_rows : Book → ℕ → List (List ℕ)
sheet_rows b sheet = map (sheet_row b sheet) (numbers_from 1 (last_row sheet b.cells))
