-- How cells are named, and what they show.
use Rattle.std.specs.Prelude.{ℕ, List, [], ◌++◌, slice_index_or}
use Rattle.cell_values.specs.declared.address.Addr.{Addr}
use Rattle.cell_values.specs.CellText.{cell_text}
use Rattle.cell_values.specs.Names.{prefix_text}
use Rattle.cell_values.specs.ShownText.{shown_text}
use Rattle.demand_spec.specs.Book.{Book, shown}
use Rattle.sheet_loading.specs.Contents.{Names}

-- the name of a sheet
abbrev pub name_of : Names → ℕ → List ℕ
name_of names sheet = slice_index_or names sheet []

-- a cell with its sheet in front, as `plan!B7`, or `'my plan'!B7` where the name is no plain word
unfoldable pub cell_name : Names → Addr → List ℕ
cell_name names at = prefix_text (name_of names at.sheet) ++ cell_text at

-- the text that a cell shows
abbrev pub cell_shows : Book → Addr → List ℕ
cell_shows b at = shown_text b.texts (shown b at)
