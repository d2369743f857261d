-- What single steps of a move tell.
use Rattle.std.specs.Prelude.{◌≡◌, ℕ, ◌+◌, Bool, false, not, ◌&&◌, nat_lt, ⊤, Option, Some, None}
use Rattle.cell_values.specs.declared.TheConstants.{LAST_ROW}
use Rattle.cell_values.specs.declared.address.Addr.{Addr}
use Rattle.demand_spec.specs.Book.{Content}
use Rattle.demand_spec.specs.Edits.{Cells, Put, IsApplied}
use Rattle.row_shift.specs.declared.change.RowChange.{RowChange}
use Rattle.row_shift.specs.MovedBook.{moved_content, touched_place}

-- inserted rows push the last row of a sheet with a cell past the last one that there is
abbrev pub is_pushed : Option (ℕ × ℕ) → ℕ → ℕ → Bool
is_pushed None row count = false
is_pushed (Some last) row count = not (nat_lt last.0 row) && nat_lt LAST_ROW (last.0 + count)

-- what the cell `at` holds came to its place, if it has one
abbrev pub HasMoved : RowChange → Addr → Option Addr → Option Content → Cells → Cells → Type 0
HasMoved change at (Some to) (Some held) old new = IsApplied (Put to (Some (moved_content change at to held))) old new
HasMoved change at (Some to) None old new = ⊤
HasMoved change at None held old new = new ≡ old

-- the place of the cell, if the change touches what it holds
abbrev pub place_if_touched : RowChange → Addr → Option Content → Option Addr
place_if_touched change at (Some held) = touched_place change (at, held)
place_if_touched change at None = None
