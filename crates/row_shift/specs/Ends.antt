-- What becomes of the rows of a range of the changed sheet, from the first and the last one.
use Rattle.std.specs.Prelude.{ℕ, ◌+◌, ◌-◌, ◌&&◌, cond, nat_lt, nat_le, Option, Some, None, unwrap_or}
use Rattle.row_shift.specs.declared.change.RowChange.{RowChange}
use Rattle.row_shift.specs.Moves.{moved_row}

abbrev pub both : Option ℕ → Option ℕ → Option (ℕ × ℕ)
both (Some t) (Some b) = Some (t, b)
both _ _ = None

-- an insertion moves both, if both have a place; a deletion cuts off what is deleted, and leaves none of a range that lies in it
abbrev pub end_rows : RowChange → ℕ → ℕ → Option (ℕ × ℕ)
end_rows (RowChange.Insert sheet row count) t b = both (moved_row (RowChange.Insert sheet row count) t) (moved_row (RowChange.Insert sheet row count) b)
end_rows (RowChange.Delete sheet row count) t b = cond (nat_le row t && nat_lt b (row + count)) None (Some (unwrap_or (moved_row (RowChange.Delete sheet row count) t) row, unwrap_or (moved_row (RowChange.Delete sheet row count) b) (row - 1)))
