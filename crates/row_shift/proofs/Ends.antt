-- The rows of a range after a change, from its first and its last row before.
use Rattle.std.proofs.Common.{◌≡◌, ℕ, ◌+◌, ◌<◌, ◌≤◌, Bool, true, false, cond, ◌==◌, ◌⊎◌, inl, inr, ⊎_elim, nat_lt, Option, Some, None, refl, sym, ap, ◌∙◌, arith}
use Rattle.std.proofs.lemmas.Bool.{cases_lt, lt-ltb, le-ltb}
use Rattle.cell_values.specs.declared.TheConstants.{LAST_ROW}
use Rattle.cell_values.specs.declared.address.Area.{Area}
use Rattle.cell_values.specs.Areas.{IsArea}
use Rattle.row_shift.specs.declared.change.RowChange.{RowChange}
use Rattle.row_shift.specs.Moves.{IsChange, sheet_of, moved_row, in_rows, moved_rows}
use Rattle.row_shift.specs.Ends.{both, end_rows}
use Rattle.row_shift.proofs.Ranges.{row_stays, row_pushed, row_lost, fits, rows_elsewhere, rows_pushed, rows_lost, rows_left, rows_within}

both_none : (o : Option ℕ) → both o None ≡ None
both_none (Some x) = refl
both_none None = refl

pushed : (s row count b i : ℕ) → i ≤ b → (b < row) ⊎ (b + count ≤ LAST_ROW) → moved_row (RowChange.Insert s row count) i ≡ Some (cond (nat_lt i row) i (i + count))
pushed s row count b i n h = ⊎_elim
    (λ (k : i < row). row_stays s row count i k ∙ ap (λ (q : Bool). Some (cond q i (i + count))) (sym (lt-ltb i row k)))
    (λ (k : row ≤ i). row_pushed s row count i k (fits row count b i n k h) ∙ ap (λ (q : Bool). Some (cond q i (i + count))) (sym (le-ltb i row k)))
    (cases_lt i row)

-- an insertion pushes the last row out, or keeps it
out_or_in : (row count b : ℕ) → ((row ≤ b) × (LAST_ROW < b + count)) ⊎ ((b < row) ⊎ (b + count ≤ LAST_ROW))
out_or_in row count b = ⊎_elim (λ (h : b < row). inr (inl h)) (λ (h : row ≤ b). ⊎_elim (λ (k : LAST_ROW < b + count). inl (h, k)) (λ (k : b + count ≤ LAST_ROW). inr (inr k)) (cases_lt LAST_ROW (b + count))) (cases_lt b row)

inserted_ends : (s row count : ℕ) (r : Area) → r.top ≤ r.bottom → (r.sheet == s) ≡ true → moved_rows (RowChange.Insert s row count) r ≡ end_rows (RowChange.Insert s row count) r.top r.bottom
inserted_ends s row count r l e = go (out_or_in row count r.bottom)
  where
    go : ((row ≤ r.bottom) × (LAST_ROW < r.bottom + count)) ⊎ ((r.bottom < row) ⊎ (r.bottom + count ≤ LAST_ROW)) → moved_rows (RowChange.Insert s row count) r ≡ end_rows (RowChange.Insert s row count) r.top r.bottom
    go (inl h) =
        rows_lost s row count r l e h.0 h.1
        ∙ sym (ap (both (moved_row (RowChange.Insert s row count) r.top)) (row_lost s row count r.bottom h.0 h.1) ∙ both_none (moved_row (RowChange.Insert s row count) r.top))
    go (inr h) = rows_pushed s row count r l e h ∙ sym (λ i. both (pushed s row count r.bottom r.top l h i) (pushed s row count r.bottom r.bottom (omega arith) h i))

pub rows_are : (change : RowChange) (r : Area) → r.top ≤ r.bottom → moved_rows change r ≡ cond (r.sheet == sheet_of change) (end_rows change r.top r.bottom) (Some (r.top, r.bottom))
rows_are change r l = go (r.sheet == sheet_of change) refl
  where
    here : (change : RowChange) → (r.sheet == sheet_of change) ≡ true → moved_rows change r ≡ end_rows change r.top r.bottom
    here (RowChange.Insert s row count) e = inserted_ends s row count r l e
    here (RowChange.Delete s row count) e = rows_left s row count r l e

    go : (q : Bool) → (r.sheet == sheet_of change) ≡ q → moved_rows change r ≡ cond q (end_rows change r.top r.bottom) (Some (r.top, r.bottom))
    go true e = here change e
    go false e = rows_elsewhere change r l e

-- what the code gives

pub rows_told : (change : RowChange) (r : Area) (o : Option (ℕ × ℕ)) → IsArea r → o ≡ cond (r.sheet == sheet_of change) (end_rows change r.top r.bottom) (Some (r.top, r.bottom)) → o ≡ moved_rows change r
rows_told change r o a h = h ∙ sym (rows_are change r a.top_to)

pub rows_make_area : (change : RowChange) (r : Area) (t b : ℕ) → IsChange change → IsArea r → moved_rows change r ≡ Some (t, b) → IsArea (in_rows r (t, b))
rows_make_area change r t b h a e = (let w = rows_within change r (t, b) a h e in record { top_from = w.from; top_to = w.ordered; bottom_to = w.to; left_from = a.left_from; left_to = a.left_to; right_to = a.right_to })
