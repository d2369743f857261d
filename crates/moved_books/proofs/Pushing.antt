-- Which cells inserted rows push out, by the last row with a cell.
use Rattle.std.proofs.Common.{◌≡◌, ℕ, ◌+◌, ◌≤◌, max, Bool, true, false, cond, not, ◌&&◌, ◌||◌, ◌==◌, [], ◌∷◌, Some, None, refl, sym, ap, ◌∙◌, arith}
use Rattle.std.specs.Prelude.{nat_lt, nat_le, is_none, option_map, fold}
use Rattle.std.specs.List.{list_any}
use Rattle.std.proofs.lemmas.Bool.{eqb-true}
use Rattle.cell_values.specs.declared.TheConstants.{LAST_ROW}
use Rattle.cell_values.specs.declared.address.Addr.{Addr}
use Rattle.demand_spec.specs.Book.{Content}
use Rattle.demand_spec.specs.Edits.{Cells}
use Rattle.demand_spec.specs.Sheets.{last_row, last_column}
use Rattle.row_shift.specs.declared.change.RowChange.{RowChange}
use Rattle.row_shift.specs.Moves.{move_cell, moved_row, in_row}
use Rattle.workbook_core.specs.Books.{extent_in}
use Rattle.moved_books.specs.Steps.{is_pushed}

-- a row from the first one that is pushed on goes past the last row
abbrev past : ℕ → ℕ → ℕ → Bool
past row count n = not (nat_lt n row) && nat_lt LAST_ROW (n + count)

module _ (s row count : ℕ) where
  abbrev insert : RowChange
  insert = RowChange.Insert s row count

  abbrev goes : Addr × Content → Bool
  goes c = is_none (move_cell insert c.0)

  row_goes : (a : Addr) (r : ℕ) → is_none (option_map (in_row a) (moved_row insert r)) ≡ past row count r
  row_goes a r = go (nat_lt r row) (nat_le (r + count) LAST_ROW) refl
    where
      go : (t u : Bool) → nat_le (r + count) LAST_ROW ≡ u → is_none (option_map (in_row a) (cond t (Some r) (cond u (Some (r + count)) None))) ≡ (not t && nat_lt LAST_ROW (r + count))
      go true u e = refl
      go false true e = grind (arith, e)
      go false false e = grind (arith, e)

  one_goes : (c : Addr × Content) → goes c ≡ cond (c.0.sheet == s) (past row count c.0.row) false
  one_goes c = go (c.0.sheet == s)
    where
      go : (t : Bool) → is_none (option_map (in_row c.0) (cond t (moved_row insert c.0.row) (Some c.0.row))) ≡ cond t (past row count c.0.row) false
      go true = row_goes c.0 c.0.row
      go false = refl

  past_more : (m n : ℕ) → m ≤ n → past row count m ≡ true → past row count n ≡ true
  past_more m n l e = grind (arith, l, e)

  past_max : (m n : ℕ) → past row count (max m n) ≡ (past row count m || past row count n)
  past_max m n = grind arith

  step : (n : ℕ) (c : Addr × Content) → past row count (cond (c.0.sheet == s) (max n c.0.row) n) ≡ (past row count n || goes c)
  step n c = go (c.0.sheet == s) ∙ ap (λ (t : Bool). past row count n || t) (sym (one_goes c))
    where
      or_false : (t : Bool) → t ≡ (t || false)
      or_false true = refl
      or_false false = refl

      go : (t : Bool) → past row count (cond t (max n c.0.row) n) ≡ (past row count n || cond t (past row count c.0.row) false)
      go true = past_max n c.0.row
      go false = or_false (past row count n)

  or_moves : (x y z : Bool) → ((x || y) || z) ≡ (x || (y || z))
  or_moves true y z = refl
  or_moves false y z = refl

  pushed_from : (n : ℕ) (cells : Cells) → past row count (fold (λ m c. cond (c.0.sheet == s) (max m c.0.row) m) n cells) ≡ (past row count n || list_any goes cells)
  pushed_from n [] = go (past row count n)
    where
      go : (t : Bool) → t ≡ (t || false)
      go true = refl
      go false = refl
  pushed_from n (c ∷ cells) = pushed_from (cond (c.0.sheet == s) (max n c.0.row) n) cells ∙ ap (λ (t : Bool). t || list_any goes cells) (step n c) ∙ or_moves (past row count n) (goes c) (list_any goes cells)

  none_past : 1 ≤ row → past row count 0 ≡ false
  none_past h = grind (arith, h)

  pub pushed_told : (cells : Cells) → 1 ≤ row → is_pushed (extent_in s cells) row count ≡ list_any goes cells
  pushed_told cells h = go (last_row s cells == 0) refl
    where
      all : past row count (last_row s cells) ≡ list_any goes cells
      all = pushed_from 0 cells ∙ ap (λ (t : Bool). t || list_any goes cells) (none_past h)

      go : (t : Bool) → (last_row s cells == 0) ≡ t → is_pushed (cond t None (Some (last_row s cells, last_column s cells))) row count ≡ list_any goes cells
      go true e = sym (none_past h) ∙ ap (past row count) (sym (eqb-true (last_row s cells) 0 e)) ∙ all
      go false e = all
