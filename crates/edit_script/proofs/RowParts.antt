-- The parts of a line with rows.
use Rattle.std.proofs.Common.{◌≡◌, ℕ, List, Option, ap, ◌∙◌}
use Rattle.std.specs.List.{before_first, after_first}
use Rattle.edit_script.specs.Pieces.{is_space}
use Rattle.edit_script.specs.Rows.{row_number, rows_of, rows_in}
use Rattle.edit_script.specs.Targets.{Names, sheet_in}

pub rows_told : (names : Names) (text first behind second name : List ℕ) (row count sheet : Option ℕ)
    → first ≡ before_first is_space text → behind ≡ after_first is_space text → second ≡ before_first is_space behind → name ≡ after_first is_space behind
    → row ≡ row_number first → count ≡ row_number second → sheet ≡ sheet_in names name → rows_of row count sheet ≡ rows_in names text
unfolding rows_in
rows_told names text first behind second name row count sheet f b s n r c h =
    let second_is = s ∙ ap (before_first is_space) b in
    let name_is = n ∙ ap (after_first is_space) b in
    let row_is = r ∙ ap row_number f in
    let count_is = c ∙ ap row_number second_is in
    let sheet_is = h ∙ ap (sheet_in names) name_is in
    λ i. rows_of (row_is i) (count_is i) (sheet_is i)
