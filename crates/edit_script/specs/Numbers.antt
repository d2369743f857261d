-- The numbers that a line names.
use Rattle.std.specs.Prelude.{◌≡◌, ℕ, suc, ◌-◌, ◌≤◌, ℤ, pos, ◌+ℤ◌, ◌-ℤ◌, nat_abs, int_le, int_lt, true, ◌&&◌, List, Option, Some, None, option_map, option_and_then, if◌then◌else◌}
use Rattle.cell_values.specs.Fields.{number_of_field}
use Rattle.cell_values.specs.Numbers.{fits}

-- how many numbers there are from one to another, if they are 1 to 1,000
abbrev pub numbers_to : ℤ → ℤ → Option ℕ
numbers_to low high = if int_le (pos 0) (high -ℤ low) && int_lt (high -ℤ low) (pos 1000) then Some (suc (nat_abs (high -ℤ low))) else None

-- the first of the numbers from one text to another, and how many they are
abbrev pub range_in : List ℕ → List ℕ → Option (ℤ × ℕ)
range_in low high = option_and_then (λ first. option_and_then (λ last. option_map (λ count. (first, count)) (numbers_to first last)) (number_of_field high)) (number_of_field low)

-- 1 to 1,000 numbers, of which the last one fits
pub record IsRange (low : ℤ) (count : ℕ) : Type 0 where
  pub some : 1 ≤ count
  pub few : count ≤ 1000
  pub fit : fits (low +ℤ pos (count - 1)) ≡ true
