-- What a cell shows where another cell holds each of some numbers.
use Rattle.std.specs.Prelude.{◌≡◌, ℕ, ◌-◌, ◌≤◌, true, ℤ, pos, ◌+ℤ◌, List, map}
use Rattle.cell_values.specs.declared.address.Addr.{Addr}
use Rattle.cell_values.specs.declared.values.Shown.{Shown}
use Rattle.cell_values.specs.Areas.{numbers_from}
use Rattle.cell_values.specs.Numbers.{fits}
use Rattle.demand_spec.specs.Book.{Book, shown}
use Rattle.workbook_core.specs.WithNumber.{with_number}

-- what the target shows where the cell holds the number that comes k behind `low`
abbrev pub scenario : Book → Addr → ℤ → Addr → ℕ → Shown
scenario b at low target k = shown (with_number b at (low +ℤ pos k)) target

-- the same for each of so many numbers
abbrev pub scenarios : Book → Addr → ℤ → ℕ → Addr → List Shown
scenarios b at low count target = map (scenario b at low target) (numbers_from 0 count)

-- 1 to 1,000 numbers, of which the last one fits
pub record IsRange (low : ℤ) (count : ℕ) : Type 0 where
  pub some : 1 ≤ count
  pub few : count ≤ 1000
  pub fit : fits (low +ℤ pos (count - 1)) ≡ true
