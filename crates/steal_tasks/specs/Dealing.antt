-- Which numbers are dealt to whom.
use Rattle.std.specs.Prelude.{◌≡◌, ℕ, ◌+◌, ◌-◌, ◌*◌, ◌/◌, ◌<◌, List, map}
use Rattle.std.specs.List.{range_with_len, concat}

-- where the part of worker w begins: w shares of `workers` equal ones of `count`, rounded down
abbrev pub part_start : ℕ → ℕ → ℕ → ℕ
part_start count workers w = w * count / workers

-- the numbers dealt to worker w, ascending: from where its part begins up to where the next one does
abbrev pub dealt_to : ℕ → ℕ → ℕ → List ℕ
dealt_to count workers w = range_with_len (part_start count workers w) (part_start count workers (w + 1) - part_start count workers w)

-- the parts of all workers, in their order
abbrev pub all_dealt : ℕ → ℕ → List (List ℕ)
all_dealt count workers = map (dealt_to count workers) (range_with_len 0 workers)

-- the parts of all workers, one after another, are the numbers below `count`, so no two parts have a number in common
abbrev pub DealtOnce : Type 0
DealtOnce = (count workers : ℕ) → 0 < workers → concat (all_dealt count workers) ≡ range_with_len 0 count
