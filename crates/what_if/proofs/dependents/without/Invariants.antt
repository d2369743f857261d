use Rattle.std.proofs.Common.{◌≡◌, not, take}
use Rattle.std.specs.List.{filter}
use Rattle.cell_values.specs.Addresses.{same_addr}
use Rattle.what_if.proofs.dependents.without.Given as goal

abbrev pub invariant-loop-i : goal.invariant-loop-i
invariant-loop-i l = l.others.items ≡ filter (λ a. not (same_addr l.at a)) (take l.i l.cells)
