use Rattle.std.proofs.Common.{◌≡◌, ◌++◌, drop}
use Rattle.cell_values.specs.Areas.{walk}
use Rattle.workbook_core.proofs.copies.addresses_of.Given as goal

abbrev pub invariant-loop-n : goal.invariant-loop-n
invariant-loop-n l = l.addresses.items ++ drop l.n (walk l.area) ≡ walk l.area
