-- A number that fits is passed on as it is.
use Rattle.std.proofs.Common.{◌≡◌, ℤ, pos, negsuc, true, ap, arith}
use Rattle.std.proofs.lemmas.Bool.Decides.{nat_tests}
use Rattle.std.proofs.lemmas.Int.{to_z-of_z}
use mir.Syntax.{w128}
use mir.Val.{SFits, of_z, to_z}
use Rattle.cell_values.specs.Numbers.{fits}
use Rattle.cell_values.specs.ShownText.{int_text}

number_fits : (n : ℤ) → fits n ≡ true → SFits w128 n
number_fits (pos n) h = record { sfits = grind (arith, nat_tests) }
number_fits (negsuc n) h = record { sfits = grind (arith, nat_tests) }

pub number_passed : (n : ℤ) → fits n ≡ true → int_text (to_z w128 (of_z w128 n)) ≡ int_text n
number_passed n h = ap int_text (to_z-of_z w128 n (number_fits n h))
