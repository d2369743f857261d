use Rattle.std.proofs.Common.{◌≡◌, ◌≢◌, pos, ◌∙◌, sym, arith}
use Rattle.std.proofs.lemmas.Int.{to_z-of_z, ints}
use Rattle.builtin_functions.proofs.Exact.{Held, quotient_by_zero, quotient_is}
use Rattle.builtin_functions.proofs.arithmetic.quotient.Goals as goal

pub returns-then-y-eq0 : goal.returns-then-y-eq0
returns-then-y-eq0 c =
    let y_zero : c.args.y ≡ pos 0 = omega (arith, ints) in
    sym (quotient_by_zero c.args.x c.args.y y_zero)

pub returns-else-y-eq0 : goal.returns-else-y-eq0
returns-else-y-eq0 c =
    let y_not_zero : c.args.y ≢ pos 0 = omega (arith, ints) in
    let x_held : Held c.args.x = c.ranges.x in
    let y_held : Held c.args.y = c.ranges.y in
    c.exact.ensures ∙ quotient_is c.args.x c.args.y _ y_held y_not_zero (simp to_z-of_z at c.checked_div.ensures)
