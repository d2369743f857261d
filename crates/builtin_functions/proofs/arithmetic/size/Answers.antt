use Rattle.std.proofs.Common.{◌∙◌}
use Rattle.std.proofs.lemmas.Int.{to_z-of_z}
use Rattle.builtin_functions.proofs.Exact.{Held, abs_is}
use Rattle.builtin_functions.proofs.arithmetic.size.Goals as goal

pub returns : goal.returns
returns c =
    let x_held : Held c.args.x = c.ranges.x in
    c.exact.ensures ∙ abs_is c.args.x _ x_held (simp to_z-of_z at c.checked_abs.ensures)
