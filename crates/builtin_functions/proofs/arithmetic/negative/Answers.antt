use Rattle.std.proofs.Common.{◌∙◌}
use Rattle.std.proofs.lemmas.Int.{to_z-of_z}
use Rattle.builtin_functions.proofs.Exact.{Held, minus_is}
use Rattle.builtin_functions.proofs.arithmetic.negative.Goals as goal

pub returns : goal.returns
returns c =
    let x_held : Held c.args.x = c.ranges.x in
    c.exact.ensures ∙ minus_is c.args.x _ (simp to_z-of_z at c.checked_neg.ensures)
