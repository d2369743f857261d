use Rattle.std.proofs.Common.{◌∙◌}
use Rattle.std.proofs.lemmas.Int.{to_z-of_z}
use Rattle.builtin_functions.proofs.Exact.{Held, number_is}
use Rattle.builtin_functions.proofs.arithmetic.sum.Goals as goal

pub returns : goal.returns
returns c =
    let x_held : Held c.args.x = c.ranges.x in
    let y_held : Held c.args.y = c.ranges.y in
    c.exact.ensures ∙ number_is _ _ (simp to_z-of_z at c.checked_add.ensures)
