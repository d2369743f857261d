use Rattle.std.proofs.Common.{◌≡◌, ◌++◌, string_bytes, codes, subst}
use Rattle.std.specs.Prelude.{IfOk}
use Rattle.puncalc_program.proofs.Sums.{sum_told}
use Rattle.puncalc_program.proofs.tally.sum_part.Goals as goal

pub returns : goal.returns
returns c =
    subst (λ t. IfOk c.format.result (λ line. string_bytes line ≡ codes " sum " ++ (t ++ codes "\n")))
    (sum_told (string_bytes c.in_ok-sum.sum) c.sum_shown-total.result c.args.shows.now c.in_ok-sum.ensures c.sum_shown-total.ensures)
    c.format.ensures.ok
