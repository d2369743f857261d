use Rattle.puncalc_program.proofs.Sums.{wrapped_more}
use Rattle.puncalc_program.proofs.tally.sum_shown.Goals as goal

pub loop-shown-preserved : goal.loop-shown-preserved
loop-shown-preserved c =
    wrapped_more c.args.shows.now c.loop-shown.shown-index _ c.number_shown-sum.result c.loop-shown.sum-bits c.loop-shown-test.true c.loop-shown.auto.sum.fits (record { sfits = c.number_shown-sum.type_inv }) c.loop-shown.invariant c.number_shown-sum.ensures
