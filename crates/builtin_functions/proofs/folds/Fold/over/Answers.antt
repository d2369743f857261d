use Rattle.builtin_functions.proofs.Walks.{walk_stopped, walk_more}
use Rattle.builtin_functions.proofs.folds.Fold.over.Goals as goal

pub returns-in-Stop : goal.returns-in-Stop
returns-in-Stop c = walk_stopped _ _ _ _ _ _ c.loop-v-test.true c.loop-v.invariant c.in-Stop.ensures.go

pub loop-v-preserved : goal.loop-v-preserved
loop-v-preserved c = walk_more _ _ _ _ _ _ c.loop-v-test.true c.loop-v.invariant c.in_default.ensures.go c.in_default.ensures.fold
