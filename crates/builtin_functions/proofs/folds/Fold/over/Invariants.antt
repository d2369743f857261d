use Rattle.std.proofs.Common.{◌≡◌, None, drop}
use Rattle.builtin_functions.specs.Folds as spec
use Rattle.builtin_functions.proofs.folds.Fold.over.Given as goal

-- the walk over the values that are left ends as the walk over all of them
abbrev pub invariant-loop-v : goal.invariant-loop-v
invariant-loop-v l =
    (l.fold.kind ≡ l.fn.kind)
    × (spec.taken_all l.fn.kind l.fold.total (drop l.v-index l.values) ≡ spec.taken_all l.fn.kind None l.fn.values)
