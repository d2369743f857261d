use Rattle.shared_expressions.proofs.store.+intern.Given as goal

abbrev pub decreases-intern_args : goal.decreases-intern_args
decreases-intern_args l = goal.size-intern_args l

abbrev pub decreases-intern_tree : goal.decreases-intern_tree
decreases-intern_tree l = goal.size-intern_tree l
