use Rattle.std.proofs.Common.{◌≡◌, ◌≤◌, ◌+◌, ◌*◌, drop}
use Rattle.formula_trees.specs.Expr.{exprs_of}
use Rattle.shared_expressions.specs.Stored.{row, parts, entry_at, trees}
use Rattle.shared_expressions.proofs.copies.+tree.Given as goal

abbrev pub decreases-tree_from : goal.decreases-tree_from
decreases-tree_from l = 2 * l.id + 1

abbrev pub decreases-args_from : goal.decreases-args_from
decreases-args_from l = 2 * l.id

abbrev pub invariant-args_from-loop-k : goal.invariant-args_from-loop-k
invariant-args_from-loop-k l = record {
  within : l.k ≤ (entry_at l.store.entries.items l.id).count;
  same : exprs_of l.args ≡ row (trees l.store) (drop l.k (parts l.store.children.items (entry_at l.store.entries.items l.id)));
}

abbrev pub decreases-args_from-loop-k : goal.decreases-args_from-loop-k
decreases-args_from-loop-k l = l.k
