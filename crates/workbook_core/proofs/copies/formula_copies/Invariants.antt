use Rattle.std.proofs.Common.{◌≡◌, Some, take}
use Rattle.std.specs.Map.{keys_of}
use Rattle.demand_spec.specs.Book.{Content}
use Rattle.formula_trees.specs.Expr.{expr_of}
use Rattle.shared_expressions.specs.Trees.{KeepsTrees}
use Rattle.workbook_core.specs.Copies.{among, AreCopies, CopiesAreThere}
use Rattle.workbook_core.proofs.copies.formula_copies.Given as goal

abbrev pub invariant-loop-at : goal.invariant-loop-at
invariant-loop-at l = record {
  keys : keys_of l.copies.items ≡ take l.at-index l.addresses;
  copies : AreCopies l.pool (Content.Formula (expr_of l.tree)) l.copies.items;
  kept : KeepsTrees l.initial.pool l.pool;
  there : CopiesAreThere l.initial.pool (among l.addresses) (Some (Content.Formula (expr_of l.tree))) → l.pool ≡ l.initial.pool;
}
