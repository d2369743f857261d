-- A tree is no deeper than it has nodes.
use Rattle.std.proofs.Common.{◌≤◌, arith}
use Rattle.formula_trees.specs.Expr.{Expr, Exprs, Number, Text, Truth, Ref, Range, RefError, Unary, Binary, Call, End, More}
use Rattle.formula_trees.specs.Sound.{nodes, nodes_of}
use Rattle.shared_expressions.specs.Trees.{depth, depth_all}

mutual
  pub depth_within_nodes : (e : Expr) → depth e ≤ nodes e
  depth_within_nodes (Number n) = omega arith
  depth_within_nodes (Text t) = omega arith
  depth_within_nodes (Truth b) = omega arith
  depth_within_nodes (Ref r) = omega arith
  depth_within_nodes (Range r s) = omega arith
  depth_within_nodes RefError = omega arith
  depth_within_nodes (Unary s a) = omega (arith, depth_within_nodes a)
  depth_within_nodes (Binary o a b) = omega (arith, depth_within_nodes a, depth_within_nodes b)
  depth_within_nodes (Call f args) = omega (arith, depths_within_nodes args)

  depths_within_nodes : (args : Exprs) → depth_all args ≤ nodes_of args
  depths_within_nodes End = omega arith
  depths_within_nodes (More a rest) = omega (arith, depth_within_nodes a, depths_within_nodes rest)
