-- Expressions by number, and their parts.
use Rattle.std.specs.Prelude.{◌≡◌, ℕ, zero, suc, ◌<◌, ◌≤◌, max, Option, Some, None, List, length, slice_index_or}
use Rattle.formula_trees.specs.Expr.{Expr, Exprs, End, More}
use Rattle.shared_expressions.specs.declared.nodes.ExprId.{ExprId}
use Rattle.shared_expressions.specs.declared.nodes.Node.{Node}

-- the expressions of a pool, each with its number
abbrev pub Trees : Type 0
Trees = List Expr

abbrev pub expr_at : Trees → ℕ → Expr
expr_at p i = slice_index_or p i Expr.RefError

-- the tree for which an id stands; `#REF!` for an id that is none of the pool's
abbrev pub tree_at : Trees → ExprId → Expr
tree_at p id = expr_at p id.0

abbrev pub root_of : Expr → Node
root_of (Expr.Number n) = Node.Number n
root_of (Expr.Text t) = Node.Text t
root_of (Expr.Truth b) = Node.Bool b
root_of (Expr.Ref r) = Node.Ref r
root_of (Expr.Range r s) = Node.Range r s
root_of Expr.RefError = Node.RefError
root_of (Expr.Unary s a) = Node.Unary s
root_of (Expr.Binary o a b) = Node.Binary o
root_of (Expr.Call f args) = Node.Call f

-- an argument by its number
abbrev pub nth : ℕ → Exprs → Option Expr
nth k End = None
nth zero (More a rest) = Some a
nth (suc k) (More a rest) = nth k rest

abbrev pub only : ℕ → Expr → Option Expr
only zero a = Some a
only (suc k) a = None

abbrev pub one_of : ℕ → Expr → Expr → Option Expr
one_of zero a b = Some a
one_of (suc k) a b = only k b

-- an operand or argument of the root by its number from the left
abbrev pub child_of : ℕ → Expr → Option Expr
child_of k (Expr.Unary s a) = only k a
child_of k (Expr.Binary o a b) = one_of k a b
child_of k (Expr.Call f args) = nth k args
child_of k _ = None

-- how many nodes stand on the longest way down from the root
abbrev mutual
  pub depth : Expr → ℕ
  depth (Expr.Unary s a) = suc (depth a)
  depth (Expr.Binary o a b) = suc (max (depth a) (depth b))
  depth (Expr.Call f args) = suc (depth_all args)
  depth _ = 1

  pub depth_all : Exprs → ℕ
  depth_all End = 0
  depth_all (More a rest) = max (depth a) (depth_all rest)

-- the old ids stand for their trees, and there may be more
pub record KeepsTrees (old new : Trees) : Type 0 where
  pub longer : length old ≤ length new
  pub keeps : (i : ℕ) → i < length old → expr_at new i ≡ expr_at old i

-- the id stands for the tree, and no other one does
pub record StandsFor (p : Trees) (id : ExprId) (e : Expr) : Type 0 where
  pub there : id.0 < length p
  pub same : tree_at p id ≡ e
  pub alone : (i : ℕ) → i < length p → expr_at p i ≡ e → i ≡ id.0

-- one of the expressions is the tree
pub record IsThere (p : Trees) (e : Expr) : Type 0 where
  pub number : ℕ
  pub within : number < length p
  pub same : expr_at p number ≡ e
