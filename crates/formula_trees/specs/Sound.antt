-- Which trees are formulas' at a cell.
use Rattle.std.specs.Prelude.{◌≡◌, ℕ, suc, ◌+◌, ◌*◌, ◌≤◌, max, ℤ, pos, int_le, ◌&&◌, false, cond, nat_lt, IsTrue, IsSome, IsSomeAnd}
use Rattle.cell_values.specs.declared.address.Addr.{Addr}
use Rattle.cell_values.specs.declared.TheConstants.{MAX_RANGE_CELLS}
use Rattle.cell_values.specs.Areas.{height, width}
use Rattle.cell_values.specs.Numbers.{fits}
use Rattle.formula_trees.specs.declared.tree.Reference.{Reference}
use Rattle.formula_trees.specs.declared.tree.Op.{Op}
use Rattle.formula_trees.specs.declared.tree.Fun.{Fun}
use Rattle.formula_trees.specs.Expr.{Expr, Exprs, Number, Text, Truth, Ref, Range, RefError, Unary, Binary, Call, End, More}
use Rattle.formula_trees.specs.References.{resolve, area_of}
use Rattle.formula_trees.specs.declared.functions.Kind.{Kind}
use Rattle.formula_trees.specs.declared.functions.Kind.TheVariants.{Plain, Place, Many, Exact}
use Rattle.formula_trees.specs.declared.TheConstants.{MAX_NODES, MAX_LEVELS}
use Rattle.formula_trees.specs.declared.levels.TheConstants.{COMPARISON_LEVEL, JOIN_LEVEL, SUM_LEVEL, TERM_LEVEL, SIGN_LEVEL, OPERAND_LEVEL}
use Rattle.formula_trees.specs.Functions.{kind_of, enough, takes_more}

-- a number that a formula may spell
abbrev pub IsLiteral : ℤ → Type 0
IsLiteral n = IsTrue (int_le (pos 0) n && fits n)

-- both corners lie inside the sheet, on the same sheet, and the rectangle has at most 65,536 cells
pub record IsRange (at : Addr) (r s : Reference) : Type 0 where
  pub one_sheet : r.sheet ≡ s.sheet
  pub small : IsSomeAnd (area_of at r s) (λ a. height a * width a ≤ MAX_RANGE_CELLS)

-- a number of value 0, or FALSE
abbrev pub IsExact : Expr → Type 0
IsExact (Number n) = n ≡ pos 0
IsExact (Truth b) = b ≡ false
IsExact _ = ⊥

-- a reference, a range or `#REF!`
abbrev pub IsPlace : Addr → Expr → Type 0
IsPlace at (Ref r) = IsSome (resolve at r)
IsPlace at (Range r s) = IsRange at r s
IsPlace at RefError = Unit {0}
IsPlace at _ = ⊥

-- a range, or what else the second one says
abbrev pub RangeOr : Addr → Expr → Type 0 → Type 0
RangeOr at (Range r s) P = IsRange at r s
RangeOr at _ P = P

abbrev pub OfKind : Addr → Kind → Expr → Type 0 → Type 0
OfKind at Plain e P = P
OfKind at Place e P = IsPlace at e
OfKind at Many e P = RangeOr at e P
OfKind at Exact e P = IsExact e

-- calls have the arguments of the table, ranges stand only where they may, and all lies inside the sheet
abbrev mutual
  pub IsExpression : Addr → Expr → Type 0
  IsExpression at (Number n) = IsLiteral n
  IsExpression at (Text t) = Unit {0}
  IsExpression at (Truth b) = Unit {0}
  IsExpression at (Ref r) = IsSome (resolve at r)
  IsExpression at (Range r s) = ⊥
  IsExpression at RefError = Unit {0}
  IsExpression at (Unary s a) = IsExpression at a
  IsExpression at (Binary o a b) = IsExpression at a × IsExpression at b
  IsExpression at (Call f args) = HasArguments at f 0 args

  -- the arguments behind the first `n`
  pub HasArguments : Addr → Fun → ℕ → Exprs → Type 0
  HasArguments at f n End = IsTrue (enough f n)
  HasArguments at f n (More a rest) = IsTrue (takes_more f n) × OfKind at (kind_of f n) a (IsExpression at a) × HasArguments at f (suc n) rest

-- each literal, reference, range, `#REF!`, sign, operator and call is one node
abbrev mutual
  pub nodes : Expr → ℕ
  nodes (Unary s a) = suc (nodes a)
  nodes (Binary o a b) = suc (nodes a + nodes b)
  nodes (Call f args) = suc (nodes_of args)
  nodes _ = 1

  pub nodes_of : Exprs → ℕ
  nodes_of End = 0
  nodes_of (More a rest) = nodes a + nodes_of rest

-- the level of an operator
abbrev pub op_level : Op → ℕ
op_level Op.Add = SUM_LEVEL
op_level Op.Sub = SUM_LEVEL
op_level Op.Mul = TERM_LEVEL
op_level Op.Div = TERM_LEVEL
op_level Op.Join = JOIN_LEVEL
op_level Op.Eq = COMPARISON_LEVEL
op_level Op.Ne = COMPARISON_LEVEL
op_level Op.Lt = COMPARISON_LEVEL
op_level Op.Le = COMPARISON_LEVEL
op_level Op.Gt = COMPARISON_LEVEL
op_level Op.Ge = COMPARISON_LEVEL

-- the level of a tree's root
abbrev pub level_of : Expr → ℕ
level_of (Unary s a) = SIGN_LEVEL
level_of (Binary o a b) = op_level o
level_of _ = OPERAND_LEVEL

-- parentheses open one more, where the root's level is lower than asked for
abbrev pub in_parentheses : ℕ → Expr → ℕ → ℕ
in_parentheses least e inner = cond (nat_lt (level_of e) least) (suc inner) inner

-- how many levels the printed formula opens at once: one at each `(` and each sign
abbrev mutual
  pub levels : Expr → ℕ
  levels (Unary s a) = suc (in_parentheses SIGN_LEVEL a (levels a))
  levels (Binary o a b) = max (in_parentheses (op_level o) a (levels a)) (in_parentheses (suc (op_level o)) b (levels b))
  levels (Call f args) = suc (levels_of args)
  levels _ = 0

  pub levels_of : Exprs → ℕ
  levels_of End = 0
  levels_of (More a rest) = max (levels a) (levels_of rest)

-- the tree is a formula's at the cell
pub record IsSound (at : Addr) (e : Expr) : Type 0 where
  pub shape : IsExpression at e
  pub small : nodes e ≤ MAX_NODES
  pub flat : levels e ≤ MAX_LEVELS
