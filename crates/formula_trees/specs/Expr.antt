-- Formulas without the places in memory that a `Tree` has.
use Rattle.std.specs.Prelude.{Bool, ℤ}
use Rattle.cell_values.specs.declared.interned.TextId.{TextId}
use Rattle.formula_trees.specs.declared.tree.Reference.{Reference}
use Rattle.formula_trees.specs.declared.tree.Sign.{Sign}
use Rattle.formula_trees.specs.declared.tree.Op.{Op}
use Rattle.formula_trees.specs.declared.tree.Fun.{Fun}
use Rattle.formula_trees.specs.declared.tree.Tree.{Tree, Unary', Binary'}
use Rattle.formula_trees.specs.declared.tree.Args.{Args, More'}

mutual
  pub data Expr : Type 0 where
    Number : ℤ → Expr
    Text : TextId → Expr
    Truth : Bool → Expr
    Ref : Reference → Expr
    Range : Reference → Reference → Expr
    RefError : Expr
    Unary : Sign → Expr → Expr
    Binary : Op → Expr → Expr → Expr
    Call : Fun → Exprs → Expr

  pub data Exprs : Type 0 where
    End : Exprs
    More : Expr → Exprs → Exprs

abbrev mutual
  pub expr_of : Tree → Expr
  expr_of (Tree.Number n) = Number n
  expr_of (Tree.Text t) = Text t
  expr_of (Tree.Bool b) = Truth b
  expr_of (Tree.Ref r) = Ref r
  expr_of (Tree.Range r s) = Range r s
  expr_of Tree.RefError = RefError
  expr_of (Unary' s p a) = Unary s (expr_of a)
  expr_of (Binary' o p a q b) = Binary o (expr_of a) (expr_of b)
  expr_of (Tree.Call f args) = Call f (exprs_of args)

  pub exprs_of : Args → Exprs
  exprs_of Args.End = End
  exprs_of (More' p a q rest) = More (expr_of a) (exprs_of rest)
