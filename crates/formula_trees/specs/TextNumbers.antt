-- Text numbers that stand for texts.
use Rattle.std.specs.Prelude.{ℕ}
use Rattle.formula_trees.specs.Expr.{Expr, Exprs, Text, Unary, Binary, Call, End, More}

-- each text of the formula has a number of which `meant` holds
abbrev mutual
  pub TextsBelow : (ℕ → Type 0) → Expr → Type 0
  TextsBelow meant (Text t) = meant t.0
  TextsBelow meant (Unary s a) = TextsBelow meant a
  TextsBelow meant (Binary o a b) = TextsBelow meant a × TextsBelow meant b
  TextsBelow meant (Call f args) = AllTextsBelow meant args
  TextsBelow meant _ = Unit {0}

  pub AllTextsBelow : (ℕ → Type 0) → Exprs → Type 0
  AllTextsBelow meant End = Unit {0}
  AllTextsBelow meant (More a rest) = TextsBelow meant a × AllTextsBelow meant rest
