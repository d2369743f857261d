-- Sheet numbers that stand for sheets.
use Rattle.std.specs.Prelude.{ℕ, ◌<◌, Option, Some, None}
use Rattle.formula_trees.specs.Expr.{Expr, Exprs, Ref, Range, Unary, Binary, Call, End, More}

-- the sheet, where one is named, is one of so many
abbrev pub SheetBelow : ℕ → Option ℕ → Type 0
SheetBelow count (Some s) = s < count
SheetBelow count None = Unit {0}

-- each sheet that the formula names is one of so many
abbrev mutual
  pub SheetsBelow : ℕ → Expr → Type 0
  SheetsBelow count (Ref r) = SheetBelow count r.sheet
  SheetsBelow count (Range r s) = SheetBelow count r.sheet
  SheetsBelow count (Unary s a) = SheetsBelow count a
  SheetsBelow count (Binary o a b) = SheetsBelow count a × SheetsBelow count b
  SheetsBelow count (Call f args) = AllSheetsBelow count args
  SheetsBelow count _ = Unit {0}

  pub AllSheetsBelow : ℕ → Exprs → Type 0
  AllSheetsBelow count End = Unit {0}
  AllSheetsBelow count (More a rest) = SheetsBelow count a × AllSheetsBelow count rest
