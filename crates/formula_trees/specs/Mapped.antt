-- A formula whose references, ranges and texts are replaced.
use Rattle.cell_values.specs.declared.interned.TextId.{TextId}
use Rattle.formula_trees.specs.declared.tree.Reference.{Reference}
use Rattle.formula_trees.specs.Expr.{Expr, Exprs, Number, Text, Truth, Ref, Range, RefError, Unary, Binary, Call, End, More}

-- each reference is replaced by what `cell` gives for it, each range by what `range` gives, each text by what `text` does
abbrev mutual
  pub mapped : (Reference → Expr) → (Reference → Reference → Expr) → (TextId → TextId) → Expr → Expr
  mapped cell range text (Number n) = Number n
  mapped cell range text (Text t) = Text (text t)
  mapped cell range text (Truth b) = Truth b
  mapped cell range text (Ref r) = cell r
  mapped cell range text (Range r s) = range r s
  mapped cell range text RefError = RefError
  mapped cell range text (Unary s a) = Unary s (mapped cell range text a)
  mapped cell range text (Binary o a b) = Binary o (mapped cell range text a) (mapped cell range text b)
  mapped cell range text (Call f args) = Call f (all_mapped cell range text args)

  pub all_mapped : (Reference → Expr) → (Reference → Reference → Expr) → (TextId → TextId) → Exprs → Exprs
  all_mapped cell range text End = End
  all_mapped cell range text (More a rest) = More (mapped cell range text a) (all_mapped cell range text rest)
