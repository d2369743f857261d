-- Formulas told apart by trees of numbers, so that a model may hold them.
use Rattle.std.specs.Prelude.{◌≡◌, ℕ, T, eqb, refl}
use Rattle.std.specs.Coded.{Coded, coded_ℤ, coded_bool}
use base.Stored.{Gv, gnil, gnum, gcons, num}
use mathlib.Core.Path.{ap, subst}
use Rattle.cell_values.specs.contracts.interned.TextId as text
use Rattle.formula_trees.specs.contracts.tree.Reference as reference
use Rattle.formula_trees.specs.contracts.tree.Sign as sign
use Rattle.formula_trees.specs.contracts.tree.Op as op
use Rattle.formula_trees.specs.contracts.tree.Fun as fun
use Rattle.formula_trees.specs.Expr.{Expr, Exprs, Number, Text, Truth, Ref, Range, RefError, Unary, Binary, Call, End, More}

abbrev head : Gv → Gv
head (gcons a b) = a
head _ = gnil

abbrev tail : Gv → Gv
tail (gcons a b) = b
tail _ = gnil

abbrev tag : Gv → ℕ
tag g = num (head g)

abbrev mutual
  pub code_of_expr : Expr → Gv
  code_of_expr (Number z) = gcons (gnum 0) (coded_ℤ.code z)
  code_of_expr (Text t) = gcons (gnum 1) ((text.the_row).coded.code t)
  code_of_expr (Truth b) = gcons (gnum 2) (coded_bool.code b)
  code_of_expr (Ref r) = gcons (gnum 3) ((reference.the_row).coded.code r)
  code_of_expr (Range r s) = gcons (gnum 4) (gcons ((reference.the_row).coded.code r) ((reference.the_row).coded.code s))
  code_of_expr RefError = gcons (gnum 5) gnil
  code_of_expr (Unary s a) = gcons (gnum 6) (gcons ((sign.the_row).coded.code s) (code_of_expr a))
  code_of_expr (Binary o a b) = gcons (gnum 7) (gcons ((op.the_row).coded.code o) (gcons (code_of_expr a) (code_of_expr b)))
  code_of_expr (Call f args) = gcons (gnum 8) (gcons ((fun.the_row).coded.code f) (code_of_exprs args))

  pub code_of_exprs : Exprs → Gv
  code_of_exprs End = gcons (gnum 0) gnil
  code_of_exprs (More a rest) = gcons (gnum 1) (gcons (code_of_expr a) (code_of_exprs rest))

-- two codes with different tags
apart : (n : ℕ) (g h : Gv) → g ≡ h → T (eqb n (tag g)) → T (eqb n (tag h))
apart n g h p = subst (λ z. T (eqb n (tag z))) p

mutual
  pub code_inj : (x y : Expr) → code_of_expr x ≡ code_of_expr y → x ≡ y
  code_inj (Number a) (Number b) p = ap Number (coded_ℤ.inj a b (ap tail p))
  code_inj (Text a) (Text b) p = ap Text ((text.the_row).coded.inj a b (ap tail p))
  code_inj (Truth a) (Truth b) p = ap Truth (coded_bool.inj a b (ap tail p))
  code_inj (Ref a) (Ref b) p = ap Ref ((reference.the_row).coded.inj a b (ap tail p))
  code_inj (Range a b) (Range c d) p = λ i. Range ((reference.the_row).coded.inj a c (ap (λ g. head (tail g)) p) i) ((reference.the_row).coded.inj b d (ap (λ g. tail (tail g)) p) i)
  code_inj RefError RefError p = refl
  code_inj (Unary s a) (Unary t b) p = λ i. Unary ((sign.the_row).coded.inj s t (ap (λ g. head (tail g)) p) i) (code_inj a b (ap (λ g. tail (tail g)) p) i)
  code_inj (Binary o a b) (Binary q c d) p = λ i. Binary ((op.the_row).coded.inj o q (ap (λ g. head (tail g)) p) i) (code_inj a c (ap (λ g. head (tail (tail g))) p) i) (code_inj b d (ap (λ g. tail (tail (tail g))) p) i)
  code_inj (Call f a) (Call g b) p = λ i. Call ((fun.the_row).coded.inj f g (ap (λ z. head (tail z)) p) i) (codes_inj a b (ap (λ z. tail (tail z)) p) i)
  code_inj (Number a) y p = absurd (apart 0 (code_of_expr (Number a)) (code_of_expr y) p tt)
  code_inj (Text a) y p = absurd (apart 1 (code_of_expr (Text a)) (code_of_expr y) p tt)
  code_inj (Truth a) y p = absurd (apart 2 (code_of_expr (Truth a)) (code_of_expr y) p tt)
  code_inj (Ref a) y p = absurd (apart 3 (code_of_expr (Ref a)) (code_of_expr y) p tt)
  code_inj (Range a b) y p = absurd (apart 4 (code_of_expr (Range a b)) (code_of_expr y) p tt)
  code_inj RefError y p = absurd (apart 5 (code_of_expr RefError) (code_of_expr y) p tt)
  code_inj (Unary s a) y p = absurd (apart 6 (code_of_expr (Unary s a)) (code_of_expr y) p tt)
  code_inj (Binary o a b) y p = absurd (apart 7 (code_of_expr (Binary o a b)) (code_of_expr y) p tt)
  code_inj (Call f a) y p = absurd (apart 8 (code_of_expr (Call f a)) (code_of_expr y) p tt)

  pub codes_inj : (x y : Exprs) → code_of_exprs x ≡ code_of_exprs y → x ≡ y
  codes_inj End End p = refl
  codes_inj (More a r) (More b s) p = λ i. More (code_inj a b (ap (λ g. head (tail g)) p) i) (codes_inj r s (ap (λ g. tail (tail g)) p) i)
  codes_inj End (More b s) p = absurd (apart 0 (code_of_exprs End) (code_of_exprs (More b s)) p tt)
  codes_inj (More a r) End p = absurd (apart 1 (code_of_exprs (More a r)) (code_of_exprs End) p tt)

abbrev pub expr_code : Coded Expr
expr_code = record { code = code_of_expr; inj = code_inj }
