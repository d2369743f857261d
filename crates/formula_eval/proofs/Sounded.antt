-- Sound formulas have calls with the arguments that their functions take.
use Rattle.std.proofs.Common.{◌≡◌, ℕ, suc, true, false}
use Rattle.cell_values.specs.declared.address.Addr.{Addr}
use Rattle.formula_trees.specs.declared.tree.Fun.{Fun}
use Rattle.formula_trees.specs.Expr.{Expr, Exprs, End, More}
use Rattle.formula_trees.specs.declared.functions.Kind.{Kind}
use Rattle.formula_trees.specs.declared.functions.Kind.TheVariants.{Plain, Place, Many, Exact}
use Rattle.formula_trees.specs.Functions.{kind_of}
use Rattle.formula_trees.specs.Sound.{IsExpression, HasArguments, OfKind}
use Rattle.formula_eval.specs.Machine.{IsCall, IsCovered, AreCovered}

never : false ≡ true → ⊥
never h = cc

call_from : (at : Addr) (f : Fun) (args : Exprs) → HasArguments at f 0 args → IsCall f args
call_from at Fun.If End h = absurd (never h)
call_from at Fun.If (More a End) h = absurd (never h.2)
call_from at Fun.If (More a (More b End)) h = tt
call_from at Fun.If (More a (More b (More c End))) h = tt
call_from at Fun.If (More a (More b (More c (More d r)))) h = absurd (never h.2.2.2.0)
call_from at Fun.Not End h = absurd (never h)
call_from at Fun.Not (More a End) h = tt
call_from at Fun.Not (More a (More b r)) h = absurd (never h.2.0)
call_from at Fun.Choose End h = absurd (never h)
call_from at Fun.Choose (More a End) h = absurd (never h.2)
call_from at Fun.Choose (More a (More b r)) h = tt
call_from at Fun.IfError End h = absurd (never h)
call_from at Fun.IfError (More a End) h = absurd (never h.2)
call_from at Fun.IfError (More a (More b End)) h = tt
call_from at Fun.IfError (More a (More b (More c r))) h = absurd (never h.2.2.0)
call_from at Fun.IsError End h = absurd (never h)
call_from at Fun.IsError (More a End) h = tt
call_from at Fun.IsError (More a (More b r)) h = absurd (never h.2.0)
call_from at Fun.Abs End h = absurd (never h)
call_from at Fun.Abs (More a End) h = tt
call_from at Fun.Abs (More a (More b r)) h = absurd (never h.2.0)
call_from at Fun.Mod End h = absurd (never h)
call_from at Fun.Mod (More a End) h = absurd (never h.2)
call_from at Fun.Mod (More a (More b End)) h = tt
call_from at Fun.Mod (More a (More b (More c r))) h = absurd (never h.2.2.0)
call_from at Fun.Quotient End h = absurd (never h)
call_from at Fun.Quotient (More a End) h = absurd (never h.2)
call_from at Fun.Quotient (More a (More b End)) h = tt
call_from at Fun.Quotient (More a (More b (More c r))) h = absurd (never h.2.2.0)
call_from at Fun.Index End h = absurd (never h)
call_from at Fun.Index (More a End) h = absurd (never h.2)
call_from at Fun.Index (More a (More b End)) h = absurd (never h.2.2)
call_from at Fun.Index (More a (More b (More c End))) h = tt
call_from at Fun.Index (More a (More b (More c (More d r)))) h = absurd (never h.2.2.2.0)
call_from at Fun.Match End h = absurd (never h)
call_from at Fun.Match (More a End) h = absurd (never h.2)
call_from at Fun.Match (More a (More b r)) h = tt
call_from at Fun.VLookup End h = absurd (never h)
call_from at Fun.VLookup (More a End) h = absurd (never h.2)
call_from at Fun.VLookup (More a (More b End)) h = absurd (never h.2.2)
call_from at Fun.VLookup (More a (More b (More c r))) h = tt
call_from at Fun.HLookup End h = absurd (never h)
call_from at Fun.HLookup (More a End) h = absurd (never h.2)
call_from at Fun.HLookup (More a (More b End)) h = absurd (never h.2.2)
call_from at Fun.HLookup (More a (More b (More c r))) h = tt
call_from at Fun.Left End h = absurd (never h)
call_from at Fun.Left (More a End) h = tt
call_from at Fun.Left (More a (More b End)) h = tt
call_from at Fun.Left (More a (More b (More c r))) h = absurd (never h.2.2.0)
call_from at Fun.Right End h = absurd (never h)
call_from at Fun.Right (More a End) h = tt
call_from at Fun.Right (More a (More b End)) h = tt
call_from at Fun.Right (More a (More b (More c r))) h = absurd (never h.2.2.0)
call_from at Fun.Mid End h = absurd (never h)
call_from at Fun.Mid (More a End) h = absurd (never h.2)
call_from at Fun.Mid (More a (More b End)) h = absurd (never h.2.2)
call_from at Fun.Mid (More a (More b (More c End))) h = tt
call_from at Fun.Mid (More a (More b (More c (More d r)))) h = absurd (never h.2.2.2.0)
call_from at Fun.Len End h = absurd (never h)
call_from at Fun.Len (More a End) h = tt
call_from at Fun.Len (More a (More b r)) h = absurd (never h.2.0)
call_from at Fun.And args h = tt
call_from at Fun.Or args h = tt
call_from at Fun.Sum args h = tt
call_from at Fun.Min args h = tt
call_from at Fun.Max args h = tt
call_from at Fun.Count args h = tt

kind_covered : (at : Addr) (k : Kind) (e : Expr) → (IsExpression at e → IsCovered e) → OfKind at k e (IsExpression at e) → IsCovered e
kind_covered at Plain e f h = f h
kind_covered at Place (Expr.Ref r) f h = tt
kind_covered at Place (Expr.Range r s) f h = tt
kind_covered at Place Expr.RefError f h = tt
kind_covered at Place e f h = absurd h
kind_covered at Many (Expr.Range r s) f h = tt
kind_covered at Many e f h = f h
kind_covered at Exact (Expr.Number n) f h = tt
kind_covered at Exact (Expr.Truth b) f h = tt
kind_covered at Exact e f h = absurd h

mutual
  pub covered_from : (at : Addr) (e : Expr) → IsExpression at e → IsCovered e
  covered_from at (Expr.Unary s a) h = covered_from at a h
  covered_from at (Expr.Binary o a b) h = (covered_from at a h.0, covered_from at b h.1)
  covered_from at (Expr.Call f args) h = (call_from at f args h, args_covered at f 0 args h)
  covered_from at (Expr.Number n) h = tt
  covered_from at (Expr.Text n) h = tt
  covered_from at (Expr.Truth n) h = tt
  covered_from at (Expr.Ref n) h = tt
  covered_from at (Expr.Range n m) h = tt
  covered_from at Expr.RefError h = tt

  args_covered : (at : Addr) (f : Fun) (n : ℕ) (args : Exprs) → HasArguments at f n args → AreCovered args
  args_covered at f n End h = tt
  args_covered at f n (More a rest) h = (kind_covered at (kind_of f n) a (covered_from at a) h.1, args_covered at f (suc n) rest h.2)
