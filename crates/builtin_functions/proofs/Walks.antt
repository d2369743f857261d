-- A walk over a list of values, one value after the other.
use Rattle.std.proofs.Common.{◌≡◌, ℕ, ◌+◌, ◌<◌, suc, Bool, List, length, get_or, drop, None, Result, Ok, Err, sym, ap, ◌∙◌, add-one}
use Rattle.std.proofs.Math.Seq.{drop-cons}
use Rattle.cell_values.specs.declared.values.Code.{Code}
use Rattle.cell_values.specs.declared.values.Value.{Value}
use Rattle.builtin_functions.specs.declared.folds.FoldKind.{FoldKind}
use Rattle.builtin_functions.specs.declared.folds.Fold.{Fold}
use Rattle.builtin_functions.specs.declared.folds.Go.{Go}
use Rattle.builtin_functions.specs.Folds.{Total, taken, taken_all, and_then_take, goes_on, fold_after, fold_value, walk_value}

-- the value at i ends the walk
pub walk_stopped : (k : FoldKind) (f : Fold) (vs : List (Value × Bool)) (i : ℕ) (d : Value × Bool) (e : Code)
    → i < length vs
    → (f.kind ≡ k) × (taken_all k f.total (drop i vs) ≡ taken_all k None vs)
    → Go.Stop e ≡ goes_on (taken f.kind f.total (get_or vs i d).1 (get_or vs i d).0)
    → Value.Error e ≡ fold_value k vs
walk_stopped k f vs i d e h inv s =
    ap walk_value
    (sym
    (sym inv.1
    ∙ ap (taken_all k f.total) (drop-cons vs i d h)
    ∙ ap (λ r. and_then_take r (λ u. taken_all k u (drop (suc i) vs)))
    (ap (λ m. taken m f.total (get_or vs i d).1 (get_or vs i d).0) (sym inv.0) ∙ ended _ s)))
  where
    ended : (r : Result Total Code) → Go.Stop e ≡ goes_on r → r ≡ Err e
    ended (Ok t) s = cc
    ended (Err c) s = cc

-- the walk goes on after the value at i
pub walk_more : (k : FoldKind) (f g : Fold) (vs : List (Value × Bool)) (i : ℕ) (d : Value × Bool)
    → i < length vs
    → (f.kind ≡ k) × (taken_all k f.total (drop i vs) ≡ taken_all k None vs)
    → Go.More ≡ goes_on (taken f.kind f.total (get_or vs i d).1 (get_or vs i d).0)
    → g ≡ fold_after f (taken f.kind f.total (get_or vs i d).1 (get_or vs i d).0)
    → (g.kind ≡ k) × (taken_all k g.total (drop (i + 1) vs) ≡ taken_all k None vs)
walk_more k f g vs i d h inv s a = went (taken f.kind f.total (get_or vs i d).1 (get_or vs i d).0) (ap (λ m. taken m f.total (get_or vs i d).1 (get_or vs i d).0) (sym inv.0)) s a
  where
    went : (r : Result Total Code) → taken k f.total (get_or vs i d).1 (get_or vs i d).0 ≡ r → Go.More ≡ goes_on r → g ≡ fold_after f r
        → (g.kind ≡ k) × (taken_all k g.total (drop (i + 1) vs) ≡ taken_all k None vs)
    went (Err c) q s a = absurd (cc)
    went (Ok t) q s a = (
      ap (λ x. x.kind) a ∙ inv.0,
      ap (λ x. taken_all k x.total (drop (i + 1) vs)) a
          ∙ ap (λ j. taken_all k t (drop j vs)) (add-one i)
          ∙ sym
          (ap (taken_all k f.total) (drop-cons vs i d h)
          ∙ ap (λ r. and_then_take r (λ u. taken_all k u (drop (suc i) vs))) q)
          ∙ inv.1,
    )
