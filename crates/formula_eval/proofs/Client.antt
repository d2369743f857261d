-- Small books of tests.
use Rattle.std.proofs.Common.{◌≡◌, ◌⊎◌, Bool, true, false, cond, inl, inr, Option, Some, None, Ok, List, [], ◌∷◌, ◌++◌, length, take, min, refl, ap, subst, arith}
use Rattle.std.proofs.lemmas.List.{length-take}
use Rattle.cell_values.specs.declared.address.Addr.{Addr}
use Rattle.cell_values.specs.declared.values.Value.{Value}
use Rattle.cell_values.specs.Addresses.{same_addr}
use Rattle.cell_values.specs.Texts.{Texts, IsTextOf}
use Rattle.cell_values.specs.Interned.{KeepsTexts}
use Rattle.cell_values.specs.declared.interned.TextId.{TextId}
use Rattle.cell_values.specs.Values.{IsValueOf}
use Rattle.formula_trees.specs.Expr.{Expr}
use Rattle.demand_spec.specs.declared.Asked.TheVariants.{Val}
use Rattle.demand_spec.specs.Asks.{any_value}
use Rattle.demand_spec.specs.Book.{Book, look, look_at, formula_at, own}
use Rattle.cell_values.specs.Order.{entry_at}
use Rattle.demand_spec.specs.Listed.{AreKnownOf}
use Rattle.demand_spec.proofs.Texts.{look_text}
use Rattle.formula_eval.specs.declared.machine.Look.{Look}
use Rattle.formula_eval.specs.Evaluations.{found_as, MeansValue}
use Rattle.formula_eval.specs.Laws.{IsKept}
use Rattle.formula_eval.specs.Client.{Sight, IsSight, look_on}

-- a text keeps its number
pub texts_kept : (ts us : Texts) (t : TextId) → KeepsTexts ts us → IsTextOf ts t → IsTextOf us t
texts_kept ts us t h l =
    let e : length (take (length ts) us) ≡ length ts = ap length h in
    let m : length (take (length ts) us) ≡ min (length ts) (length us) = length-take (length ts) us in
    omega arith

-- a value that is told last is found only where none was told before
pushed_one : (b : Bool) (w v : Value) → cond b (Some w) None ≡ Some v → w ≡ v
pushed_one true w v h = cc
pushed_one false w v h = absurd (cc)

pushed_on : (b : Bool) (u w v : Value) (x y : Option Value) → (y ≡ Some v → (x ≡ Some v) ⊎ (w ≡ v)) → cond b (Some u) y ≡ Some v → (cond b (Some u) x ≡ Some v) ⊎ (w ≡ v)
pushed_on true u w v x y f h = inl h
pushed_on false u w v x y f h = f h

pushed : (told : List (Addr × Value)) (k : Addr × Value) (a : Addr) (v : Value) → entry_at (told ++ k ∷ []) a ≡ Some v → (entry_at told a ≡ Some v) ⊎ (k.1 ≡ v)
pushed [] k a v h = inr (pushed_one (same_addr a k.0) k.1 v h)
pushed (t ∷ told) k a v h = pushed_on (same_addr a t.0) t.1 k.1 v (entry_at told a) (entry_at (told ++ k ∷ []) a) (pushed told k a v) h

pub told_push : (ts : Texts) (told : List (Addr × Value)) (k : Addr × Value) → AreKnownOf ts (entry_at told) → IsValueOf ts k.1 → AreKnownOf ts (entry_at (told ++ k ∷ []))
told_push ts told k h w a v e = by_case (pushed told k a v e)
  where
    by_case : (entry_at told a ≡ Some v) ⊎ (k.1 ≡ v) → IsValueOf ts v
    by_case (inl x) = h a v x
    by_case (inr x) = subst (IsValueOf ts) x w

-- what was told before is found still
kept_on : (b : Bool) (u w : Value) (x y : Option Value) → (x ≡ Some w → y ≡ Some w) → cond b (Some u) x ≡ Some w → cond b (Some u) y ≡ Some w
kept_on true u w x y f h = h
kept_on false u w x y f h = f h

kept : (told : List (Addr × Value)) (k : Addr × Value) (a : Addr) (w : Value) → entry_at told a ≡ Some w → entry_at (told ++ k ∷ []) a ≡ Some w
kept [] k a w h = absurd (cc)
kept (t ∷ told) k a w h = kept_on (same_addr a t.0) t.1 w (entry_at told a) (entry_at (told ++ k ∷ []) a) (kept told k a w) h

look_kept : (o : Option Expr) (u : Value) (x y : Option Value) (a : Addr) (v : Value) → ((w : Value) → x ≡ Some w → y ≡ Some w) → look_at o u x a ≡ Val v → look_at o u y a ≡ Val v
look_kept None u x y a v f h = h
look_kept (Some t) u None y a v f h = absurd (cc)
look_kept (Some t) u (Some w) y a v f h = rw (f w refl) h

pub kept_push : (b : Book) (told : List (Addr × Value)) (k : Addr × Value) → IsKept (look b (entry_at told)) (look b (entry_at (told ++ k ∷ [])))
kept_push b told k a v h = look_kept (formula_at b a) (own b a) (entry_at told a) (entry_at (told ++ k ∷ []) a) a v (kept told k a) h

pub seen_text : (s : Sight) → IsSight s → (r : Look) (at : Addr) → found_as r at ≡ look_on s at → MeansValue s.texts r
seen_text s h (Look.Val v) at e = look_text (record { cells = s.cells; texts = s.texts; known = s.told }) (record { cells_of = h.cells_of; known_of = h.told_of }) at (Ok v) (ap any_value e)
seen_text s h Look.Missing at e = tt
