-- What more known values do to a plan.
use Rattle.std.proofs.Common.{◌≡◌, refl, sym, ap, ◌∙◌, subst}
use Rattle.cell_values.specs.declared.address.Addr.{Addr}
use Rattle.cell_values.specs.declared.values.Value.{Value}
use Rattle.demand_spec.specs.declared.Asked.{Asked}
use Rattle.demand_spec.specs.declared.Asked.TheVariants.{Val, Needs}
use Rattle.demand_spec.specs.Plan.{Plan, Give, Demand, and_then, after, run}

-- what one look gives goes over to the other
abbrev pub KeepsValues : (Addr → Asked) → (Addr → Asked) → Type 0
KeepsValues l m = (a : Addr) (v : Value) → l a ≡ Val v → m a ≡ Val v

after_value : (r s : Asked) (f g : Value → Asked) (v : Value) → ((w : Value) → r ≡ Val w → s ≡ Val w) → ((w : Value) → f w ≡ Val v → g w ≡ Val v) → after r f ≡ Val v → after s g ≡ Val v
after_value (Val w) s f g v h k e = subst (λ z. after z g ≡ Val v) (sym (h w refl)) (k w e)
after_value (Needs x) s f g v h k e = cc

pub run_value : (l m : Addr → Asked) → KeepsValues l m → (p : Plan) (v : Value) → run l p ≡ Val v → run m p ≡ Val v
run_value l m h (Give w) v e = e
run_value l m h (Demand a k) v e = after_value (l a) (m a) (λ w. run l (k w)) (λ w. run m (k w)) v (h a) (λ w. run_value l m h (k w) v) e

after_needs : (r s : Asked) (f g : Value → Asked) (x : Addr) → ((w : Value) → r ≡ Val w → s ≡ Val w) → (r ≡ Needs x → s ≡ Needs x) → ((w : Value) → f w ≡ Needs x → g w ≡ Needs x) → after r f ≡ Needs x → after s g ≡ Needs x
after_needs (Val w) s f g x h n k e = subst (λ z. after z g ≡ Needs x) (sym (h w refl)) (k w e)
after_needs (Needs y) s f g x h n k e = subst (λ z. after z g ≡ Needs x) (sym (n e)) refl

pub run_needs : (l m : Addr → Asked) (x : Addr) → KeepsValues l m → ((a : Addr) → l a ≡ Needs x → m a ≡ Needs x) → (p : Plan) → run l p ≡ Needs x → run m p ≡ Needs x
run_needs l m x h n (Give w) e = cc
run_needs l m x h n (Demand a k) e = after_needs (l a) (m a) (λ w. run l (k w)) (λ w. run m (k w)) x (h a) (n a) (λ w. run_needs l m x h n (k w)) e

-- a plan over two parts of one whole: where the one gives a value, it has what the other needs
abbrev HasAt : (Addr → Asked) → Addr → Type 0
HasAt m y = (w : Value) × (m y ≡ Val w)

after_passed : (l m n : Addr → Asked) (y : Addr) (v : Value) (a : Addr) (f g : Value → Asked) → ((w : Value) → l a ≡ Val w → n a ≡ Val w) → ((w : Value) → m a ≡ Val w → n a ≡ Val w) → (l a ≡ Needs y → a ≡ y) → ((w : Value) → f w ≡ Needs y → g w ≡ Val v → HasAt m y) → (r s : Asked) → l a ≡ r → m a ≡ s → after r f ≡ Needs y → after s g ≡ Val v → HasAt m y
after_passed l m n y v a f g hl hm at k r (Needs z) p q e d = cc
after_passed l m n y v a f g hl hm at k (Needs x) (Val w) p q e d = (w, subst (λ z. m z ≡ Val w) (at (p ∙ e)) q)
after_passed l m n y v a f g hl hm at k (Val u) (Val w) p q e d =
    let same : w ≡ u = (let one = hl u p in let two = hm w q in cc) in
    k u e (subst (λ z. g z ≡ Val v) same d)

pub run_passed : (l m n : Addr → Asked) (y : Addr) (v : Value) → KeepsValues l n → KeepsValues m n → ((a : Addr) → l a ≡ Needs y → a ≡ y) → (p : Plan) → run l p ≡ Needs y → run m p ≡ Val v → HasAt m y
run_passed l m n y v hl hm at (Give w) e d = cc
run_passed l m n y v hl hm at (Demand a k) e d = after_passed l m n y v a (λ w. run l (k w)) (λ w. run m (k w)) (hl a) (hm a) (at a) (λ w. run_passed l m n y v hl hm at (k w)) (l a) (m a) refl refl e d

-- a plan and what follows it
pub run-and_then : (l : Addr → Asked) (p : Plan) (f : Value → Plan) → run l (and_then p f) ≡ after (run l p) (λ v. run l (f v))
run-and_then l (Give v) f = refl
run-and_then l (Demand a k) f = ap (after (l a)) (λ i w. run-and_then l (k w) f i) ∙ after_after (l a) (λ w. run l (k w)) (λ v. run l (f v))
  where
    after_after : (r : Asked) (g h : Value → Asked) → after r (λ w. after (g w) h) ≡ after (after r g) h
    after_after (Val v) g h = refl
    after_after (Needs x) g h = refl
