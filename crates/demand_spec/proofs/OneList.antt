-- Lists in order: what stands in them, and that the same look-ups, or the same members, make one list.
use Rattle.std.proofs.Common.{◌≡◌, Bool, true, false, cond, inl, inr, ⊎_elim, List, [], ◌∷◌, Option, Some, None, refl, sym, ap, ◌∙◌, subst}
use Rattle.std.specs.Prelude.{◌↔◌}
use Rattle.cell_values.specs.declared.address.Addr.{Addr}
use Rattle.cell_values.specs.Addresses.{same_addr, IsBefore}
use Rattle.cell_values.specs.Order.{IsBeforeAll, InOrder, addresses, entry_at}
use Rattle.cell_values.proofs.Order.{same_addr-refl, same_addr-true, same_addr-sym, never_before, before_apart}
use Rattle.demand_spec.specs.Laws.{In}

-- what is found, or listed, behind an address stands behind it

pub before_member : (a : Addr) (xs : List Addr) (x : Addr) → IsBeforeAll a xs → In x xs → IsBefore a x
before_member a [] x h k = absurd k
before_member a (y ∷ xs) x h (inl e) = subst (IsBefore a) (sym e) h.0
before_member a (y ∷ xs) x h (inr k) = before_member a xs x h.1 k

pub before_found : {A : Type 0} (a : Addr) (es : List (Addr × A)) (x : Addr) (v : A) → IsBeforeAll a (addresses es) → entry_at es x ≡ Some v → IsBefore a x
before_found a [] x v h e = cc
before_found a (c ∷ es) x v h e = go (same_addr x c.0) refl e (before_found a es x v h.1)
  where
    go : (q : Bool) → same_addr x c.0 ≡ q → cond q (Some c.1) (entry_at es x) ≡ Some v → (entry_at es x ≡ Some v → IsBefore a x) → IsBefore a x
    go true p e k = subst (IsBefore a) (sym (same_addr-true x c.0 p)) h.0
    go false p e k = k e

-- nothing stands at an address before all of a list
pub none_behind : {A : Type 0} (a : Addr) (es : List (Addr × A)) → IsBeforeAll a (addresses es) → entry_at es a ≡ None
none_behind {A = A} a es h = go (entry_at es a) refl
  where
    go : (o : Option A) → entry_at es a ≡ o → o ≡ None
    go None e = refl
    go (Some v) e = absurd (never_before a (before_found a es a v h e))

first_entry : {A : Type 0} (e : Addr × A) (es : List (Addr × A)) → entry_at (e ∷ es) e.0 ≡ Some e.1
first_entry e es = ap (λ t. cond t (Some e.1) (entry_at es e.0)) (same_addr-refl e.0)

-- the same members

pub one_list : (xs ys : List Addr) → InOrder xs → InOrder ys → ((a : Addr) → In a xs ↔ In a ys) → xs ≡ ys
one_list [] [] o p h = refl
one_list [] (y ∷ ys) o p h = absurd ((h y).1 (inl refl))
one_list (x ∷ xs) [] o p h = absurd ((h x).0 (inl refl))
one_list (x ∷ xs) (y ∷ ys) o p h = (let rest : xs ≡ ys = one_list xs ys o.1 p.1 (λ a. (to a, from a)) in λ i. first i ∷ rest i)
  where
    first : x ≡ y
    first = ⊎_elim (λ (e : x ≡ y). e) (λ (k : In x ys). ⊎_elim (λ (e : y ≡ x). sym e) (λ (m : In y xs). absurd (before_apart y x (before_member y ys x p.0 k) (before_member x xs y o.0 m))) ((h y).1 (inl refl))) ((h x).0 (inl refl))

    to : (a : Addr) → In a xs → In a ys
    to a k = ⊎_elim (λ (e : a ≡ y). absurd (never_before x (subst (IsBefore x) (e ∙ sym first) (before_member x xs a o.0 k)))) (λ (m : In a ys). m) ((h a).0 (inr k))

    from : (a : Addr) → In a ys → In a xs
    from a k = ⊎_elim (λ (e : a ≡ x). absurd (never_before y (subst (IsBefore y) (e ∙ first) (before_member y ys a p.0 k)))) (λ (m : In a xs). m) ((h a).1 (inr k))

-- the same look-ups

same_first : {A : Type 0} (e f : Addr × A) (es fs : List (Addr × A)) → InOrder (addresses (e ∷ es)) → InOrder (addresses (f ∷ fs)) → ((a : Addr) → entry_at (e ∷ es) a ≡ entry_at (f ∷ fs) a) → (e.0 ≡ f.0) × (e.1 ≡ f.1)
same_first e f es fs o p h = go (same_addr e.0 f.0) refl (sym (h e.0) ∙ first_entry e es) (h f.0 ∙ first_entry f fs)
  where
    go : (t : Bool) → same_addr e.0 f.0 ≡ t → cond (same_addr e.0 f.0) (Some f.1) (entry_at fs e.0) ≡ Some e.1 → cond (same_addr f.0 e.0) (Some e.1) (entry_at es f.0) ≡ Some f.1 → (e.0 ≡ f.0) × (e.1 ≡ f.1)
    go true is k l =
        let found : Some f.1 ≡ Some e.1 = ap (λ t. cond t (Some f.1) (entry_at fs e.0)) (sym is) ∙ k in
        let same : e.1 ≡ f.1 = cc in
        (same_addr-true e.0 f.0 is, same)
    go false is k l =
        let first : entry_at fs e.0 ≡ Some e.1 = ap (λ t. cond t (Some f.1) (entry_at fs e.0)) (sym is) ∙ k in
        let other : same_addr f.0 e.0 ≡ false = same_addr-sym f.0 e.0 ∙ is in
        let second : entry_at es f.0 ≡ Some f.1 = ap (λ t. cond t (Some e.1) (entry_at es f.0)) (sym other) ∙ l in
        absurd (before_apart e.0 f.0 (before_found e.0 es f.0 f.1 o.0 second) (before_found f.0 fs e.0 e.1 p.0 first))

same_rest : {A : Type 0} (e f : Addr × A) (es fs : List (Addr × A)) → InOrder (addresses (e ∷ es)) → InOrder (addresses (f ∷ fs)) → ((a : Addr) → entry_at (e ∷ es) a ≡ entry_at (f ∷ fs) a) → e.0 ≡ f.0 → (a : Addr) → entry_at es a ≡ entry_at fs a
same_rest e f es fs o p h is a = go (same_addr a e.0) refl
  where
    none : {B : Type 0} (d : Addr × B) (ds : List (Addr × B)) → InOrder (addresses (d ∷ ds)) → same_addr a d.0 ≡ true → entry_at ds a ≡ None
    none d ds q k = none_behind a ds (subst (λ z. IsBeforeAll z (addresses ds)) (sym (same_addr-true a d.0 k)) q.0)

    go : (t : Bool) → same_addr a e.0 ≡ t → entry_at es a ≡ entry_at fs a
    go true k = none e es o k ∙ sym (none f fs p (ap (same_addr a) (sym is) ∙ k))
    go false k =
        ap (λ t. cond t (Some e.1) (entry_at es a)) (sym k) ∙ h a
        ∙ ap (λ t. cond t (Some f.1) (entry_at fs a)) (ap (same_addr a) (sym is) ∙ k)

pub one_map : {A : Type 0} (es fs : List (Addr × A)) → InOrder (addresses es) → InOrder (addresses fs) → ((a : Addr) → entry_at es a ≡ entry_at fs a) → es ≡ fs
one_map [] [] o p h = refl
one_map [] (f ∷ fs) o p h = (let none : None ≡ Some f.1 = h f.0 ∙ first_entry f fs in absurd (cc))
one_map (e ∷ es) [] o p h = (let none : None ≡ Some e.1 = sym (h e.0) ∙ first_entry e es in absurd (cc))
one_map (e ∷ es) (f ∷ fs) o p h =
    let first = same_first e f es fs o p h in
    let rest : es ≡ fs = one_map es fs o.1 p.1 (same_rest e f es fs o p h first.0) in
    λ i. (first.0 i, first.1 i) ∷ rest i
