-- Many cells changed at once.
use Rattle.std.proofs.Common.{◌≡◌, ℕ, zero, suc, ◌+◌, ◌≤◌, ◌<◌, cond, not, ◌||◌, ◌&&◌, Bool, true, false, List, [], ◌∷◌, ◌++◌, Option, Some, None, is_some, IsSome, length, take, drop, get_or, drop-cons, take-append-drop, refl, sym, ap, subst, ◌∙◌, arith}
use Rattle.std.specs.Map.{keys_of}
use Rattle.std.proofs.lemmas.List.{take_more}
use Rattle.cell_values.specs.declared.address.Addr.{Addr}
use Rattle.cell_values.specs.Addresses.{same_addr}
use Rattle.cell_values.specs.Order.{InOrder, addresses, entry_at}
use Rattle.cell_values.proofs.Order.{same_addr-refl, same_addr-sym, same_addr-true}
use Rattle.demand_spec.specs.Book.{Content}
use Rattle.demand_spec.specs.Listed.{IsSoundAt}
use Rattle.formula_trees.specs.Expr.{Expr}
use Rattle.formula_trees.specs.Shifted.{shifted}
use Rattle.formula_trees.specs.Sound.{IsSound}
use Rattle.formula_trees.proofs.Shifts.{sound_shifted}
use Rattle.demand_spec.proofs.OneList.{one_map}
use Rattle.shared_expressions.specs.declared.nodes.ExprId.{ExprId}
use Rattle.shared_expressions.specs.Trees.{Trees, tree_at, KeepsTrees, StandsFor}
use Rattle.workbook_core.specs.declared.Content.{Content as Held}
use Rattle.workbook_core.specs.Copies.{among, empty_among, written, SetsAll, Writes, IsCopy, AreCopies, CopiesTo, IsPlain}
use Rattle.workbook_core.specs.Held.{content_in, SetsHeld}
use Rattle.workbook_core.proofs.Counting.{any_append}
use Rattle.workbook_core.proofs.Growth.{held_stays, content_same}

-- the addresses so far, one more

pub among_more : (xs : List Addr) (i : ℕ) (d : Addr) → i < length xs → (a : Addr) → among (take (i + 1) xs) a ≡ (among (take i xs) a || same_addr a (get_or xs i d))
among_more xs i d l a = ap (λ ys. among ys a) (take_more xs i d l) ∙ any_append a (take i xs) (get_or xs i d ∷ []) ∙ ap (λ t. among (take i xs) a || t) (or_false (same_addr a (get_or xs i d)))
  where
    or_false : (t : Bool) → (t || false) ≡ t
    or_false true = refl
    or_false false = refl

pub sets_more : (xs : List Addr) (i : ℕ) (d : Addr) (held : Option Held) (old mid new : List (Addr × Held)) → i < length xs → SetsAll (take i xs) held old mid → SetsHeld (get_or xs i d) held mid new → SetsAll (take (i + 1) xs) held old new
sets_more xs i d held old mid new l s t = record {
  order = t.order;
  lookups = λ a. t.lookups a ∙ both a (same_addr (get_or xs i d) a) refl (among (take i xs) a) refl;
}
  where
    both : (a : Addr) (t : Bool) → same_addr (get_or xs i d) a ≡ t → (u : Bool) → among (take i xs) a ≡ u → cond (same_addr (get_or xs i d) a) held (entry_at mid a) ≡ cond (among (take (i + 1) xs) a) held (entry_at old a)
    both a t et u eu =
        let now : among (take (i + 1) xs) a ≡ (u || t) = among_more xs i d l a ∙ (λ k. eu k || ((same_addr-sym a (get_or xs i d) ∙ et) k)) in
        ap (λ b. cond b held (entry_at mid a)) et ∙ ap (cond t held) (s.lookups a ∙ ap (λ b. cond b held (entry_at old a)) eu) ∙ or_cond t u ∙ ap (λ b. cond b held (entry_at old a)) (sym now)
      where
        or_cond : (v w : Bool) → cond v held (cond w held (entry_at old a)) ≡ cond (w || v) held (entry_at old a)
        or_cond true true = refl
        or_cond true false = refl
        or_cond false true = refl
        or_cond false false = refl

pub sets_none : (xs : List Addr) (held : Option Held) (old : List (Addr × Held)) → InOrder (addresses old) → SetsAll (take 0 xs) held old old
sets_none xs held old o = record { order = o; lookups = λ a. refl }

among_take : (xs : List Addr) (i : ℕ) (a : Addr) → among (take i xs) a ≡ true → among xs a ≡ true
among_take xs i a e = ap (λ ys. among ys a) (sym (take-append-drop i xs)) ∙ any_append a (take i xs) (drop i xs) ∙ ap (λ t. t || among (drop i xs) a) e

-- cells that were empty, filled and cleared again
pub undone : (xs : List Addr) (i : ℕ) (held : Option Held) (old mid new : List (Addr × Held)) → InOrder (addresses old) → ((a : Addr) → among xs a ≡ true → entry_at old a ≡ None) → SetsAll (take i xs) held old mid → SetsAll (take i xs) None mid new → new ≡ old
undone xs i held old mid new o empty s t = one_map new old t.order o (λ a. t.lookups a ∙ go a (among (take i xs) a) refl)
  where
    go : (a : Addr) (u : Bool) → among (take i xs) a ≡ u → cond (among (take i xs) a) None (entry_at mid a) ≡ entry_at old a
    go a true e = ap (λ b. cond b None (entry_at mid a)) e ∙ sym (empty a (among_take xs i a e))
    go a false e = ap (λ b. cond b None (entry_at mid a)) e ∙ s.lookups a ∙ ap (λ b. cond b held (entry_at old a)) e

pub one_at_most : (t : Bool) → cond t 0 1 ≤ 1
one_at_most true = omega arith
one_at_most false = omega arith

-- contents put in turn

pub among_key : (xs : List (Addr × Held)) (i : ℕ) (d : Addr × Held) → i < length xs → among (keys_of xs) (get_or xs i d).0 ≡ true
among_key [] i d l = absurd (omega arith)
among_key (x ∷ xs) zero d l = ap (λ t. t || among (keys_of xs) x.0) (same_addr-refl x.0)
among_key (x ∷ xs) (suc i) d l = or_true (same_addr (get_or xs i d).0 x.0) (among (keys_of xs) (get_or xs i d).0) (among_key xs i d (omega arith))
  where
    or_true : (t u : Bool) → u ≡ true → (t || u) ≡ true
    or_true true u e = refl
    or_true false u e = e

pub written_more : (xs : List (Addr × Held)) (i : ℕ) (d : Addr × Held) (mid new : List (Addr × Held)) → i < length xs → SetsHeld (get_or xs i d).0 (Some (get_or xs i d).1) mid new → written (drop (i + 1) xs) (entry_at new) ≡ written (drop i xs) (entry_at mid)
written_more xs i d mid new l s =
    let next : i + 1 ≡ suc i = omega arith in
    (λ k. written (drop (next k) xs) (λ a. s.lookups a k)) ∙ ap (λ ys. written ys (entry_at mid)) (sym (drop-cons xs i d l))

pub stays_there : (at : Addr) (h : Held) (mid new : List (Addr × Held)) → SetsHeld at (Some h) mid new → (a : Addr) → IsSome (entry_at mid a) → IsSome (entry_at new a)
stays_there at h mid new s a e = ap is_some (s.lookups a) ∙ go (same_addr at a)
  where
    go : (t : Bool) → is_some (cond t (Some h) (entry_at mid a)) ≡ true
    go true = refl
    go false = e

-- one copy more

keys_append : (at : Addr) (h : Held) (ys : List (Addr × Held)) → keys_of (ys ++ (at, h) ∷ []) ≡ keys_of ys ++ at ∷ []
keys_append at h [] = refl
keys_append at h (y ∷ ys) = ap (λ zs. y.0 ∷ zs) (keys_append at h ys)

pub keys_more : (xs : List (Addr × Held)) (at : Addr) (h : Held) (ks : List Addr) (i : ℕ) (d : Addr) → i < length ks → keys_of xs ≡ take i ks → at ≡ get_or ks i d → keys_of (xs ++ (at, h) ∷ []) ≡ take (i + 1) ks
keys_more xs at h ks i d l e is = keys_append at h xs ∙ (λ k. e k ++ is k ∷ []) ∙ sym (take_more ks i d l)

copies_append : (p : Trees) (c : Content) (cs : List (Addr × Held)) (at : Addr) (h : Held) → AreCopies p c cs → IsCopy p c at h → AreCopies p c (cs ++ (at, h) ∷ [])
copies_append p c [] at h k i = (i, tt)
copies_append p c (x ∷ cs) at h k i = (k.0, copies_append p c cs at h k.1 i)

copy_stays : (p q : Trees) (c : Content) (a : Addr) (h : Held) → KeepsTrees p q → IsCopy p c a h → IsCopy q c a h
copy_stays p q c a h k i =
    let same : content_in q h ≡ content_in p h = content_same p q h k i.id in
    record {
      id = held_stays p q h k i.id;
      sound = subst (IsSoundAt a) (sym same) i.sound;
      same = i.same ∙ ap Some (sym same);
    }

copies_stay : (p q : Trees) (c : Content) (cs : List (Addr × Held)) → KeepsTrees p q → AreCopies p c cs → AreCopies q c cs
copies_stay p q c [] k h = tt
copies_stay p q c (x ∷ cs) k h = (copy_stays p q c x.0 x.1 k h.0, copies_stay p q c cs k h.1)

pub kept_twice : (p q r : Trees) → KeepsTrees p q → KeepsTrees q r → KeepsTrees p r
kept_twice p q r h k = record {
  longer = omega (arith, h.longer, k.longer);
  keeps = λ i l. k.keeps i (omega (arith, l, h.longer)) ∙ h.keeps i l;
}

-- a formula that is shifted and shared
pub shared_copy : (q : Trees) (e copy : Expr) (at : Addr) (id : ExprId) → copy ≡ shifted at e → IsSound at copy → StandsFor q id copy → IsCopy q (Content.Formula e) at (Held.Formula id)
shared_copy q e copy at id is sound s = record {
  id = s.there;
  sound = subst (IsSound at) (sym s.same) sound;
  same = ap (λ x. Some (Content.Formula x)) (sym (s.same ∙ is));
}

-- one that stays what it is
pub staying_copy : (p : Trees) (e : Expr) (from at : Addr) (id : ExprId) → id.0 < length p → tree_at p id ≡ e → IsSound from e → shifted at e ≡ e → IsCopy p (Content.Formula e) at (Held.Formula id)
staying_copy p e from at id there is sound same = record {
  id = there;
  sound = subst (IsSound at) (same ∙ sym is) (sound_shifted from at e sound);
  same = ap (λ x. Some (Content.Formula x)) (same ∙ sym is);
}

pub formulas_more : (p q : Trees) (e : Expr) (cs : List (Addr × Held)) (at : Addr) (id : ExprId) → KeepsTrees p q → AreCopies p (Content.Formula e) cs → IsCopy q (Content.Formula e) at (Held.Formula id) → AreCopies q (Content.Formula e) (cs ++ (at, Held.Formula id) ∷ [])
formulas_more p q e cs at id k h i = copies_append q (Content.Formula e) cs at (Held.Formula id) (copies_stay p q (Content.Formula e) cs k h) i

plain_copy : (p : Trees) (a : Addr) (h : Held) → IsPlain h → IsCopy p (content_in p h) a h
plain_copy p a (Held.Number n) k = record { id = tt; sound = tt; same = refl }
plain_copy p a (Held.Text t) k = record { id = tt; sound = tt; same = refl }
plain_copy p a (Held.Bool b) k = record { id = tt; sound = tt; same = refl }
plain_copy p a (Held.Formula id) k = absurd k

pub plain_more : (p : Trees) (h : Held) (cs : List (Addr × Held)) (at : Addr) → IsPlain h → AreCopies p (content_in p h) cs → AreCopies p (content_in p h) (cs ++ (at, h) ∷ [])
plain_more p h cs at k c = copies_append p (content_in p h) cs at h c (plain_copy p at h k)

-- the empty ones among some

pub among_empty : (es : List (Addr × Held)) (xs : List Addr) (a : Addr) → among (empty_among es xs) a ≡ (among xs a && not (is_some (entry_at es a)))
among_empty es [] a = refl
among_empty es (x ∷ xs) a = go (same_addr a x) refl (not (is_some (entry_at es x))) refl (among_empty es xs a)
  where
    go : (t : Bool) → same_addr a x ≡ t → (u : Bool) → not (is_some (entry_at es x)) ≡ u → among (empty_among es xs) a ≡ (among xs a && not (is_some (entry_at es a))) → among (cond (not (is_some (entry_at es x))) (x ∷ empty_among es xs) (empty_among es xs)) a ≡ ((same_addr a x || among xs a) && not (is_some (entry_at es a)))
    go t is u eu h =
        ap (λ b. among (cond b (x ∷ empty_among es xs) (empty_among es xs)) a) eu ∙ by t is u eu ∙ ap (λ b. (b || among xs a) && not (is_some (entry_at es a))) (sym is)
      where
        here_is : same_addr a x ≡ true → not (is_some (entry_at es a)) ≡ not (is_some (entry_at es x))
        here_is e = ap (λ b. not (is_some (entry_at es b))) (same_addr-true a x e)

        absorb : (v w : Bool) → (v && w) ≡ (v && w)
        absorb v w = refl

        first : (v : Bool) → not (is_some (entry_at es a)) ≡ false → (v && not (is_some (entry_at es a))) ≡ not (is_some (entry_at es a))
        first true e = refl
        first false e = sym e

        by : (v : Bool) → same_addr a x ≡ v → (w : Bool) → not (is_some (entry_at es x)) ≡ w → among (cond w (x ∷ empty_among es xs) (empty_among es xs)) a ≡ ((v || among xs a) && not (is_some (entry_at es a)))
        by true e true f = ap (λ b. b || among (empty_among es xs) a) e ∙ sym (here_is e ∙ f)
        by true e false f = h ∙ first (among xs a) (here_is e ∙ f)
        by false e true f = ap (λ b. b || among (empty_among es xs) a) e ∙ h
        by false e false f = h

and_left : (t u : Bool) → (t && u) ≡ true → t ≡ true
and_left true u e = refl
and_left false u e = e

and_right : (t u : Bool) → (t && u) ≡ true → u ≡ true
and_right true u e = e
and_right false u e = absurd (cc)

none_from_not : (o : Option Held) → not (is_some o) ≡ true → o ≡ None
none_from_not None e = refl
none_from_not (Some h) e = absurd (cc)

pub empty_is_none : (es : List (Addr × Held)) (xs : List Addr) (a : Addr) → among (empty_among es xs) a ≡ true → entry_at es a ≡ None
empty_is_none es xs a e = none_from_not (entry_at es a) (and_right (among xs a) (not (is_some (entry_at es a))) (sym (among_empty es xs a) ∙ e))

pub empty_is_among : (es : List (Addr × Held)) (xs : List Addr) (a : Addr) → among (empty_among es xs) a ≡ true → among xs a ≡ true
empty_is_among es xs a e = and_left (among xs a) (not (is_some (entry_at es a))) (sym (among_empty es xs a) ∙ e)

-- once the empty ones are filled, all are there
pub filled : (xs : List Addr) (h : Held) (old mid : List (Addr × Held)) → SetsAll (empty_among old xs) (Some h) old mid → (a : Addr) → among xs a ≡ true → IsSome (entry_at mid a)
filled xs h old mid s a e = ap is_some (s.lookups a) ∙ go (among (empty_among old xs) a) refl
  where
    there : (t : Bool) → (true && not t) ≡ false → t ≡ true
    there true f = refl
    there false f = sym f

    go : (t : Bool) → among (empty_among old xs) a ≡ t → is_some (cond t (Some h) (entry_at old a)) ≡ true
    go true is = refl
    go false is = there (is_some (entry_at old a)) (ap (λ t. t && not (is_some (entry_at old a))) (sym e) ∙ sym (among_empty old xs a) ∙ is)

-- what stands beside an address after all are written

written_other : (cs : List (Addr × Held)) (f : Addr → Option Held) (a : Addr) → among (keys_of cs) a ≡ false → written cs f a ≡ f a
written_other [] f a e = refl
written_other (c ∷ cs) f a e = go (same_addr a c.0) refl e (written_other cs (λ b. cond (same_addr c.0 b) (Some c.1) (f b)) a)
  where
    go : (t : Bool) → same_addr a c.0 ≡ t → (t || among (keys_of cs) a) ≡ false → (among (keys_of cs) a ≡ false → written cs (λ b. cond (same_addr c.0 b) (Some c.1) (f b)) a ≡ cond (same_addr c.0 a) (Some c.1) (f a)) → written cs (λ b. cond (same_addr c.0 b) (Some c.1) (f b)) a ≡ f a
    go true is k h = absurd (cc)
    go false is k h = h k ∙ ap (λ t. cond t (Some c.1) (f a)) (same_addr-sym c.0 a ∙ is)

pub written_found : (p : Trees) (c : Content) (cs : List (Addr × Held)) (f : Addr → Option Held) (a : Addr) → AreCopies p c cs → among (keys_of cs) a ≡ true → (h : Held) × (written cs f a ≡ Some h) × IsCopy p c a h
written_found p c [] f a k e = absurd (cc)
written_found p c (x ∷ cs) f a k e = go (among (keys_of cs) a) refl (same_addr a x.0) refl e (written_found p c cs (λ b. cond (same_addr x.0 b) (Some x.1) (f b)) a k.1)
  where
    go : (u : Bool) → among (keys_of cs) a ≡ u → (t : Bool) → same_addr a x.0 ≡ t → (t || u) ≡ true → (among (keys_of cs) a ≡ true → (h : Held) × (written cs (λ b. cond (same_addr x.0 b) (Some x.1) (f b)) a ≡ Some h) × IsCopy p c a h) → (h : Held) × (written cs (λ b. cond (same_addr x.0 b) (Some x.1) (f b)) a ≡ Some h) × IsCopy p c a h
    go true is t same l rest = rest is
    go false is true same l rest = (
      x.1,
      written_other cs (λ b. cond (same_addr x.0 b) (Some x.1) (f b)) a is ∙ ap (λ t. cond t (Some x.1) (f a)) (same_addr-sym x.0 a ∙ same),
      subst (λ b. IsCopy p c b x.1) (sym (same_addr-true a x.0 same)) k.0,
    )
    go false is false same l rest = absurd (cc)

-- all copies written
pub copies_to : (p : Trees) (c : Content) (xs : List Addr) (h : Held) (cs old mid new : List (Addr × Held)) → keys_of cs ≡ xs → AreCopies p c cs → SetsAll (empty_among old xs) (Some h) old mid → Writes cs mid new → CopiesTo p c xs old new
copies_to p c xs h cs old mid new keys all s w = record {
  order = w.order;
  copies = λ a e.
      let found = written_found p c cs (entry_at mid) a all (ap (λ ks. among ks a) keys ∙ e) in
      (found.0, (λ i. w.lookups i a) ∙ found.1, found.2);
  others = λ a e.
      (λ i. w.lookups i a) ∙ written_other cs (entry_at mid) a (ap (λ ks. among ks a) keys ∙ e) ∙ s.lookups a
      ∙ ap (λ t. cond t (Some h) (entry_at old a)) (among_empty old xs a ∙ ap (λ t. t && not (is_some (entry_at old a))) e);
}
