-- The cell of a loop that leads it: the one with the least address.
use Rattle.std.proofs.Common.{◌≡◌, ℕ, Bool, true, false, not, inl, inr, ◌⊎◌, ⊎_elim, Option, Some, None, List, [], ◌∷◌, Ordering, Less, Equal, Greater, refl, sym, ap, ◌∙◌, subst, arith}
use Rattle.std.specs.Prelude.{is_some}
use Rattle.std.specs.List.{list_all}
use Rattle.std.proofs.lemmas.Bool.{and_parts, and_from, cases_Bool, not-true, not_from_false}
use Rattle.cell_values.specs.declared.address.Addr.{Addr}
use Rattle.cell_values.specs.Addresses.{IsBefore}
use Rattle.cell_values.specs.Order.{IsBeforeAll}
use Rattle.cell_values.proofs.Order.{cmp, cmp_less, cmp_equal, cmp_greater, never_before, before_trans}
use Rattle.demand_spec.specs.Book.{Book}
use Rattle.demand_spec.specs.Edits.{is_before}
use Rattle.demand_spec.specs.Laws.{In}
use Rattle.cycle_finder.specs.Loops.{loop_length, loop_from, leads}
use Rattle.cycle_finder.specs.Laws.{IsWholeLoop}
use Rattle.cycle_finder.proofs.Around.{loop_parts, same_length, back_on, further_on}

-- the test of the order

pub before_true : (a b : Addr) → is_before a b ≡ true → IsBefore a b
before_true a b h = grind (arith, h)

pub true_before : (a b : Addr) → IsBefore a b → is_before a b ≡ true
true_before a b (inl h) = grind (arith, h)
true_before a b (inr (e, inl h)) = grind (arith, e, h)
true_before a b (inr (e, inr (f, h))) = grind (arith, e, f, h)

pub not_before : (a b : Addr) → (IsBefore a b → ⊥) → is_before a b ≡ false
not_before a b h = ⊎_elim (λ (e : is_before a b ≡ true). absurd (h (before_true a b e))) (λ e. e) (cases_Bool (is_before a b))

pub false_before : (a b : Addr) → is_before a b ≡ false → IsBefore a b → ⊥
false_before a b e h = (let k : true ≡ false = sym (true_before a b h) ∙ e in cc)

pub same_or_behind : (a b : Addr) → is_before a b ≡ false → (a ≡ b) ⊎ IsBefore b a
same_or_behind a b h = go (cmp a b) refl
  where
    go : (o : Ordering) → cmp a b ≡ o → (a ≡ b) ⊎ IsBefore b a
    go Less e = absurd (false_before a b h (cmp_less a b e))
    go Equal e = inl (cmp_equal a b e)
    go Greater e = inr (cmp_greater a b e)

-- tests of all members

all_members : (p : Addr → Bool) (xs : List Addr) → list_all p xs ≡ true → (x : Addr) → In x xs → p x ≡ true
all_members p [] h x k = absurd k
all_members p (y ∷ xs) h x (inl e) = ap p e ∙ (and_parts (p y) (list_all p xs) h).0
all_members p (y ∷ xs) h x (inr k) = all_members p xs (and_parts (p y) (list_all p xs) h).1 x k

members_all : (p : Addr → Bool) (xs : List Addr) → ((x : Addr) → In x xs → p x ≡ true) → list_all p xs ≡ true
members_all p [] h = refl
members_all p (y ∷ xs) h = and_from (p y) (list_all p xs) (h y (inl refl)) (members_all p xs (λ x k. h x (inr k)))

pub all_behind : (a : Addr) (xs : List Addr) → ((x : Addr) → In x xs → IsBefore a x) → IsBeforeAll a xs
all_behind a [] h = tt
all_behind a (x ∷ xs) h = (h x (inl refl), all_behind a xs (λ y k. h y (inr k)))

-- the leader

pub leads_length : (b : Book) (c : Addr) → leads b c ≡ true → (n : ℕ) × (loop_length b c ≡ Some n)
unfolding leads
leads_length b c h = go (loop_length b c) refl (and_parts (is_some (loop_length b c)) (list_all (λ x. not (is_before x c)) (loop_from b c)) h).0
  where
    go : (o : Option ℕ) → loop_length b c ≡ o → is_some o ≡ true → (n : ℕ) × (loop_length b c ≡ Some n)
    go (Some n) e k = (n, e)
    go None e k = cc

pub leads_least : (b : Book) (c : Addr) → leads b c ≡ true → (x : Addr) → In x (loop_from b c) → is_before x c ≡ false
unfolding leads
leads_least b c h x k = not-true (is_before x c) (all_members (λ y. not (is_before y c)) (loop_from b c) (and_parts (is_some (loop_length b c)) (list_all (λ y. not (is_before y c)) (loop_from b c)) h).1 x k)

pub least_leads : (b : Book) (c : Addr) (n : ℕ) → loop_length b c ≡ Some n → ((x : Addr) → In x (loop_from b c) → is_before x c ≡ false) → leads b c ≡ true
unfolding leads
least_leads b c n e h = and_from (is_some (loop_length b c)) (list_all (λ x. not (is_before x c)) (loop_from b c)) (ap is_some e) (members_all (λ x. not (is_before x c)) (loop_from b c) (λ x k. not_from_false (is_before x c) (h x k)))

-- one loop has one leader
pub one_leader : (b : Book) (c d : Addr) → leads b c ≡ true → leads b d ≡ true → In d (loop_from b c) → d ≡ c
one_leader b c d h k m =
    let n = leads_length b c h in
    let back : In c (loop_from b d) = back_on b c n.0 n.1 d m in
    ⊎_elim (λ (e : d ≡ c). e) (λ (l : IsBefore c d). absurd (false_before c d (leads_least b d k c back) l)) (same_or_behind d c (leads_least b c h d m))

record Least (xs : List Addr) : Type 0 where
  cell : Addr
  there : In cell xs
  least : (x : Addr) → In x xs → is_before x cell ≡ false

least_of : (c : Addr) (xs : List Addr) → Least (c ∷ xs)
least_of c [] = record { cell = c; there = inl refl; least = λ x k. not_before x c (⊎_elim (λ (e : x ≡ c). λ h. never_before c (subst (λ z. IsBefore z c) e h)) (λ (m : ⊥). absurd m) k) }
least_of c (y ∷ xs) = go (least_of y xs)
  where
    go : Least (y ∷ xs) → Least (c ∷ y ∷ xs)
    go m = ⊎_elim
        (λ (e : is_before c m.cell ≡ true). record {
          cell = c;
          there = inl refl;
          least = λ x k. not_before x c (⊎_elim
              (λ (q : x ≡ c). λ h. never_before c (subst (λ z. IsBefore z c) q h))
              (λ (q : In x (y ∷ xs)). λ h. false_before x m.cell (m.least x q) (before_trans x c m.cell h (before_true c m.cell e)))
              k);
        })
        (λ (e : is_before c m.cell ≡ false). record {
          cell = m.cell;
          there = inr m.there;
          least = λ x k. ⊎_elim (λ (q : x ≡ c). ap (λ z. is_before z m.cell) q ∙ e) (λ (q : In x (y ∷ xs)). m.least x q) k;
        })
        (cases_Bool (is_before c m.cell))

-- each loop has one
pub record Leader (b : Book) (c : Addr) : Type 0 where
  pub cell : Addr
  pub there : In cell (loop_from b c)
  pub leading : leads b cell ≡ true

pub leader_of : (b : Book) (c : Addr) (n : ℕ) → loop_length b c ≡ Some n → Leader b c
leader_of b c n e =
    let p = loop_parts b c n e in
    let m = least_of c p.rest in
    let there : In m.cell (loop_from b c) = subst (In m.cell) (sym p.parts) m.there in
    record {
      cell = m.cell;
      there = there;
      leading = least_leads b m.cell n (same_length b c n e m.cell there) (λ x k. m.least x (subst (In x) p.parts (further_on b c n e m.cell x there k)));
    }

-- the loop of a leader is a whole one
pub led_whole : (b : Book) (c : Addr) → leads b c ≡ true → IsWholeLoop b (loop_from b c)
led_whole b c h =
    let n = leads_length b c h in
    let p = loop_parts b c n.0 n.1 in
    record {
      first = c;
      rest = p.rest;
      parts = p.parts;
      loop = p.loop;
      least = all_behind c p.rest (λ x k. ⊎_elim
          (λ (e : x ≡ c). absurd (p.loop.apart.0 (subst (λ z. In z p.rest) e k)))
          (λ (l : IsBefore c x). l)
          (same_or_behind x c (leads_least b c h x (subst (In x) (sym p.parts) (inr k)))));
    }
