-- Cells that a search sees, one after the other.
use Rattle.std.proofs.Common.{◌≡◌, ◌+◌, ◌≤◌, Bool, true, false, cond, not, ◌||◌, ◌⊎◌, inl, inr, ⊎_elim, List, [], ◌∷◌, ◌++◌, length, length-append, is_eq, refl, sym, ap, ◌∙◌, subst, arith}
use Rattle.std.specs.List.{list_any, filter}
use Rattle.cell_values.specs.declared.address.Addr.{Addr}
use Rattle.cell_values.specs.Addresses.{same_addr}
use Rattle.cell_values.proofs.Order.{cmp, same_cmp, same_addr-true, same_addr-refl}
use Rattle.demand_spec.specs.Laws.{In}
use Rattle.demand_spec.proofs.Members.{found_member, member_found}
use Rattle.demand_spec.proofs.Walks.{in_either, in_left, in_right}
use Rattle.support_graph.specs.declared.search.Search.{Search}
use Rattle.support_graph.specs.Steps.{IsMet, Visits, unseen}
use Rattle.support_graph.proofs.Truths.{any_same, or_right, true_false, not_true, not_false}

-- all of which `P` holds were met
pub visits_seen : (P : Addr → Type 0) (s : Search) → ((c : Addr) → P c → IsMet s c) → Visits P s s
visits_seen P s h = record {
  pending = refl;
  stays = λ c k. k;
  found = h;
  only = λ c k. inl k;
  queued = λ c k. inl k;
  kept = λ c k. k;
  known = λ c k. inl k;
  ends = λ cells k. omega arith;
}

-- what was met stays so
pub stays_met : (P : Addr → Type 0) (s t : Search) → Visits P s t → (c : Addr) → IsMet s c → IsMet t c
stays_met P s t v c (inl k) = inl (v.stays c k)
stays_met P s t v c (inr k) = inr (subst (In c) (sym v.pending) k)

pub visits_then : (P Q : Addr → Type 0) (r s t : Search) → Visits P r s → Visits Q s t → Visits (λ c. P c ⊎ Q c) r t
visits_then P Q r s t a b = record {
  pending = b.pending ∙ a.pending;
  stays = λ c k. b.stays c (a.stays c k);
  found = found;
  only = λ c k. ⊎_elim (λ (m : In c s.seen.keys). ⊎_elim (λ (n : In c r.seen.keys). inl n) (λ (n : P c). inr (inl n)) (a.only c m)) (λ (m : Q c). inr (inr m)) (b.only c k);
  queued = λ c k. ⊎_elim (λ (m : In c s.seen.keys). ⊎_elim (λ (n : In c r.seen.keys). inl n) (λ (n : In c s.todo.items). inr (b.kept c n)) (a.queued c m)) (λ (m : In c t.todo.items). inr m) (b.queued c k);
  kept = λ c k. b.kept c (a.kept c k);
  known = λ c k. ⊎_elim (λ (m : In c s.todo.items). ⊎_elim (λ (n : In c r.todo.items). inl n) (λ (n : In c s.seen.keys). inr (b.stays c n)) (a.known c m)) (λ (m : In c t.seen.keys). inr m) (b.known c k);
  ends = λ cells k. (let m = a.ends cells (λ c h. k c (inl h)) in let n = b.ends cells (λ c h. k c (inr h)) in omega (arith, m, n));
}
  where
    found : (c : Addr) → P c ⊎ Q c → IsMet t c
    found c (inl k) = stays_met Q s t b c (a.found c k)
    found c (inr k) = b.found c k

pub visits_as : (P Q : Addr → Type 0) (s t : Search) → ((c : Addr) → P c → Q c) → ((c : Addr) → Q c → P c) → Visits P s t → Visits Q s t
visits_as P Q s t f g a = record {
  pending = a.pending;
  stays = a.stays;
  found = λ c k. a.found c (g c k);
  only = λ c k. ⊎_elim (λ (m : In c s.seen.keys). inl m) (λ (m : P c). inr (f c m)) (a.only c k);
  queued = a.queued;
  kept = a.kept;
  known = a.known;
  ends = λ cells k. a.ends cells (λ c h. k c (f c h));
}

-- one more cell

-- no more pass the second test, where each that does passes the first
no_more_pass : (p q : Addr → Bool) → ((x : Addr) → q x ≡ true → p x ≡ true) → (xs : List Addr) → length (filter q xs) ≤ length (filter p xs)
no_more_pass p q h [] = omega arith
no_more_pass p q h (x ∷ xs) = go (p x) (q x) refl refl (no_more_pass p q h xs)
  where
    go : (m n : Bool) → p x ≡ m → q x ≡ n → length (filter q xs) ≤ length (filter p xs) → length (cond n (x ∷ filter q xs) (filter q xs)) ≤ length (cond m (x ∷ filter p xs) (filter p xs))
    go true true e f k = omega (arith, k)
    go true false e f k = omega (arith, k)
    go false false e f k = k
    go false true e f k = true_false (p x) (h x f) e

-- and fewer, where a cell of the list passes the first alone
fewer_pass : (p q : Addr → Bool) (cell : Addr) → ((x : Addr) → q x ≡ true → p x ≡ true) → p cell ≡ true → q cell ≡ false → (xs : List Addr) → In cell xs → length (filter q xs) + 1 ≤ length (filter p xs)
fewer_pass p q cell h a b [] k = elim k [ ]
fewer_pass p q cell h a b (x ∷ xs) (inl e) = go (p x) (q x) (subst (λ z. p z ≡ true) e a) (subst (λ z. q z ≡ false) e b) refl refl (no_more_pass p q h xs)
  where
    go : (m n : Bool) → p x ≡ true → q x ≡ false → p x ≡ m → q x ≡ n → length (filter q xs) ≤ length (filter p xs) → length (cond n (x ∷ filter q xs) (filter q xs)) + 1 ≤ length (cond m (x ∷ filter p xs) (filter p xs))
    go true false u v e f k = omega (arith, k)
    go false n u v e f k = true_false (p x) u e
    go true true u v e f k = true_false (q x) f v
fewer_pass p q cell h a b (x ∷ xs) (inr k) = go (p x) (q x) refl refl (fewer_pass p q cell h a b xs k)
  where
    go : (m n : Bool) → p x ≡ m → q x ≡ n → length (filter q xs) + 1 ≤ length (filter p xs) → length (cond n (x ∷ filter q xs) (filter q xs)) + 1 ≤ length (cond m (x ∷ filter p xs) (filter p xs))
    go true true e f k = omega (arith, k)
    go true false e f k = omega (arith, k)
    go false false e f k = k
    go false true e f k = true_false (p x) (h x f) e

pub in_seen : (cell : Addr) (old new : List Addr) → ((q : Addr) → list_any (λ x. is_eq (cmp q x)) new ≡ cond (is_eq (cmp cell q)) true (list_any (λ x. is_eq (cmp q x)) old)) → (q : Addr) → list_any (same_addr q) new ≡ (same_addr cell q || list_any (same_addr q) old)
in_seen cell old new h q = sym (any_same cmp same_addr same_cmp q new) ∙ h q ∙ (λ i. cond (same_cmp cell q i) true (any_same cmp same_addr same_cmp q old i)) ∙ go (same_addr cell q)
  where
    go : (b : Bool) → cond b true (list_any (same_addr q) old) ≡ (b || list_any (same_addr q) old)
    go true = refl
    go false = refl

-- a cell that was not seen is visited
visit_absent : (cell : Addr) (s t : Search) → t.pending.now ≡ s.pending.now → list_any (same_addr cell) s.seen.keys ≡ false → ((q : Addr) → list_any (same_addr q) t.seen.keys ≡ (same_addr cell q || list_any (same_addr q) s.seen.keys)) → t.todo.items ≡ s.todo.items ++ cell ∷ [] → Visits (λ c. c ≡ cell) s t
visit_absent cell s t pending absent seen todo = record {
  pending = pending;
  stays = λ c k. from c (inl k);
  found = λ c e. inl (from c (inr e));
  only = to;
  queued = λ c k. queued c (to c k);
  kept = λ c k. subst (In c) (sym todo) (in_left c s.todo.items (cell ∷ []) k);
  known = λ c k. known c (in_either c s.todo.items (cell ∷ []) (subst (In c) todo k));
  ends = λ cells k. ends cells (k cell refl);
}
  where
    to : (c : Addr) → In c t.seen.keys → In c s.seen.keys ⊎ (c ≡ cell)
    to c k = go (same_addr cell c) refl (sym (seen c) ∙ member_found c t.seen.keys k)
      where
        go : (b : Bool) → same_addr cell c ≡ b → (b || list_any (same_addr c) s.seen.keys) ≡ true → In c s.seen.keys ⊎ (c ≡ cell)
        go true e h = inr (sym (same_addr-true cell c e))
        go false e h = inl (found_member c s.seen.keys h)

    from : (c : Addr) → In c s.seen.keys ⊎ (c ≡ cell) → In c t.seen.keys
    from c (inl k) = found_member c t.seen.keys (seen c ∙ or_right (same_addr cell c) (list_any (same_addr c) s.seen.keys) (member_found c s.seen.keys k))
    from c (inr e) = found_member c t.seen.keys (seen c ∙ (λ i. same_addr cell (e i) || list_any (same_addr c) s.seen.keys) ∙ (λ i. same_addr-refl cell i || list_any (same_addr c) s.seen.keys))

    queued : (c : Addr) → In c s.seen.keys ⊎ (c ≡ cell) → In c s.seen.keys ⊎ In c t.todo.items
    queued c (inl k) = inl k
    queued c (inr e) = inr (subst (In c) (sym todo) (in_right c s.todo.items (cell ∷ []) (inl e)))

    known : (c : Addr) → In c s.todo.items ⊎ In c (cell ∷ []) → In c s.todo.items ⊎ In c t.seen.keys
    known c (inl k) = inl k
    known c (inr (inl e)) = inr (from c (inr e))
    known c (inr (inr e)) = elim e [ ]

    fewer : (x : Addr) → not (list_any (same_addr x) t.seen.keys) ≡ true → not (list_any (same_addr x) s.seen.keys) ≡ true
    fewer x h = go (same_addr cell x) (list_any (same_addr x) s.seen.keys) ((λ i. not (sym (seen x) i)) ∙ h)
      where
        go : (b m : Bool) → not (b || m) ≡ true → not m ≡ true
        go true m e = absurd cc
        go false m e = e

    ends : (cells : List Addr) → In cell cells → unseen cells t ≤ unseen cells s
    ends cells k =
        let a = fewer_pass (λ x. not (list_any (same_addr x) s.seen.keys)) (λ x. not (list_any (same_addr x) t.seen.keys)) cell fewer (λ i. not (absent i)) ((λ i. not (seen cell i)) ∙ (λ i. not (same_addr-refl cell i || list_any (same_addr cell) s.seen.keys))) cells k in
        let b : length t.todo.items ≡ length s.todo.items + 1 = ap length todo ∙ length-append s.todo.items (cell ∷ []) in
        omega (arith, a, b)

pub visit_new : (cell : Addr) (s t : Search) → t.pending.now ≡ s.pending.now → true ≡ not (list_any (λ x. is_eq (cmp cell x)) s.seen.keys)
    → ((q : Addr) → list_any (λ x. is_eq (cmp q x)) t.seen.keys ≡ cond (is_eq (cmp cell q)) true (list_any (λ x. is_eq (cmp q x)) s.seen.keys)) → t.todo.items ≡ s.todo.items ++ cell ∷ [] → Visits (λ c. c ≡ cell) s t
visit_new cell s t pending absent seen todo = visit_absent cell s t pending (sym (any_same cmp same_addr same_cmp cell s.seen.keys) ∙ not_true (list_any (λ x. is_eq (cmp cell x)) s.seen.keys) (sym absent)) (in_seen cell s.seen.keys t.seen.keys seen) todo

-- a cell that was seen stays so
pub visit_again : (cell : Addr) (s t : Search) → t.pending.now ≡ s.pending.now → false ≡ not (list_any (λ x. is_eq (cmp cell x)) s.seen.keys) → t.seen.keys ≡ s.seen.keys → t.todo.items ≡ s.todo.items → Visits (λ c. c ≡ cell) s t
visit_again cell s t pending there same todo = record {
  pending = pending;
  stays = λ c k. subst (In c) (sym same) k;
  found = λ c e. inl (found c e);
  only = λ c k. inl (subst (In c) same k);
  queued = λ c k. inl (subst (In c) same k);
  kept = λ c k. subst (In c) (sym todo) k;
  known = λ c k. inl (subst (In c) todo k);
  ends = λ cells k. (let e : unseen cells t ≡ unseen cells s = λ i. length (filter (λ c. not (list_any (same_addr c) (same i))) cells) + length (todo i) in omega (arith, e));
}
  where
    found : (c : Addr) → c ≡ cell → In c t.seen.keys
    found c e = subst (In c) (sym same) (found_member c s.seen.keys ((λ i. list_any (same_addr (e i)) s.seen.keys) ∙ sym (any_same cmp same_addr same_cmp cell s.seen.keys) ∙ not_false (list_any (λ x. is_eq (cmp cell x)) s.seen.keys) (sym there)))
